-- A task has its rank already, or is held up by a successor, or its rank is now known.
use mathlib.Core.Path.{◌≡◌}
use Rattle.rules.specs.Workflow.{workflow}
use Rattle.lookup.specs.Flow.{flow}
use Rattle.lookup.specs.Views.{view_in_range}
use Rattle.laws.specs.Turned.{turned_none}
use Rattle.laws.specs.Stores.{at}
use Rattle.ranking.specs.RankedLaws.{known_at_most}
use Rattle.ranking.specs.RankedMore.{some_left, rank_turned}
use native.Mathlib.Omega.{arith}
use Rattle.ranking.proofs.rank_task.Goals as goal

pub returns-then-ranks-task-gt0 : goal.returns-then-ranks-task-gt0
returns-then-ranks-task-gt0 c =
    let pre = c.requires in
    turned_none pre.task_lt_tasks.1 (λ unknown. absurd (omega (arith, unknown, c.if-ranks-task-gt0.true)))

pub rank_of-rank-requires : goal.rank_of-rank-requires
rank_of-rank-requires c =
    let pre = c.requires in
    let a = c.args in
    let W = flow a.r.now in
    let range = view_in_range a.r.now.bytes.now a.r.now.view c.args.r.now.good in
    let (task, so_far) = pre.task_lt_tasks in
    record { task_lt_tasks = (task, known_at_most W range a.ranks.now a.left so_far); begins = pre.begins }

pub returns-then-rank-eq0 : goal.returns-then-rank-eq0
returns-then-rank-eq0 c =
    let pre = c.requires in
    let rank-of = c.rank_of-rank in
    let if2 = c.if-rank-eq0 in
    turned_none pre.task_lt_tasks.1 (λ unknown. rank-of.ensures.not_due if2.true)

pub overflow_sub-result : goal.overflow_sub-result
unfolding workflow
overflow_sub-result c =
    let pre = c.requires in
    let a = c.args in
    let if1 = c.if-ranks-task-gt0 in
    let rank-of = c.rank_of-rank in
    let if2 = c.if-rank-eq0 in
    let W = flow a.r.now in
    let range = view_in_range a.r.now.bytes.now a.r.now.view c.args.r.now.good in
    let so_far = pre.task_lt_tasks.1 in
    let unknown : at a.ranks.now a.task ≡ 0 = omega (arith, if1.false) in
    let due = rank-of.ensures.due (omega (arith, if2.false)) in
    some_left W range a.ranks.now a.left a.task rank-of.result so_far pre.task_lt_tasks.0 unknown due.0 due.1

pub returns : goal.returns
unfolding workflow
returns c =
    let pre = c.requires in
    let a = c.args in
    let unranked = c.if-ranks-task-gt0 in
    let rank-of = c.rank_of-rank in
    let if2 = c.if-rank-eq0 in
    let W = flow a.r.now in
    let range = view_in_range a.r.now.bytes.now a.r.now.view c.args.r.now.good in
    let so_far = pre.task_lt_tasks.1 in
    let unknown : at a.ranks.now a.task ≡ 0 = omega (arith, unranked.false) in
    let due = rank-of.ensures.due (omega (arith, if2.false)) in
    rank_turned W range a.ranks.now a.left a.task rank-of.result so_far pre.task_lt_tasks.0 unknown due.0 due.1
