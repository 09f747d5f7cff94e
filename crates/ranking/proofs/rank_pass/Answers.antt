-- Fewer are left, or nothing has changed and every task passed is held up.
use mathlib.Core.Path.{◌≡◌}
use Prim.Native.Nat.{◌+◌, ◌-◌}
use Rattle.rules.specs.Workflow.{workflow}
use Rattle.lookup.specs.Flow.{flow}
use Rattle.laws.specs.Turned.{turned_none, turned_next}
use Rattle.ranking.specs.RankedLaws.{held_up_from}
use native.Mathlib.Omega.{arith}
use Rattle.ranking.proofs.rank_pass.Goals as goal

pub loop-task-init : goal.loop-task-init
unfolding workflow
loop-task-init c = turned_none c.requires.ranked_so_far (λ i l below. absurd (omega arith))

pub rank_task-now_left-requires : goal.rank_task-now_left-requires
unfolding workflow
rank_task-now_left-requires c =
    let pre = c.requires in
    let task = c.loop-task.task - 1 in
    let begin = rw (← c.from-begin.ensures) at (pre.begins_from.begin task (omega arith) (omega arith)) in
    let end = rw (← c.from-end.ensures) at (pre.begins_from.begin (task + 1) (omega arith) (omega arith)) in
    record { task_lt_tasks = (omega arith, c.loop-task.invariant.kept); begins = (begin, end) }

pub loop-task-preserved : goal.loop-task-preserved
loop-task-preserved c =
    let loop = c.loop-task in
    let again : loop.task - 1 + 1 ≡ loop.task = omega arith in
    turned_next (held_up_from (flow c.args.r.now) (loop.task - 1)) (rw again loop.invariant) c.rank_task-now_left.ensures

pub returns : goal.returns
returns c =
    let loop = c.loop-task in
    let none : loop.task ≡ 0 = omega arith in
    rw none at loop.invariant
