-- The array holds the finishes on the processors passed.
use Rattle.std.specs.Prelude.{◌≡◌}
use Rattle.std.proofs.Common.{arith}
use Rattle.rules.specs.Workflow.{workflow}
use Rattle.lookup.specs.Flow.{flow}
use Rattle.lookup.specs.Views.{view_in_range}
use Rattle.laws.specs.Stores.{at}
use Rattle.laws.specs.FilledLaws.{filled_none, filled_more}
use Rattle.busy.specs.Kept.{kept_by}
use Rattle.hand.specs.HandLaws.{finish_is, finish_at_most}
use Rattle.hand.proofs.finish_on_all.Goals as goal

pub loop-j-init : goal.loop-j-init
unfolding workflow
loop-j-init c = ((view_in_range c.args.r.now.bytes.now c.args.r.now.view c.args.r.now.good).processors_in.to_high, filled_none _)

-- The finish in hand.
pub overflow_add-all : goal.overflow_add-all
unfolding workflow
overflow_add-all c =
    let a = c.args in
    let busy = a.busy.now in
    let range = view_in_range a.r.now.bytes.now a.r.now.view c.args.r.now.good in
    let ended = finish_at_most _ range a.task (at a.ready.now) busy.begins busy.ends busy.first c.requires.task_lt_tasks.1 c.requires.end_by in
    let finish = finish_is (flow a.r.now) (at a.ready.now) (kept_by busy) a.task c.loop-j.j c.minutes-minutes.ensures.0 c.start_on.ensures in
    omega (arith, finish, ended c.loop-j.j c.loop-j-test.true)

pub loop-j-preserved : goal.loop-j-preserved
loop-j-preserved c =
    let (few, filled) = c.loop-j.invariant in
    (few, filled_more filled (omega arith) (finish_is _ _ _ _ _ c.minutes-minutes.ensures.0 c.start_on.ensures))

pub returns : goal.returns
returns c =
    let passed : c.loop-j.j ≡ c.args.r.now.view.processors = omega arith in
    rw passed at c.loop-j.invariant.1
