-- Of the windows passed, the earliest that the task would overlap is kept.
use Rattle.std.proofs.Common.{◌≡◌, arith}
use Rattle.rules.specs.Workflow.{window_of, workflow}
use Rattle.reasons.specs.MetLaws.{earliest_met_none, earliest_met_next}
use Rattle.reasons.proofs.window_met.Goals as goal

pub loop-w-init : goal.loop-w-init
loop-w-init c = earliest_met_none _ _ _ _ _

pub loop-w-preserved : goal.loop-w-preserved
unfolding window_of
loop-w-preserved c =
    let (processor, begin, end) = c.window.ensures in
    earliest_met_next _ _ c.loop-w.w _ _ _ c.loop-w.invariant (rw (processor, begin, end) at c.with_window-met.ensures)

pub returns : goal.returns
unfolding workflow
returns c =
    let all : c.loop-w.w ≡ c.args.r.now.view.windows = omega arith in
    rw all at c.loop-w.invariant
