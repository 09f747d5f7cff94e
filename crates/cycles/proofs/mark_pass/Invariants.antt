use Rattle.lookup.specs.Flow.{flow}
use Rattle.laws.specs.Turned.{Turned}
use Rattle.cycles.specs.Marked.{MarkedSoFar, AllFollowed}
use Rattle.cycles.proofs.mark_pass.Given as goal

abbrev pub invariant-loop-e : goal.invariant-loop-e
invariant-loop-e l =
    Turned (MarkedSoFar (flow l.r) l.start) (AllFollowed (flow l.r) l.start l.e) l.initial.marks l.marks l.left l.now_left
