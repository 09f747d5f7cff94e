use Rattle.lookup.specs.Flow.{flow}
use Rattle.cycles.specs.Marked.{MarkedSoFar}
use Rattle.cycles.proofs.leads_back.Given as goal

abbrev pub invariant-loop-left : goal.invariant-loop-left
invariant-loop-left l = MarkedSoFar (flow l.r) l.start l.marks l.left

abbrev pub decreases-loop-left : goal.decreases-loop-left
decreases-loop-left l = l.left
