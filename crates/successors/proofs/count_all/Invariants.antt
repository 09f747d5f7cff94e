use Rattle.lookup.specs.Flow.{flow}
use Rattle.successors.specs.Counted.{Counted}
use Rattle.successors.proofs.count_all.Given as goal

abbrev pub invariant-loop-e : goal.invariant-loop-e
invariant-loop-e l = Counted (flow l.r) l.e l.held
