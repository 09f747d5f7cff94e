use Rattle.rules.specs.Ranks.{cost}
use Rattle.lookup.specs.Flow.{flow}
use Rattle.laws.specs.Filled.{Filled}
use Rattle.costs.proofs.cost_on_all.Given as goal

abbrev pub invariant-loop-j : goal.invariant-loop-j
invariant-loop-j l = Filled l.j (cost (flow l.r) l.task) l.all
