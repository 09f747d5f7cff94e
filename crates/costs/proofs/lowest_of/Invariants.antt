use mathlib.Core.Path.{◌≡◌}
use Rattle.rules.specs.Folds.{lowest}
use Rattle.laws.specs.Stores.{at}
use Rattle.costs.proofs.lowest_of.Given as goal

abbrev pub invariant-loop-j : goal.invariant-loop-j
invariant-loop-j l = l.low ≡ lowest l.j (at l.all)
