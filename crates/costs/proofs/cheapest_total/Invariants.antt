use Prim.Native.Nat.{◌*◌, ◌≤◌}
use mathlib.Core.Path.{◌≡◌}
use Rattle.rules.specs.Folds.{sum}
use Rattle.rules.specs.Ranks.{lowest_cost}
use Rattle.laws.specs.Bounds.{cost_most}
use Rattle.lookup.specs.Flow.{flow}
use Rattle.costs.proofs.cheapest_total.Given as goal

abbrev pub invariant-loop-i : goal.invariant-loop-i
invariant-loop-i l = (l.total ≡ sum l.i (lowest_cost (flow l.r))) × (l.total ≤ cost_most * l.i)
