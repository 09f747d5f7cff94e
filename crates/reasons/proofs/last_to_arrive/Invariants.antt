use mathlib.Core.Path.{◌≡◌}
use Rattle.rules.specs.Folds.{largest}
use Rattle.rules.specs.Orders.{tie, higher, first}
use Rattle.rules.specs.Start.{awaited}
use Rattle.laws.specs.Stores.{at}
use Rattle.lookup.specs.Flow.{flow}
use Rattle.reasons.proofs.last_to_arrive.Given as goal

abbrev pub invariant-loop-edge : goal.invariant-loop-edge
invariant-loop-edge l =
    let minutes = awaited (flow l.r) (at l.sits) (at l.ends) l.task l.processor in
    (l.last.edge ≡ first l.edge (higher minutes tie)) × (l.last.minute ≡ largest l.edge minutes)
