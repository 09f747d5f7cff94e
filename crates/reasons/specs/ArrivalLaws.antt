-- Where data arrives later than at some minute there is an edge.
use Rattle.std.specs.Prelude.{ℕ, ◌<◌, ◌≡◌}
use Rattle.std.proofs.Common.{arith}
use Rattle.rules.specs.Workflow.{Workflow}
use Rattle.rules.specs.Start.{awaited, arrived}
use Rattle.rules.specs.Why.{last_to_arrive}
use Rattle.laws.specs.Highest.{largest_of_some, highest_below}

pub arrives_by_an_edge :
    (W : Workflow) (sits ends : ℕ → ℕ) (i j : ℕ) {t e m : ℕ} → e ≡ last_to_arrive W sits ends i j → m ≡ arrived W sits ends i j → t < m → e < W.edges
unfolding arrived last_to_arrive
arrives_by_an_edge W sits ends i j is minute late =
    let inputs : ℕ → ℕ = awaited W sits ends i j in
    omega (arith, is, highest_below W.edges inputs (largest_of_some W.edges inputs (omega (arith, minute))))
