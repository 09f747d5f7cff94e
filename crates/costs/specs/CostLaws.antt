-- How large a cost is, and the lowest of an array of a task's costs.
use Rattle.std.specs.Prelude.{ℕ, ◌≤◌, ◌≡◌, List}
use Rattle.std.proofs.Math.Nat.{mul-le-mul}
use Rattle.std.proofs.Common.{arith}
use Rattle.rules.specs.Workflow.{Workflow}
use Rattle.rules.specs.Folds.{lowest}
use Rattle.rules.specs.Ranks.{cost, lowest_cost}
use Rattle.good.specs.Ranges as good
use Rattle.laws.specs.Bounds.{cost_most}
use Rattle.laws.specs.Folds.{lowest_same, lowest_at_most}
use Rattle.laws.specs.Stores.{at}
use Rattle.laws.specs.Filled.{Filled}

module _ (W : Workflow) (range : good.InRange W) (i : ℕ) where
  pub cost_at_most : (j : ℕ) → cost W i j ≤ cost_most
  unfolding cost
  cost_at_most j = omega (arith, range.minimum_in j, mul-le-mul (range.minutes_most i j) (range.price_in j))

  pub lowest_cost_at_most : lowest_cost W i ≤ cost_most
  unfolding lowest_cost
  lowest_cost_at_most =
      omega (arith, lowest_at_most W.processors (cost W i) 0 range.processors_in.from_low, cost_at_most 0)

  pub lowest_filled : {costs : List ℕ} → Filled W.processors (cost W i) costs → lowest W.processors (at costs) ≡ lowest_cost W i
  unfolding lowest_cost
  lowest_filled all = lowest_same W.processors _ (cost W i) all.below range.processors_in.from_low

  pub lowest_filled_at_most : {costs : List ℕ} → Filled W.processors (cost W i) costs → lowest W.processors (at costs) ≤ cost_most
  lowest_filled_at_most all = omega (arith, lowest_filled all, lowest_cost_at_most)
