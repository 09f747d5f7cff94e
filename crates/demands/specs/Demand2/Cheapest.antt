-- The cheapest total is what the cheapest choice of processors costs: no choice costs less, and one costs just that.
use Rattle.std.specs.Prelude.{ℕ, ◌≤◌, ◌<◌, ◌≡◌}
use Rattle.rules.specs.Folds.{sum}
use Rattle.rules.specs.Workflow.{Workflow}
use Rattle.rules.specs.Ranks.{cost, lowest_cost, cheapest_total}
use Rattle.laws.specs.Folds.{sum_same, sum_at_most, lowest_at_most, lowest_attained}

-- A processor for each task.
abbrev pub Assignment : Workflow → (ℕ → ℕ) → Type 0
Assignment W on = (i : ℕ) → i < W.tasks → on i < W.processors

abbrev pub costs_in_all : Workflow → (ℕ → ℕ) → ℕ
costs_in_all W on = sum W.tasks (λ i. cost W i (on i))

module _ (W : Workflow) where
  pub cheapest_at_most_any : (on : ℕ → ℕ) → Assignment W on → cheapest_total W ≤ costs_in_all W on
  unfolding cheapest_total lowest_cost
  cheapest_at_most_any on each = sum_at_most W.tasks _ _ (λ i l. lowest_at_most W.processors (cost W i) (on i) (each i l))

  pub cheapest_attained : 1 ≤ W.processors → (on : ℕ → ℕ) × Assignment W on × (costs_in_all W on ≡ cheapest_total W)
  unfolding cheapest_total lowest_cost
  cheapest_attained some = (
    λ i. (lowest_attained W.processors (cost W i) some).0,
    λ i l. (lowest_attained W.processors (cost W i) some).1,
    sum_same W.tasks _ _ (λ i l. (lowest_attained W.processors (cost W i) some).2),
  )
