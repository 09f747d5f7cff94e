-- The ranges of the rules, of the workflow that a good request means; and how long such a request is.
use Rattle.std.specs.Prelude.{◌≡◌, refl, ℕ, ◌+◌, ◌*◌, ◌<◌, ◌≤◌}
use mathlib.Core.List.{Memᴰ}
use Rattle.rules.specs.Reading.{by}
use Rattle.rules.specs.Workflow.{Interval, Workflow}
use Rattle.good.specs.Good.{Between}

pub record InRange (W : Workflow) : Type 0 where
  pub tasks_in : Between 1 W.tasks 64
  pub processors_in : Between 1 W.processors 16
  pub budget_in : W.budget ≤ 20_000_000
  pub deadline_in : (d : ℕ) → W.deadline ≡ by d → Between 1 d 200_000
  pub edges_in : W.edges ≤ 512
  pub price_in : (j : ℕ) → W.price j ≤ 100
  pub minimum_in : (j : ℕ) → W.minimum j ≤ 10_000
  pub first_minutes : (j : ℕ) (v : Interval) → Memᴰ v (W.busy_at_first j) → v.begin < v.end
  pub first_end_in : (j : ℕ) (v : Interval) → Memᴰ v (W.busy_at_first j) → v.end ≤ 20_000
  pub clock_in : W.clock ≤ 20_000
  pub minutes_most : (i j : ℕ) → W.minutes i j ≤ 2_000
  pub from_below : (e : ℕ) → e < W.edges → W.from e < W.tasks
  pub to_below : (e : ℕ) → e < W.edges → W.to e < W.tasks
  pub unequal : (e : ℕ) → e < W.edges → W.from e ≡ W.to e → ⊥
  pub transfer_in : (e : ℕ) → W.transfer e ≤ 1_000
  pub from_rises : (e : ℕ) → e + 1 < W.edges → W.from e ≤ W.from (e + 1)
  pub to_rises : (e : ℕ) → e + 1 < W.edges → W.from e ≡ W.from (e + 1) → W.to e < W.to (e + 1)

-- The most bytes of a good request: `H`, `D`, `K`, 16 `Q`s, four `M`s for each, 64 tasks with a `T` and 16 `W`s each, 512 `E`s and `Z`.
abbrev pub request_most : ℕ
request_most = 7 + 5 + 3 + 16 * 5 + 16 * 4 * 10 + 64 * (10 + 16 * 5) + 512 * 5 + 1

-- "has at most 9,056 bytes"
pub request_most_is : request_most ≡ 9_056
request_most_is = refl

-- Reading looks at no byte from there on: a 513th edge may stand where `Z` does.
abbrev pub looked_at_most : ℕ
looked_at_most = request_most + 4
