-- What document 01's equation gives in range: at most 48,000 more than it is given.
use Rattle.std.specs.Prelude.{ℕ, zero, suc, ◌+◌, ◌*◌, ◌≤◌, ◌<◌, cond, eqb}
use Rattle.std.proofs.Common.{mul-le-mul, arith}
use Rattle.rules.specs.Folds.{sum, largest}
use Rattle.rules.specs.Workflow.{Workflow}
use Rattle.rules.specs.Ranks.{rank_by}
use Rattle.good.specs.Ranges.{InRange}
use Rattle.laws.specs.Bounds.{rank_added_most}
use Rattle.laws.specs.Tests.{cond_either}
use Rattle.laws.specs.Folds.{largest_at_most}

sum_within : (k : ℕ) (f : ℕ → ℕ) (most : ℕ) → ((i : ℕ) → i < k → f i ≤ most) → sum k f ≤ k * most
unfolding sum
sum_within zero f most each = omega arith
sum_within (suc k) f most each = omega (arith, sum_within k f most (λ i l. each i (omega arith)), each k (omega arith))

-- What an edge of i adds to its rank, in numbers f.
abbrev pub over_edge : Workflow → (ℕ → ℕ) → ℕ → ℕ → ℕ
over_edge W f i e = cond (eqb (W.from e) i) (W.processors * W.transfer e + f (W.to e)) 0

module _ (W : Workflow) (range : InRange W) where
  minutes_within : (i : ℕ) → sum W.processors (W.minutes i) ≤ 32_000
  minutes_within i =
      omega (
        arith,
        sum_within W.processors (W.minutes i) 2_000 (λ j l. range.minutes_most i j),
        range.processors_in.to_high,
      )

  pub transfer_within : (e : ℕ) → W.processors * W.transfer e ≤ 16_000
  transfer_within e = mul-le-mul range.processors_in.to_high (range.transfer_in e)

  pub rank_within_more : (f : ℕ → ℕ) (most : ℕ) → ((k : ℕ) → f k ≤ most) → (i : ℕ) → rank_by W f i ≤ rank_added_most + most
  unfolding rank_by
  rank_within_more f most each i =
      let over : largest W.edges (over_edge W f i) ≤ 16_000 + most =
      largest_at_most W.edges (over_edge W f i) (16_000 + most)
      (λ e l.
      cond_either (λ z. z ≤ 16_000 + most) (eqb (W.from e) i) (W.processors * W.transfer e + f (W.to e)) 0
      (λ t. omega (arith, transfer_within e, each (W.to e))) (λ t. omega arith)) in
      omega (arith, minutes_within i)
