-- "This is equation (10) of 001 over a common denominator": comparing scores is comparing the worthiness of document 001 as fractions.
use Rattle.std.specs.Prelude.{ℕ, suc, zero, ◌+◌, ◌*◌, ◌-◌, ◌≤◌, ◌≡◌, ◌↔◌}
use Rattle.std.proofs.Common.{mul-pos, mul-le-mul_right, le_of_mul-le-mul_right}
use native.Mathlib.Omega.{arith}
use Rattle.rules.specs.Method.{Question, best, latest_finish, B, F, or_one, score}

pub record Fraction : Type 0 where
  pub over : ℕ
  pub under : ℕ

abbrev pub plus : Fraction → Fraction → Fraction
plus x y = record { over = x.over * y.under + y.over * x.under; under = x.under * y.under }

abbrev pub times : Fraction → Fraction → Fraction
times x y = record { over = x.over * y.over; under = x.under * y.under }

abbrev pub AtMost : Fraction → Fraction → Type 0
AtMost x y = x.over * y.under ≤ y.over * x.under

or_one_positive : (x : ℕ) → 1 ≤ or_one x
unfolding or_one
or_one_positive zero = omega arith
or_one_positive (suc x) = omega arith

module _ (q : Question) where
  -- (7): RCB / RB.
  abbrev pub cost_coefficient : Fraction
  cost_coefficient = record { over = q.RCB; under = or_one q.RB }

  -- (8): how much earlier than the latest finish, of the range of finishes.
  abbrev pub time_rate : ℕ → Fraction
  time_rate j = record { over = latest_finish q - q.finish j; under = or_one (F q) }

  -- (9): how much cheaper than the best, of the range of costs.
  abbrev pub cost_rate : ℕ → Fraction
  cost_rate j = record { over = q.cost (best q) - q.cost j; under = or_one (B q) }

  -- (10), of a processor that may be taken.
  abbrev pub worthiness : ℕ → Fraction
  worthiness j = plus (times (cost_rate j) cost_coefficient) (time_rate j)

  -- One denominator for all.
  abbrev common : ℕ
  common = or_one (B q) * or_one q.RB * or_one (F q)

  common_positive : 1 ≤ common
  common_positive = mul-pos (mul-pos (or_one_positive (B q)) (or_one_positive q.RB)) (or_one_positive (F q))

  score_is_over : (j : ℕ) → score q j ≡ (worthiness j).over
  unfolding score
  score_is_over j = omega arith

  pub scores_compare_worthiness : (i j : ℕ) → (score q i ≤ score q j) ↔ AtMost (worthiness i) (worthiness j)
  scores_compare_worthiness i j =
      rw (score_is_over i, score_is_over j) (mul-le-mul_right common, λ h. le_of_mul-le-mul_right h common_positive)
