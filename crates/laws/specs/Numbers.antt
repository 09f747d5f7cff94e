-- The larger, the lower and the one that a test takes, of multiplied numbers; and going through the numbers below a count.
use Rattle.std.specs.Prelude.{ℕ, suc, ◌+◌, ◌*◌, ◌≤◌, ◌<◌, max, min, ◌≡◌, Bool, cond, ◌⊎◌}
use Rattle.std.proofs.Common.{sym, ap, ◌∙◌, ⊎_elim, inl, inr, arith, mul-zero, mul-le-mul_left, eq-or-lt_of_le, le_of_suc-le-suc}
use Rattle.std.proofs.Math.Path.{subst⁻¹}
use Rattle.std.proofs.Math.Decide.{dec_le}
use Rattle.std.proofs.Math.Nat.{max-eq_left, max-eq_right, min-eq_left, min-eq_right}
use Rattle.laws.specs.Tests.{cond_mapped}

-- What holds at k and at each number below k holds at each number below k + 1.
pub below_next {ℓ} : (P : ℕ → Type ℓ) (k : ℕ) → P k → ((i : ℕ) → i < k → P i) → (i : ℕ) → i < suc k → P i
below_next P k here below i l = ⊎_elim (λ (e : i ≡ k). subst⁻¹ P e here) (below i) (eq-or-lt_of_le (le_of_suc-le-suc l))

-- One number is at most the other, or above it.
pub below_or_on : (x y : ℕ) → (x ≤ y) ⊎ (y + 1 ≤ x)
below_or_on x y = go (dec_le x y)
  where
    go : Dec (x ≤ y) → (x ≤ y) ⊎ (y + 1 ≤ x)
    go (yes h) = inl h
    go (no h) = inr (omega arith)

-- One of two numbers is at most the other.
pub at_most_either : (x y : ℕ) → (x ≤ y) ⊎ (y ≤ x)
at_most_either x y = ⊎_elim inl (λ (h : y + 1 ≤ x). inr (omega arith)) (below_or_on x y)

module _ (x y : ℕ) where
  pub max_either : (max x y ≡ x) ⊎ (max x y ≡ y)
  max_either = ⊎_elim (λ h. inr (max-eq_right h)) (λ h. inl (max-eq_left h)) (at_most_either x y)

  pub min_either : (min x y ≡ x) ⊎ (min x y ≡ y)
  min_either = ⊎_elim (λ h. inl (min-eq_left h)) (λ h. inr (min-eq_right h)) (at_most_either x y)

module _ (a : ℕ) where
  pub max_multiplied : (x y : ℕ) → max (a * x) (a * y) ≡ a * max x y
  max_multiplied x y =
      ⊎_elim (λ (h : x ≤ y). rw (max-eq_right h, max-eq_right (mul-le-mul_left a h)))
      (λ (h : y ≤ x). rw (max-eq_left h, max-eq_left (mul-le-mul_left a h)))
      (at_most_either x y)

  pub min_multiplied : (x y : ℕ) → min (a * x) (a * y) ≡ a * min x y
  min_multiplied x y =
      ⊎_elim (λ (h : x ≤ y). rw (min-eq_left h, min-eq_left (mul-le-mul_left a h)))
      (λ (h : y ≤ x). rw (min-eq_right h, min-eq_right (mul-le-mul_left a h)))
      (at_most_either x y)

  -- The number or 0, as a test says.
  pub or_zero_multiplied : (t : Bool) (x : ℕ) → cond t (a * x) 0 ≡ a * cond t x 0
  or_zero_multiplied t x = ap (cond t (a * x)) (sym (mul-zero a)) ∙ sym (cond_mapped (λ z. a * z) t x 0)

  pub zero_or_multiplied : (t : Bool) (x : ℕ) → cond t 0 (a * x) ≡ a * cond t 0 x
  zero_or_multiplied t x = ap (λ z. cond t z (a * x)) (sym (mul-zero a)) ∙ sym (cond_mapped (λ z. a * z) t 0 x)
