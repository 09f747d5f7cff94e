-- What each test of the rules tells.
use Rattle.std.specs.Prelude.{ℕ, ◌≤◌, ◌<◌, ◌≡◌, refl, Bool, true, false, not, ◌&&◌, ◌||◌, ◌⊎◌, leb, ltb, eqb}
use Rattle.std.proofs.Common.{inl, inr, arith, ltb-true, ltb-false, leb-true, leb-false, eqb-true}
use Rattle.std.proofs.lemmas.Bool.{eqb-false}
use Rattle.rules.specs.Records.{within}
use Rattle.good.specs.Good.{Between}

-- The test tells whether C holds.
pub data Tells (C : Type 0) : Bool → Type 0 where
  holds : C → Tells C true
  fails : (C → ⊥) → Tells C false

pub told : {C : Type 0} (t : Bool) → (t ≡ true → C) → (t ≡ false → C → ⊥) → Tells C t
told true yes_it no_it = holds (yes_it refl)
told false yes_it no_it = fails (no_it refl)

pub leb_tells : (x y : ℕ) → Tells (x ≤ y) (leb x y)
leb_tells x y = told (leb x y) (leb-true x y) (λ e h. omega (arith, leb-false x y e))

pub ltb_tells : (x y : ℕ) → Tells (x < y) (ltb x y)
ltb_tells x y = told (ltb x y) (ltb-true x y) (λ e h. omega (arith, ltb-false x y e))

pub eqb_tells : (x y : ℕ) → Tells (x ≡ y) (eqb x y)
eqb_tells x y = told (eqb x y) (eqb-true x y) (eqb-false x y)

pub not_tells : {C : Type 0} {t : Bool} → Tells C t → Tells (C → ⊥) (not t)
not_tells (holds c) = fails (λ n. n c)
not_tells (fails n) = holds n

pub and_tells : {C C' : Type 0} {t t' : Bool} → Tells C t → Tells C' t' → Tells (C × C') (t && t')
and_tells (holds c) (holds c') = holds (c, c')
and_tells (holds c) (fails n') = fails (λ both. n' both.1)
and_tells (fails n) other = fails (λ both. n both.0)

pub or_tells : {C C' : Type 0} {t t' : Bool} → Tells C t → Tells C' t' → Tells (C ⊎ C') (t || t')
or_tells (holds c) other = holds (inl c)
or_tells (fails n) (holds c') = holds (inr c')
or_tells {C} {C'} (fails n) (fails n') = fails neither
  where
    neither : C ⊎ C' → ⊥
    neither (inl c) = n c
    neither (inr c') = n' c'

pub within_tells : (low x high : ℕ) → Tells (Between low x high) (within low x high)
unfolding within
within_tells low x high = between (and_tells (leb_tells low x) (leb_tells x high))
  where
    between : {t : Bool} → Tells ((low ≤ x) × (x ≤ high)) t → Tells (Between low x high) t
    between (holds c) = holds (record { from_low = c.0; to_high = c.1 })
    between (fails n) = fails (λ b. n (b.from_low, b.to_high))
