-- What a joined test tells of its parts, and what the tests say of multiplied numbers.
use Rattle.std.specs.Prelude.{ℕ, ◌*◌, ◌≤◌, ◌≡◌, refl, Bool, true, false, cond, ◌&&◌, ◌||◌, ◌⊎◌, ltb, leb, eqb}
use Rattle.std.proofs.Common.{ap, true≢false, inl, inr, mul-le-mul_left, ltb-true, ltb-false, leb-true, leb-false, eqb-true, lt-ltb, le-ltb, le-leb, eq-eqb, ne_eqb}
use Rattle.std.proofs.lemmas.Bool.{false≢true, eqb-false, lt-leb}
use Rattle.std.proofs.Math.Nat.{mul-lt-mul_of_pos_left, eq_of_mul-eq-mul_left}

-- What holds of the one where the test passes, and of the other where it does not, holds of what is taken.
pub cond_either {ℓ κ} : {A : Type ℓ} (P : A → Type κ) (t : Bool) (x y : A) → (t ≡ true → P x) → (t ≡ false → P y) → P (cond t x y)
cond_either P true x y one other = one refl
cond_either P false x y one other = other refl

-- Two values that are the same where the test passes.
pub cond_same {ℓ} : {A : Type ℓ} (t : Bool) (z : A) {x y : A} → (t ≡ true → x ≡ y) → cond t x z ≡ cond t y z
cond_same true z same = same refl
cond_same false z same = refl

-- A function of what is taken.
pub cond_mapped {ℓ κ} : {A : Type ℓ} {B : Type κ} (f : A → B) (t : Bool) (x y : A) → f (cond t x y) ≡ cond t (f x) (f y)
cond_mapped f true x y = refl
cond_mapped f false x y = refl

pub and_both : (s t : Bool) → (s && t) ≡ true → (s ≡ true) × (t ≡ true)
and_both true t e = (refl, e)
and_both false t e = absurd (false≢true e)

pub or_either : (s t : Bool) → (s || t) ≡ true → (s ≡ true) ⊎ (t ≡ true)
or_either true t e = inl refl
or_either false t e = inr e

pub or_neither : (s t : Bool) → (s || t) ≡ false → (s ≡ false) × (t ≡ false)
or_neither true t e = absurd (true≢false e)
or_neither false t e = (refl, e)

pub or_left : (s t : Bool) → s ≡ true → (s || t) ≡ true
or_left s t e = rw e

pub or_right : (s t : Bool) → t ≡ true → (s || t) ≡ true
or_right true t e = refl
or_right false t e = e

pub false_unless_true : (t : Bool) → (t ≡ true → ⊥) → t ≡ false
false_unless_true true h = absurd (h refl)
false_unless_true false h = refl

pub true_unless_false : (t : Bool) → (t ≡ false → ⊥) → t ≡ true
true_unless_false true h = refl
true_unless_false false h = absurd (h refl)

-- A number a of at least 1: the tests say the same of a times the numbers.
module _ (a : ℕ) (pos : 1 ≤ a) (x y : ℕ) where
  pub ltb_multiplied : ltb (a * x) (a * y) ≡ ltb x y
  ltb_multiplied = go (ltb x y) refl
    where
      go : (t : Bool) → ltb x y ≡ t → ltb (a * x) (a * y) ≡ t
      go true e = lt-ltb (a * x) (a * y) (mul-lt-mul_of_pos_left (ltb-true x y e) pos)
      go false e = le-ltb (a * x) (a * y) (mul-le-mul_left a (ltb-false x y e))

  pub leb_multiplied : leb (a * x) (a * y) ≡ leb x y
  leb_multiplied = go (leb x y) refl
    where
      go : (t : Bool) → leb x y ≡ t → leb (a * x) (a * y) ≡ t
      go true e = le-leb (a * x) (a * y) (mul-le-mul_left a (leb-true x y e))
      go false e = lt-leb (a * x) (a * y) (mul-lt-mul_of_pos_left (leb-false x y e) pos)

  pub eqb_multiplied : eqb (a * x) (a * y) ≡ eqb x y
  eqb_multiplied = go (eqb x y) refl
    where
      go : (t : Bool) → eqb x y ≡ t → eqb (a * x) (a * y) ≡ t
      go true e = eq-eqb (a * x) (a * y) (ap (λ z. a * z) (eqb-true x y e))
      go false e = ne_eqb (a * x) (a * y) (λ q. eqb-false x y e (eq_of_mul-eq-mul_left a pos x y q))
