-- What `lower`, `higher` and `among` say of two numbers, and that multiplied figures give the same order.
use Rattle.std.specs.Prelude.{ℕ, ◌*◌, ◌≤◌, ◌<◌, ◌≡◌, refl, Bool, true, ◌&&◌, ◌||◌, ◌⊎◌, ◌↔◌, ltb, eqb}
use Rattle.std.proofs.Common.{sym, ap, ◌∙◌, ltb-true, ltb-false, le-ltb, eqb-true, eq-eqb, ne_eqb}
use Rattle.std.proofs.Math.Bool.{false}
use Rattle.std.proofs.Math.Logic.{inl, inr, ⊎_elim}
use Rattle.std.proofs.lemmas.Bool.{eqb-false}
use Rattle.rules.specs.Orders.{Order, tie, lower, higher, among}
use Rattle.laws.specs.Tests.{and_both, or_either, or_neither, ltb_multiplied, eqb_multiplied}

-- The order with the two numbers changed over.
abbrev pub flipped : Order → Order
flipped beats i j = beats j i

eqb_flipped : (x y : ℕ) → eqb x y ≡ eqb y x
eqb_flipped x y = go (eqb y x) refl
  where
    go : (t : Bool) → eqb y x ≡ t → eqb x y ≡ t
    go true e = eq-eqb x y (sym (eqb-true y x e))
    go false e = ne_eqb x y (λ q. eqb-false y x e (sym q))

-- So what is shown of `lower` holds of `higher` with the numbers changed over.
pub higher_lower : (f : ℕ → ℕ) (next : Order) (i j : ℕ) → higher f next i j ≡ lower f (flipped next) j i
unfolding lower higher
higher_lower f next i j = ap (λ t. ltb (f j) (f i) || (t && next i j)) (eqb_flipped (f i) (f j))

module _ (f : ℕ → ℕ) (next : Order) (i j : ℕ) where
  -- i goes first: its figure is lower, or the figures are the same and `next` puts it first.
  pub lower_true : lower f next i j ≡ true → (f i < f j) ⊎ ((f i ≡ f j) × (next i j ≡ true))
  unfolding lower
  lower_true e =
      ⊎_elim (λ h. inl (ltb-true (f i) (f j) h))
      (λ h. let both = and_both (eqb (f i) (f j)) (next i j) h in inr (eqb-true (f i) (f j) both.0, both.1))
      (or_either (ltb (f i) (f j)) (eqb (f i) (f j) && next i j) e)

  -- i does not go first: its figure is not lower, and where the figures are the same `next` does not put it first.
  pub lower_false : (lower f next i j ≡ false) ↔ ((f j ≤ f i) × (f i ≡ f j → next i j ≡ false))
  unfolding lower
  lower_false = (there, back (eqb (f i) (f j)) refl)
    where
      there : (ltb (f i) (f j) || (eqb (f i) (f j) && next i j)) ≡ false → (f j ≤ f i) × (f i ≡ f j → next i j ≡ false)
      there e =
          let none = or_neither (ltb (f i) (f j)) (eqb (f i) (f j) && next i j) e in
          (ltb-false (f i) (f j) none.0, λ q. rw (eq-eqb (f i) (f j) q) at none.1)

      back : (t : Bool) → eqb (f i) (f j) ≡ t → (f j ≤ f i) × (f i ≡ f j → next i j ≡ false)
          → (ltb (f i) (f j) || (eqb (f i) (f j) && next i j)) ≡ false
      back true e h = rw (le-ltb (f i) (f j) h.0, e) (h.1 (eqb-true (f i) (f j) e))
      back false e h = rw (le-ltb (f i) (f j) h.0, e)

module _ (f : ℕ → ℕ) (next : Order) (i j : ℕ) where
  pub higher_true : higher f next i j ≡ true → (f j < f i) ⊎ ((f j ≡ f i) × (next i j ≡ true))
  higher_true e = lower_true f (flipped next) j i (sym (higher_lower f next i j) ∙ e)

  pub higher_false : (higher f next i j ≡ false) ↔ ((f i ≤ f j) × (f j ≡ f i → next i j ≡ false))
  higher_false = rw (higher_lower f next i j) (lower_false f (flipped next) j i)

-- Where nothing decides ties, the lower figure does alone.
pub lower_tie : (f : ℕ → ℕ) (i j : ℕ) → lower f tie i j ≡ ltb (f i) (f j)
unfolding lower tie
lower_tie f i j = go (ltb (f i) (f j)) (eqb (f i) (f j))
  where
    go : (s t : Bool) → (s || (t && false)) ≡ s
    go true t = refl
    go false true = refl
    go false false = refl

pub higher_tie : (f : ℕ → ℕ) (i j : ℕ) → higher f tie i j ≡ ltb (f j) (f i)
higher_tie f i j = higher_lower f tie i j ∙ unfold tie in lower_tie f j i

-- Figures that are a times others give the same order, where what decides ties is the same.
module _ (a : ℕ) (pos : 1 ≤ a) (f g : ℕ → ℕ) (next onward : Order) (i j : ℕ)
    (at_i : f i ≡ a * g i)
    (at_j : f j ≡ a * g j)
    (onward_same : next i j ≡ onward i j) where
  pub lower_multiplied : lower f next i j ≡ lower g onward i j
  unfolding lower
  lower_multiplied = rw (at_i, at_j, onward_same, ltb_multiplied a pos (g i) (g j), eqb_multiplied a pos (g i) (g j))

  pub higher_multiplied : higher f next i j ≡ higher g onward i j
  unfolding higher
  higher_multiplied = rw (at_i, at_j, onward_same, ltb_multiplied a pos (g j) (g i), eqb_multiplied a pos (g i) (g j))

-- Figures that are the same give the same order, likewise.
module _ (f g : ℕ → ℕ) (next onward : Order) (i j : ℕ) (at_i : f i ≡ g i) (at_j : f j ≡ g j) (onward_same : next i j ≡ onward i j) where
  pub lower_same : lower f next i j ≡ lower g onward i j
  unfolding lower
  lower_same = rw (at_i, at_j, onward_same)

  pub higher_same : higher f next i j ≡ higher g onward i j
  unfolding higher
  higher_same = rw (at_i, at_j, onward_same)

pub among_same : (test other : ℕ → Bool) (next onward : Order) (i j : ℕ) → test i ≡ other i → test j ≡ other j → next i j ≡ onward i j
    → among test next i j ≡ among other onward i j
unfolding among
among_same test other next onward i j at_i at_j onward_same = rw (at_i, at_j, onward_same)
