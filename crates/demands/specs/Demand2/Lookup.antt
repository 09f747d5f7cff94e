-- Looking a task up among those placed, when one that was not placed is added: the new row is found for it, and each other has the row that it had.
use Rattle.std.specs.Prelude.{ℕ, ◌≡◌, Bool, cond, ◌||◌, List, [], ◌∷◌}
use Rattle.std.proofs.Math.Path.{refl, ap, subst}
use Rattle.std.proofs.Common.{sym, ◌∙◌, eqb-true, eq-eqb, ne_eqb}
use Rattle.std.proofs.Math.Bool.{true, false, true≢false}
use Rattle.std.proofs.lemmas.Bool.{false≢true}
use Rattle.std.proofs.Math.Dec.{eqb}
use Rattle.rules.specs.Rows.{Row, Placed, no_row, row_of, is_placed}
use Rattle.laws.specs.Tests.{or_right, or_neither}

pub none_placed : (i : ℕ) → is_placed [] i ≡ true → ⊥
unfolding is_placed
none_placed i h = false≢true h

pub row_of_unplaced : (rows : List Placed) (i : ℕ) → is_placed rows i ≡ false → row_of rows i ≡ no_row
unfolding is_placed row_of
row_of_unplaced [] i free = refl
row_of_unplaced (p ∷ rows) i free =
    let none = or_neither (eqb p.task i) (is_placed rows i) free in
    rw none.0 (row_of_unplaced rows i none.1)

module _ (p : Placed) (before : List Placed) where
  pub new_placed : is_placed (p ∷ before) p.task ≡ true
  unfolding is_placed
  new_placed = rw (eq-eqb p.task p.task refl) refl

  pub old_placed : (i : ℕ) → is_placed before i ≡ true → is_placed (p ∷ before) i ≡ true
  unfolding is_placed
  old_placed i h = or_right (eqb p.task i) (is_placed before i) h

  pub old_row : is_placed before p.task ≡ false → (i : ℕ) → is_placed before i ≡ true → row_of (p ∷ before) i ≡ row_of before i
  unfolding row_of
  old_row free i h = rw (ne_eqb p.task i (λ same. true≢false (sym h ∙ ap (is_placed before) (sym same) ∙ free)))

  -- What holds of the new row and of each that was there holds of each.
  pub each_row {ℓ} :
      (P : ℕ → Row → Type ℓ) → P p.task p.row → ((i : ℕ) → is_placed before i ≡ true → P i (row_of before i))
      → (i : ℕ) → is_placed (p ∷ before) i ≡ true → P i (row_of (p ∷ before) i)
  unfolding is_placed row_of
  each_row P new old i = go (eqb p.task i) refl
    where
      go : (t : Bool) → eqb p.task i ≡ t → (t || is_placed before i) ≡ true → P i (cond t p.row (row_of before i))
      go true e h = subst (λ k. P k p.row) (eqb-true p.task i e) new
      go false e h = old i h
