-- Rows of a multiplied plan: the same tasks on the same machines, times a times, costs a times b times; so what they say is multiplied too.
use Rattle.std.specs.Prelude.{ℕ, ◌*◌, ◌≡◌, cond, ◌||◌}
use Rattle.std.proofs.Math.Path.{refl, sym, ap}
use Rattle.std.proofs.Common.{◌∙◌, mul-zero, mul-add}
use mathlib.Core.List.{List, [], ◌∷◌, map}
use Rattle.std.proofs.Math.Dec.{eqb}
use Rattle.rules.specs.Workflow.{Workflow, busy_with}
use Rattle.rules.specs.Rows.{Placed, row_of, is_placed, taken_up, busy, spent, length_of}
use Rattle.rules.specs.Multiplied.{multiplied_interval, multiplied, multiplied_row}
use Rattle.laws.specs.Tests.{cond_mapped}
use Rattle.laws.specs.Numbers.{max_multiplied}

unfoldable pub multiplied_placed : ℕ → ℕ → Placed → Placed
multiplied_placed a b p = record { task = p.task; row = multiplied_row a b p.row }

module _ (a b : ℕ) where
  pub is_placed_multiplied : (rows : List Placed) (i : ℕ) → is_placed (map (multiplied_placed a b) rows) i ≡ is_placed rows i
  unfolding is_placed multiplied_placed
  is_placed_multiplied [] i = refl
  is_placed_multiplied (p ∷ rows) i = ap (λ t. eqb p.task i || t) (is_placed_multiplied rows i)

  pub row_of_multiplied : (rows : List Placed) (i : ℕ) → row_of (map (multiplied_placed a b) rows) i ≡ multiplied_row a b (row_of rows i)
  unfolding row_of multiplied_row multiplied_placed
  row_of_multiplied [] i =
      λ t. record { processor = 0; start = sym (mul-zero a) t; finish = sym (mul-zero a) t; cost = sym (mul-zero (a * b)) t }
  row_of_multiplied (p ∷ rows) i =
      ap (cond (eqb p.task i) (multiplied_row a b p.row)) (row_of_multiplied rows i)
      ∙ sym (cond_mapped (multiplied_row a b) (eqb p.task i) p.row (row_of rows i))

  pub spent_multiplied : (rows : List Placed) → spent (map (multiplied_placed a b) rows) ≡ a * b * spent rows
  unfolding spent multiplied_row multiplied_placed
  spent_multiplied [] = sym (mul-zero (a * b))
  spent_multiplied (p ∷ rows) = rw (spent_multiplied rows) (sym (mul-add (a * b) (spent rows) p.row.cost))

  pub length_of_multiplied : (rows : List Placed) → length_of (map (multiplied_placed a b) rows) ≡ a * length_of rows
  unfolding length_of multiplied_row multiplied_placed
  length_of_multiplied [] = sym (mul-zero a)
  length_of_multiplied (p ∷ rows) = rw (length_of_multiplied rows) (max_multiplied a (length_of rows) p.row.finish)

  pub busy_multiplied :
      (W : Workflow) (rows : List Placed) (j : ℕ)
      → busy (multiplied a b W) (map (multiplied_placed a b) rows) j ≡ map (multiplied_interval a) (busy W rows j)
  unfolding busy busy_with multiplied multiplied_row multiplied_placed multiplied_interval
  busy_multiplied W [] j = refl
  busy_multiplied W (p ∷ rows) j =
      let r = p.row in
      rw (busy_multiplied W rows j)
      (sym (cond_mapped (map (multiplied_interval a)) (eqb r.processor j) (taken_up r ∷ busy W rows j) (busy W rows j)))
