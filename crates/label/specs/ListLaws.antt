-- Laws of the list: it is document 01's ranges, sixty-four bytes with no space among them, and `stands_in` decides it.
use Rattle.std.specs.Prelude.{◌≡◌, refl, ℕ, zero, suc, ◌+◌, Bool, true, false, ◌||◌, ◌↔◌, length, eqb}
use Rattle.std.proofs.Common.{sym, eqb-true, eq-eqb}
use Rattle.std.proofs.Math.Bool.{or-true}
use Rattle.std.proofs.lemmas.Bool.{false≢true}
use mathlib.Core.List.{List, [], ◌∷◌, ◌++◌, Memᴰ}
use Rattle.label.specs.Label.{the_list, Listed}
use Rattle.label.specs.Length.{stands_in}

-- `count` bytes in a row: first, first + 1, and so on.
unfoldable pub run_of : ℕ → ℕ → List ℕ
run_of first zero = []
run_of first (suc count) = first ∷ run_of (first + 1) count

-- "`A`-`Z`, `a`-`z`, `0`-`9`, `-`, `_`."
pub the_list_is_the_ranges : the_list ≡ run_of 65 26 ++ run_of 97 26 ++ run_of 48 10 ++ (45 ∷ 95 ∷ [])
unfolding run_of
the_list_is_the_ranges = refl

-- "The list has sixty-four bytes".
pub the_list_has_sixty_four : length the_list ≡ 64
the_list_has_sixty_four = refl

member_of_stands_in : (xs : List ℕ) (b : ℕ) → stands_in xs b ≡ true → Memᴰ b xs
unfolding stands_in
member_of_stands_in [] b e = absurd (false≢true e)
member_of_stands_in (x ∷ xs) b e = go (eqb x b) refl (member_of_stands_in xs b) e
  where
    go : (t : Bool) → eqb x b ≡ t → (stands_in xs b ≡ true → Memᴰ b xs) → (t || stands_in xs b) ≡ true → Memᴰ b (x ∷ xs)
    go true same rest e = Memᴰ.head (sym (eqb-true x b same))
    go false other rest e = Memᴰ.tail (rest e)

stands_in_of_member : (xs : List ℕ) (b : ℕ) → Memᴰ b xs → stands_in xs b ≡ true
unfolding stands_in
stands_in_of_member [] b m = elim m [ ]
stands_in_of_member (x ∷ xs) b (Memᴰ.head e) = rw (eq-eqb x b (sym e))
stands_in_of_member (x ∷ xs) b (Memᴰ.tail m) = rw (stands_in_of_member xs b m) (or-true (eqb x b))

-- The computed test of any list tells membership.
pub stands_in_iff_member : (xs : List ℕ) (b : ℕ) → (stands_in xs b ≡ true) ↔ Memᴰ b xs
stands_in_iff_member xs b = (member_of_stands_in xs b, stands_in_of_member xs b)

-- "A byte passes exactly when it stands there", of the computed test.
pub stands_in_iff_listed : (b : ℕ) → (stands_in the_list b ≡ true) ↔ Listed b
stands_in_iff_listed = stands_in_iff_member the_list

-- No label has a space inside: 32 is not of the list.
pub space_not_listed : Listed 32 → ⊥
unfolding stands_in
space_not_listed m = false≢true ((stands_in_iff_listed 32).1 m)
