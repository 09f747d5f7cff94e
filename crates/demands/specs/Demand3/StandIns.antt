-- "Where B, F or RB is 0, use 1 as B', F' or RB'": any other number in the place of 1 gives the same choices. Where one of the three is 0 the first
-- term of the score is 0 for all that may be taken, and the second orders by finish, as the tie rule does.
use Rattle.std.specs.Prelude.{ℕ, zero, suc, ◌+◌, ◌*◌, ◌-◌, ◌≤◌, ◌<◌, ◌≡◌, Bool, not, ◌&&◌, ◌||◌, ◌⊎◌, ltb, eqb}
use Rattle.std.proofs.Math.Path.{refl, sym}
use Rattle.std.proofs.Common.{ap, ◌∙◌, inl, inr, mul-zero, zero-mul, eq-zero-or-pos, mul-le-mul_right, mul-lt-mul_of_pos_right, arith, ltb-true, ltb-false, lt-ltb, le-ltb}
use Rattle.std.proofs.Math.Bool.{true, false, and-false, or-false}
use Rattle.rules.specs.Orders.{Order, tie, lower, higher, among, first}
use Rattle.rules.specs.Method.{Question, Method, best, may_be_taken, latest_finish, B, F, or_one, score, preferred, HBCS}
use Rattle.laws.specs.Folds.{at_most_largest}
use Rattle.laws.specs.First.{first_same}
use Rattle.demands.specs.Ground.Best.{best_below, may_of_test}
use Rattle.demands.specs.Demand3.ZeroRanges.{none_dearer, best_cheapest}

-- x where the number is 0, else the number.
unfoldable pub or_this : ℕ → ℕ → ℕ
or_this x zero = x
or_this x (suc k) = suc k

-- HBCS with x, y and z for F', B' and RB' where F, B or RB is 0.
unfoldable pub score_with : (x y z : ℕ) → Question → ℕ → ℕ
score_with x y z q j =
    (q.cost (best q) - q.cost j) * q.RCB * or_this x (F q) + (latest_finish q - q.finish j) * or_this y (B q) * or_this z q.RB

unfoldable pub preferred_with : (x y z : ℕ) → Question → Order
preferred_with x y z q = among (may_be_taken q) (higher (score_with x y z q) (lower q.finish tie))

unfoldable pub HBCS_with : (x y z : ℕ) → Method
HBCS_with x y z q = first q.processors (preferred_with x y z q)

or_this_positive : (x n : ℕ) → 0 < n → or_this x n ≡ or_one n
unfolding or_this or_one
or_this_positive x zero some = absurd (omega arith)
or_this_positive x (suc n) some = refl

second_term : (dearer RCB f later b r : ℕ) → dearer * RCB ≡ 0 → dearer * RCB * f + later * b * r ≡ later * (b * r)
second_term dearer RCB f later b r none = omega (arith, ap (λ n. n * f) none)

-- Figures that fall as the finish rises order as the finish does, and so does 0 for all.
by_finish :
    (finish : ℕ → ℕ) (latest c i j : ℕ) → finish i ≤ latest → finish j ≤ latest
    → higher (λ k. (latest - finish k) * c) (lower finish tie) i j ≡ ltb (finish i) (finish j)
unfolding higher lower tie
by_finish finish latest c i j at_i at_j = go c (ltb (finish i) (finish j)) refl
  where
    go :
        (c : ℕ) (t : Bool) → ltb (finish i) (finish j) ≡ t
        → (ltb ((latest - finish j) * c) ((latest - finish i) * c)
        || (eqb ((latest - finish i) * c) ((latest - finish j) * c) && (ltb (finish i) (finish j) || (eqb (finish i) (finish j) && false))))
        ≡ ltb (finish i) (finish j)
    go zero t e = rw (mul-zero (latest - finish j), mul-zero (latest - finish i), and-false (eqb (finish i) (finish j)), or-false)
    go (suc c) true e =
        let less : latest - finish j < latest - finish i = omega (arith, ltb-true (finish i) (finish j) e) in
        rw (lt-ltb _ _ (mul-lt-mul_of_pos_right {k = suc c} less (omega arith)), e)
    go (suc c) false e =
        let most : latest - finish i ≤ latest - finish j = omega (arith, ltb-false (finish i) (finish j) e) in
        rw (le-ltb _ _ (mul-le-mul_right (suc c) most), e, and-false (eqb (finish i) (finish j)), and-false)

higher_same : (f g : ℕ → ℕ) (next : Order) (i j : ℕ) → f i ≡ g i → f j ≡ g j → higher f next i j ≡ higher g next i j
unfolding higher
higher_same f g next i j at_i at_j = rw (at_i, at_j)

module _ (x y z : ℕ) (q : Question) where
  -- Of those that may be taken, where one of the three is 0: the first term is.
  abbrev OneIsZero : Type 0
  OneIsZero = (F q ≡ 0) ⊎ ((B q ≡ 0) ⊎ (q.RB ≡ 0))

  no_first_term : OneIsZero → (j : ℕ) → j < q.processors → may_be_taken q j ≡ true → (q.cost (best q) - q.cost j) * q.RCB ≡ 0
  no_first_term zero_is j l may = go zero_is
    where
      go : OneIsZero → (q.cost (best q) - q.cost j) * q.RCB ≡ 0
      go (inl none) = rw (best_cheapest q j l none) (zero-mul q.RCB)
      go (inr (inl none)) = rw (none_dearer q (best q) j (best_below q j l) l none) (zero-mul q.RCB)
      go (inr (inr none)) =
          let none_to_come : q.RCB ≡ 0 = omega (arith, (may_of_test q j l may).leaves_enough) in
          ap (λ n. (q.cost (best q) - q.cost j) * n) none_to_come ∙ mul-zero (q.cost (best q) - q.cost j)

  module _ (i j : ℕ) (k : i < q.processors) (l : j < q.processors) (may : may_be_taken q i ≡ true) (may' : may_be_taken q j ≡ true) where
    -- A score with any F', B' and RB' orders by finish where the first term is 0.
    orders_by_finish :
        (f b r : ℕ) → OneIsZero
        → higher (λ n. (q.cost (best q) - q.cost n) * q.RCB * f + (latest_finish q - q.finish n) * b * r) (lower q.finish tie) i j
        ≡ ltb (q.finish i) (q.finish j)
    unfolding latest_finish
    orders_by_finish f b r zero_is =
        higher_same _ (λ n. (latest_finish q - q.finish n) * (b * r)) (lower q.finish tie) i j
        (second_term _ q.RCB f _ b r (no_first_term zero_is i k may))
        (second_term _ q.RCB f _ b r (no_first_term zero_is j l may'))
        ∙ by_finish q.finish (latest_finish q) (b * r) i j (at_most_largest q.processors q.finish i k)
        (at_most_largest q.processors q.finish j l)

    same_order : higher (score_with x y z q) (lower q.finish tie) i j ≡ higher (score q) (lower q.finish tie) i j
    unfolding score_with score higher
    same_order = go (eq-zero-or-pos (F q)) (eq-zero-or-pos (B q)) (eq-zero-or-pos q.RB)
      where
        where_zero : OneIsZero → higher (score_with x y z q) (lower q.finish tie) i j ≡ higher (score q) (lower q.finish tie) i j
        where_zero zero_is =
            orders_by_finish (or_this x (F q)) (or_this y (B q)) (or_this z q.RB) zero_is
            ∙ sym (orders_by_finish (or_one (F q)) (or_one (B q)) (or_one q.RB) zero_is)

        go :
            (F q ≡ 0) ⊎ (0 < F q) → (B q ≡ 0) ⊎ (0 < B q) → (q.RB ≡ 0) ⊎ (0 < q.RB)
            → higher (score_with x y z q) (lower q.finish tie) i j ≡ higher (score q) (lower q.finish tie) i j
        go (inl none) b r = where_zero (inl none)
        go (inr f) (inl none) r = where_zero (inr (inl none))
        go (inr f) (inr b) (inl none) = where_zero (inr (inr none))
        go (inr f) (inr b) (inr r) = rw (or_this_positive x (F q) f, or_this_positive y (B q) b, or_this_positive z q.RB r)

  same_preferred : (i j : ℕ) → i < q.processors → j < q.processors → preferred_with x y z q i j ≡ preferred q i j
  unfolding preferred_with preferred among
  same_preferred i j k l = go (may_be_taken q i) (may_be_taken q j) refl refl
    where
      go :
          (s t : Bool) → may_be_taken q i ≡ s → may_be_taken q j ≡ t
          → (s && (not t || higher (score_with x y z q) (lower q.finish tie) i j)) ≡ (s && (not t || higher (score q) (lower q.finish tie) i j))
      go true true may may' = same_order i j k l may may'
      go true false may may' = refl
      go false t may may' = refl

  -- Whatever stands there, the choice is document 01's.
  pub stand_ins_do_not_matter : HBCS_with x y z q ≡ HBCS q
  unfolding HBCS_with HBCS
  stand_ins_do_not_matter =
      first_same q.processors (preferred_with x y z q) (preferred q) same_preferred

-- So 0 in the place of 1 changes no choice.
pub zero_for_one_changes_no_choice : (q : Question) → HBCS_with 0 0 0 q ≡ HBCS q
zero_for_one_changes_no_choice = stand_ins_do_not_matter 0 0 0
