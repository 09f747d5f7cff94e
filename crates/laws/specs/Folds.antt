-- The laws of `sum`, `largest` and `lowest`, each read off `Fold`: one turn of a loop; the same for functions that are the same below the count;
-- multiplied; bounds; attained.
use Prim.Native.Nat.{ℕ, zero, suc, ◌+◌, ◌*◌, ◌≤◌, ◌<◌, max, min}
use Rattle.std.specs.Prelude.{◌≡◌, cond, eqb}
use Rattle.std.proofs.Math.Path.{refl, sym}
use Rattle.std.proofs.Common.{ap, ⊎_elim, arith, mul-zero, mul-suc, mul-add, eq-or-lt_of_le}
use Rattle.std.proofs.Math.Nat.{zero-max}
use Rattle.rules.specs.Folds.{sum, largest, lowest}
use Rattle.laws.specs.Numbers.{max_either, min_either, max_multiplied, min_multiplied}
use Rattle.laws.specs.Fold.{Joins, fold_next, fold_same, fold_keeps, fold_to_each, fold_attained, fold_mapped, fold_changed}

sum_joins : Joins ◌+◌ sum
unfolding sum
sum_joins k f = refl

largest_joins : Joins max largest
unfolding largest
largest_joins k f = refl

lowest_joins : Joins min lowest
unfolding lowest
lowest_joins k f = refl

-- One turn of a loop.
module _ (k : ℕ) (f : ℕ → ℕ) {x r : ℕ} where
  pub sum_next : x ≡ sum k f → r ≡ x + f k → r ≡ sum (k + 1) f
  sum_next = fold_next ◌+◌ sum sum_joins k f

  pub largest_next : x ≡ largest k f → r ≡ max x (f k) → r ≡ largest (k + 1) f
  largest_next = fold_next max largest largest_joins k f

  pub lowest_next : x ≡ lowest k f → r ≡ min x (f k) → r ≡ lowest (k + 1) f
  lowest_next = fold_next min lowest lowest_joins k f

-- Functions that are the same below the count.
module _ (k : ℕ) (f g : ℕ → ℕ) (same : (i : ℕ) → i < k → f i ≡ g i) where
  pub sum_same : sum k f ≡ sum k g
  sum_same = fold_same ◌+◌ sum sum_joins k f g (unfold sum in refl) same

  pub largest_same : largest k f ≡ largest k g
  largest_same = fold_same max largest largest_joins k f g (unfold largest in refl) same

  pub lowest_same : 1 ≤ k → lowest k f ≡ lowest k g
  lowest_same pos = fold_same min lowest lowest_joins k f g (unfold lowest in same 0 pos) same

-- Multiplied.
module _ (a k : ℕ) (f : ℕ → ℕ) where
  pub sum_multiplied : sum k (λ i. a * f i) ≡ a * sum k f
  unfolding sum
  sum_multiplied =
      fold_mapped ◌+◌ sum sum_joins ◌+◌ sum sum_joins (λ x. a * x) (λ x. a * x) (λ x y. sym (mul-add a x y)) k f (sym (mul-zero a))

  pub largest_multiplied : largest k (λ i. a * f i) ≡ a * largest k f
  unfolding largest
  largest_multiplied =
      fold_mapped max largest largest_joins max largest largest_joins (λ x. a * x) (λ x. a * x) (max_multiplied a) k f (sym (mul-zero a))

  pub lowest_multiplied : lowest k (λ i. a * f i) ≡ a * lowest k f
  unfolding lowest
  lowest_multiplied =
      fold_mapped min lowest lowest_joins min lowest lowest_joins (λ x. a * x) (λ x. a * x) (min_multiplied a) k f refl

-- Nothing but 0.
module _ (k : ℕ) (f : ℕ → ℕ) (each : (i : ℕ) → i < k → f i ≡ 0) where
  pub sum_of_none : sum k f ≡ 0
  unfolding sum
  sum_of_none = fold_keeps ◌+◌ sum sum_joins (λ b. b ≡ 0) (λ a. a ≡ 0) k f refl (λ b a h g. omega arith) each

  pub largest_of_none : largest k f ≡ 0
  unfolding largest
  largest_of_none = fold_keeps max largest largest_joins (λ b. b ≡ 0) (λ a. a ≡ 0) k f refl (λ b a h g. omega arith) each

-- From k to before n there is nothing but 0.
pub largest_further : (k n : ℕ) (f : ℕ → ℕ) → k ≤ n → ((i : ℕ) → k ≤ i → i < n → f i ≡ 0) → largest n f ≡ largest k f
unfolding largest
largest_further k zero f l none = let e : 0 ≡ k = omega arith in ap (λ z. largest z f) e
largest_further k (suc n) f l none =
    ⊎_elim (λ (e : k ≡ suc n). ap (λ z. largest z f) (sym e))
    (λ (m : k < suc n). omega (arith, largest_further k n f (omega arith) (λ i b h. none i b (omega arith)), none n (omega arith) (omega arith)))
    (eq-or-lt_of_le l)

-- A value that was 0 is now c.
module _ (k n : ℕ) (f : ℕ → ℕ) (c : ℕ) (below : n < k) (was : f n ≡ 0) where
  pub sum_changed : sum k (λ i. cond (eqb n i) c (f i)) ≡ sum k f + c
  sum_changed =
      fold_changed ◌+◌ sum 0 sum_joins (λ g h. unfold sum in refl) (λ x. omega arith) (λ x y z. omega arith) f c k n below was

  pub largest_changed : largest k (λ i. cond (eqb n i) c (f i)) ≡ max (largest k f) c
  largest_changed =
      fold_changed max largest 0 largest_joins (λ g h. unfold largest in refl) (λ x. omega arith) (λ x y z. omega arith) f c k n below was

-- Bounds.
pub sum_at_most : (k : ℕ) (f g : ℕ → ℕ) → ((i : ℕ) → i < k → f i ≤ g i) → sum k f ≤ sum k g
unfolding sum
sum_at_most zero f g each = omega arith
sum_at_most (suc k) f g each = omega (arith, sum_at_most k f g (λ i l. each i (omega arith)), each k (omega arith))

pub sum_at_most_each : (k : ℕ) (f : ℕ → ℕ) (c : ℕ) → ((i : ℕ) → i < k → f i ≤ c) → sum k f ≤ c * k
unfolding sum
sum_at_most_each zero f c each = omega arith
sum_at_most_each (suc k) f c each = rw mul-suc (omega (arith, sum_at_most_each k f c (λ i l. each i (omega arith)), each k (omega arith)))

module _ (k : ℕ) (f : ℕ → ℕ) where
  pub at_most_sum : (i : ℕ) → i < k → f i ≤ sum k f
  at_most_sum = fold_to_each ◌+◌ sum sum_joins (λ b a. a ≤ b) (λ b a. omega arith) (λ b a c h. omega arith) k f

  pub at_most_largest : (i : ℕ) → i < k → f i ≤ largest k f
  at_most_largest = fold_to_each max largest largest_joins (λ b a. a ≤ b) (λ b a. omega arith) (λ b a c h. omega arith) k f

  pub lowest_at_most : (i : ℕ) → i < k → lowest k f ≤ f i
  lowest_at_most = fold_to_each min lowest lowest_joins (λ b a. b ≤ a) (λ b a. omega arith) (λ b a c h. omega arith) k f

  module _ (c : ℕ) where
    pub largest_at_most : ((i : ℕ) → i < k → f i ≤ c) → largest k f ≤ c
    unfolding largest
    largest_at_most each =
        fold_keeps max largest largest_joins (λ b. b ≤ c) (λ a. a ≤ c) k f (omega arith) (λ b a h g. omega arith) each

    pub at_most_lowest : 1 ≤ k → ((i : ℕ) → i < k → c ≤ f i) → c ≤ lowest k f
    unfolding lowest
    at_most_lowest pos each =
        fold_keeps min lowest lowest_joins (λ b. c ≤ b) (λ a. c ≤ a) k f (each 0 pos) (λ b a h g. omega arith) each

  -- The largest and the lowest are among the values.
  pub largest_attained : 1 ≤ k → (i : ℕ) × (i < k) × (f i ≡ largest k f)
  unfolding largest
  largest_attained = fold_attained max largest largest_joins (λ g. zero-max (g 0)) max_either k f

  pub lowest_attained : 1 ≤ k → (i : ℕ) × (i < k) × (f i ≡ lowest k f)
  unfolding lowest
  lowest_attained = fold_attained min lowest lowest_joins (λ g. omega arith) min_either k f
