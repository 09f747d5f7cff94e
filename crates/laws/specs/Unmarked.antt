-- Sums over the numbers below a count that are not marked: marking one more takes its own part away.
use Rattle.std.specs.Prelude.{ℕ, zero, suc, ◌+◌, ◌≤◌, ◌<◌, ◌≡◌, refl, Bool, true, false, cond, ◌||◌, eqb}
use Rattle.std.proofs.Common.{arith, eq-eqb, ne_eqb}
use Rattle.rules.specs.Folds.{sum}
use Rattle.laws.specs.Tests.{true_unless_false}
use Rattle.laws.specs.Numbers.{below_next}
use Rattle.laws.specs.Folds.{sum_same, at_most_sum}

abbrev pub sum_unmarked : ℕ → (ℕ → Bool) → (ℕ → ℕ) → ℕ
sum_unmarked k marked f = sum k (λ i. cond (marked i) 0 (f i))

-- How many are not marked.
abbrev pub count_unmarked : ℕ → (ℕ → Bool) → ℕ
count_unmarked k marked = sum_unmarked k marked (λ i. 1)

-- n is marked, and what was.
abbrev pub and_marked : ℕ → (ℕ → Bool) → ℕ → Bool
and_marked n marked i = eqb n i || marked i

pub sum_unmarked_less :
    (marked : ℕ → Bool) (f : ℕ → ℕ) (k n : ℕ) → n < k → marked n ≡ false
    → sum_unmarked k (and_marked n marked) f + f n ≡ sum_unmarked k marked f
unfolding sum
sum_unmarked_less marked f zero n l free = absurd (omega arith)
sum_unmarked_less marked f (suc k) n l free =
    below_next
    (λ i.
    marked i ≡ false
    → sum_unmarked k (and_marked i marked) f + cond (and_marked i marked k) 0 (f k) + f i ≡ sum_unmarked k marked f + cond (marked k) 0 (f k))
    k
    (λ k_free.
    let before : sum_unmarked k (and_marked k marked) f ≡ sum_unmarked k marked f = sum_same k _ _ (λ i m. rw (ne_eqb k i (omega arith))) in
    rw (before, eq-eqb k k refl, k_free) (omega arith))
    (λ i m i_free. rw (ne_eqb i k (omega arith)) (omega (arith, sum_unmarked_less marked f k i m i_free)))
    n l free

pub count_unmarked_at_first : (k : ℕ) → count_unmarked k (λ i. false) ≡ k
unfolding sum
count_unmarked_at_first zero = refl
count_unmarked_at_first (suc k) = rw (count_unmarked_at_first k) (omega arith)

pub some_unmarked : (marked : ℕ → Bool) (k : ℕ) → 1 ≤ count_unmarked k marked → (i : ℕ) × (i < k) × (marked i ≡ false)
unfolding sum
some_unmarked marked zero h = absurd (omega arith)
some_unmarked marked (suc k) h = go (marked k) refl (some_unmarked marked k) h
  where
    go :
        (t : Bool) → marked k ≡ t → (1 ≤ count_unmarked k marked → (i : ℕ) × (i < k) × (marked i ≡ false))
        → 1 ≤ count_unmarked k marked + cond t 0 1 → (i : ℕ) × (i < suc k) × (marked i ≡ false)
    go true e below some = let w = below (omega arith) in (w.0, omega arith, w.2)
    go false e below some = (k, omega arith, e)

pub none_unmarked : (marked : ℕ → Bool) (k : ℕ) → count_unmarked k marked ≡ 0 → (i : ℕ) → i < k → marked i ≡ true
none_unmarked marked k none i l =
    true_unless_false (marked i) (λ free.
    let counted : 1 ≤ count_unmarked k marked = rw free at (at_most_sum k (λ x. cond (marked x) 0 1) i l) in
    omega arith)
