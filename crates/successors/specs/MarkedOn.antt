-- Marks of numbers that stand one after the other, set one by one.
use Prim.Native.Nat.{ℕ, zero, suc, ◌+◌, ◌≤◌, ◌<◌}
use Rattle.std.specs.Prelude.{◌≡◌, Bool}
use Rattle.std.proofs.Math.Path.{refl}
use Rattle.std.proofs.Math.Bool.{true}
use Rattle.std.proofs.Math.Decide.{ℕ_discrete}
use Rattle.std.proofs.Common.{arith, eq-eqb, ne_eqb}
use Rattle.laws.specs.Unmarked.{and_marked}

-- The k numbers from `begin` on are marked, and what was.
unfoldable pub marked_on : (begin : ℕ) → (ℕ → Bool) → ℕ → ℕ → Bool
marked_on begin marked zero = marked
marked_on begin marked (suc k) = and_marked (begin + k) (marked_on begin marked k)

module _ (begin : ℕ) (marked : ℕ → Bool) where
  pub marked_among : (k i : ℕ) → begin ≤ i → i < begin + k → marked_on begin marked k i ≡ true
  unfolding marked_on
  marked_among zero i l below = absurd (omega arith)
  marked_among (suc k) i l below = go (ℕ_discrete (begin + k) i) (marked_among k i l)
    where
      go : Dec (begin + k ≡ i) → (i < begin + k → marked_on begin marked k i ≡ true) → and_marked (begin + k) (marked_on begin marked k) i ≡ true
      go (yes e) before = rw (eq-eqb (begin + k) i e)
      go (no n) before = rw (ne_eqb (begin + k) i n) (before (omega arith))

  -- The marks of all others are as they were.
  pub marked_as_before : (k i : ℕ) → ((j : ℕ) → j < k → begin + j ≡ i → ⊥) → marked_on begin marked k i ≡ marked i
  unfolding marked_on
  marked_as_before zero i other = refl
  marked_as_before (suc k) i other =
      rw (ne_eqb (begin + k) i (other k (omega arith))) (marked_as_before k i (λ j l. other j (omega arith)))
