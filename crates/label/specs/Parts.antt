-- What the two steps of the check find.
use Rattle.std.specs.Prelude.{◌≡◌, ℕ, ◌+◌, ◌<◌, ◌≤◌, Bool, true, false, List, get_or}
use Rattle.label.specs.Label.{Listed}

-- Of the eight bytes at `at`, r stand in the list before the first that does not.
pub record Run (s : List ℕ) (at r : ℕ) : Type 0 where
  pub eight_or_fewer : r ≤ 8
  pub of_the_list : (k : ℕ) → k < r → Listed (get_or s (at + k) 0)
  pub stops : r < 8 → Listed (get_or s (at + r) 0) → ⊥

-- r tells whether the bytes from `from` up to `end` are spaces.
pub record SpacesTold (s : List ℕ) (from end : ℕ) (r : Bool) : Type 0 where
  pub passes : r ≡ true → (k : ℕ) → from ≤ k → k < end → get_or s k 0 ≡ 32
  pub fails : r ≡ false → (k : ℕ) × (from ≤ k) × (k < end) × (get_or s k 0 ≡ 32 → ⊥)
