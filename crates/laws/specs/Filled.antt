-- Arrays of numbers as functions, which are 0 past their end.
use Rattle.std.specs.Prelude.{ℕ, ◌≤◌, ◌<◌, ◌≡◌, List, length}
use Rattle.laws.specs.Stores.{at}

-- No number of the array is above b.
abbrev pub AtMost : ℕ → List ℕ → Type 0
AtMost b xs = (k : ℕ) → at xs k ≤ b

-- An array of 16 that holds the first m values of a function, and 0 after them.
pub record Filled (m : ℕ) (f : ℕ → ℕ) (xs : List ℕ) : Type 0 where
  pub size : length xs ≡ 16
  pub below : (j : ℕ) → j < m → at xs j ≡ f j
  pub past : (j : ℕ) → m ≤ j → at xs j ≡ 0
