-- How a text is printed into a buffer.
use Rattle.std.specs.Prelude.{ℕ, ◌≤◌, ◌≡◌, cond, List, ◌++◌, leb, length, drop, Result, Ok, Err}
use Rattle.text.specs.declared.TooSmall.{TooSmall}

-- The whole of t is printed where there is room for it; else it is said how much room it needs.
unfoldable pub printed : List ℕ → ℕ → Result ℕ TooSmall
printed t room = cond (leb (length t) room) (Ok (length t)) (Err (record { needed = length t }))

-- The buffer then: t, and past it what stood there; a buffer that is too small keeps its content.
unfoldable pub after : List ℕ → List ℕ → List ℕ
after t out = cond (leb (length t) (length out)) (t ++ drop (length t) out) out

pub record PrintedAs (t out out' : List ℕ) (r : Result ℕ TooSmall) : Type 0 where
  pub answer_is : r ≡ printed t (length out)
  pub after_is : out' ≡ after t out

-- What is printed whole lies inside the buffer.
abbrev pub FitsIn : (room : ℕ) → Result ℕ TooSmall → Type 0
FitsIn room (Ok n) = n ≤ room
FitsIn room (Err small) = Unit {0}
