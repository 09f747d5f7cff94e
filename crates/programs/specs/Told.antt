-- What a program is to write of a text that was printed: all of it, or nothing where there was no room.
use Rattle.std.specs.Prelude.{ℕ, ◌≡◌, List, length, Result, Ok, Err}
use Rattle.text.specs.declared.TooSmall.{TooSmall}
use Rattle.text.specs.Printed.{printed, after}

abbrev pub to_write : Result ℕ TooSmall → ℕ
to_write (Ok n) = n
to_write (Err small) = 0

-- How many bytes those are, and the buffer after the call: the text, and past it what stood there; one that is too small keeps its content.
pub record TextIn (t out out' : List ℕ) (r : ℕ) : Type 0 where
  pub bytes_are : r ≡ to_write (printed t (length out))
  pub after_is : out' ≡ after t out
