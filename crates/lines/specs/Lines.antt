-- The lines of the text: one of two numbers by its fields, a task's by four columns, and one line for each of the first numbers.
use Prim.Native.Nat.{ℕ, zero, suc, ◌+◌, ◌≤◌, ◌<◌}
use Rattle.std.specs.Prelude.{◌≡◌, List, [], ◌∷◌, ◌++◌, length}
use Rattle.std.proofs.Common.{append_assoc, eq-or-lt_of_le}
use Rattle.std.proofs.Math.Logic.{⊎_elim}
use native.Mathlib.Omega.{arith}
use Rattle.std.proofs.Math.ListN.{length-append}
use Rattle.rules.specs.Labels.{label}
use Rattle.rules.specs.Text.{bytes, decimal, line, row_line, lines}
use Rattle.laws.specs.Stores.{at}
use Rattle.decimals.specs.Fields.{field}
use Rattle.decimals.specs.Wrote.{Room, Wrote}
use Rattle.decimals.specs.Lent.{room_next}

-- The line of a task, its row read off four columns.
unfoldable pub column_line : (s processors starts finishes costs : List ℕ) → ℕ → List ℕ
column_line s processors starts finishes costs i =
    row_line (label s i) (record { processor = at processors i; start = at starts i; finish = at finishes i; cost = at costs i })

-- The lines of the first n tasks.
abbrev pub column_lines : ℕ → (s processors starts finishes costs : List ℕ) → List ℕ
column_lines n s processors starts finishes costs = lines n (column_line s processors starts finishes costs)

-- What opens a line, and two numbers to its end: a refusal's, and the range.
abbrev pub two_line : List ℕ → (a b : ℕ) → List ℕ
two_line opening a b = opening ++ line (decimal a) (decimal b ∷ [])

pub two_fields : (opening : List ℕ) (a b : ℕ) → two_line opening a b ≡ opening ++ (field a 32 ++ field b 10)
unfolding line bytes
two_fields opening a b = simp append_assoc

-- One line per number: the first i of them are no longer than the first n.
module _ (Line_of : ℕ → List ℕ) where
  pub lines_longer : (i n : ℕ) → i ≤ n → length (lines i Line_of) ≤ length (lines n Line_of)
  unfolding lines
  lines_longer i zero l = let none : i ≡ 0 = omega arith in rw none (omega arith)
  lines_longer i (suc n) l =
      ⊎_elim (λ (e : i ≡ suc n). rw e (omega arith))
      (λ (m : i < suc n). omega (arith, lines_longer i n (omega arith), length-append (lines n Line_of) (Line_of n)))
      (eq-or-lt_of_le l)

  -- So where there is room for n of them there is room, once the first i are written, for the next.
  pub next_fits : (i n : ℕ) → i < n → length (lines i Line_of) + length (Line_of i) ≤ length (lines n Line_of)
  unfolding lines
  next_fits i n l = omega (arith, lines_longer (suc i) n l, length-append (lines i Line_of) (Line_of i))

  -- The same over a lent buffer.
  module _ {out : List ℕ} {at : ℕ} (n : ℕ) (room : Room out at (lines n Line_of)) (i : ℕ) where
    pub room_lines : i ≤ n → Room out at (lines i Line_of)
    room_lines l = record { fits = omega (arith, room.fits, lines_longer i n l) }

    pub room_line : {out' : List ℕ} {end : ℕ} → i < n → Wrote out at (lines i Line_of) out' end → Room out' end (Line_of i)
    unfolding lines
    room_line l w = room_next (record { fits = omega (arith, room.fits, lines_longer (suc i) n l) }) w
