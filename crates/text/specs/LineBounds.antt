-- How long a line is at most, from how large its numbers are: the first, the range's, a row's; and so many lines.
use Rattle.std.specs.Prelude.{ℕ, zero, suc, ◌+◌, ◌*◌, ◌≤◌, ◌<◌, ◌≡◌, List, [], ◌∷◌, ◌++◌, length}
use Rattle.std.proofs.Common.{mul-suc, arith, length-append}
use Rattle.rules.specs.Rows.{Row}
use Rattle.rules.specs.Answer.{Answer, planned, refused}
use Rattle.rules.specs.Text.{bytes, decimal, line, first_line, row_line, lines}
use Rattle.rules.specs.Range.{range_of, range_line}
use Rattle.decimals.specs.Decimals.{decimal_length}
use Rattle.bounds.specs.PlanBounds.{RowBounds}
use Rattle.bounds.specs.AnswerBounds.{AnswerIn}

-- The digits of four numbers, and a byte after each.
four_length : (a b c d : ℕ) →
    length (line (decimal a) (decimal b ∷ decimal c ∷ decimal d ∷ [])) ≡ length (decimal a) + length (decimal b) + length (decimal c) + length (decimal d) + 4
unfolding line bytes
four_length a b c d = simp length-append (omega arith)

two_length : (opening : List ℕ) (a b : ℕ) →
    length (opening ++ line (decimal a) (decimal b ∷ [])) ≡ length opening + length (decimal a) + length (decimal b) + 2
unfolding line bytes
two_length opening a b = simp length-append (omega arith)

refusal_line_at_most : (number place : ℕ) → AnswerIn (refused number place) → length (first_line (refused number place)) ≤ 15
unfolding first_line bytes
refusal_line_at_most number place (number_in, IsPlace_in) =
    omega (arith, two_length (bytes "no ") number place, decimal_length 1 number (omega arith), decimal_length 7 place (omega arith))

-- The first line: `plan ` and four numbers, or `no ` and two.
pub first_line_at_most : (a : Answer) → AnswerIn a → length (first_line a) ≤ 33
unfolding first_line bytes
first_line_at_most (planned n long cost left) (n_in, long_in, cost_in, left_in) =
    omega (
      arith,
      four_length n long cost left,
      decimal_length 1 n (omega arith),
      decimal_length 5 long (omega arith),
      decimal_length 7 cost (omega arith),
      decimal_length 7 left (omega arith),
    )
first_line_at_most (refused number place) numbers_in = omega (arith, refusal_line_at_most number place numbers_in)

-- The range's: `range ` and two costs, or a refusal's line.
pub range_line_at_most : (a b : Answer) → AnswerIn a → AnswerIn b → length (range_line (range_of a b)) ≤ 24
unfolding range_of range_line bytes
range_line_at_most (planned _ _ low _) (planned _ _ high _) (_, _, low_in, _) (_, _, high_in, _) =
    omega (arith, two_length (bytes "range ") low high, decimal_length 7 low (omega arith), decimal_length 7 high (omega arith))
range_line_at_most (planned _ _ _ _) (refused number place) a_in b_in = omega (arith, refusal_line_at_most number place b_in)
range_line_at_most (refused number place) b a_in b_in = omega (arith, refusal_line_at_most number place a_in)

row_line_length : (name : List ℕ) (r : Row) →
    length (row_line name r) ≡ length name + suc (length (line (decimal r.processor) (decimal r.start ∷ decimal r.finish ∷ decimal r.cost ∷ [])))
unfolding row_line line bytes
row_line_length name r = length-append name _

pub row_line_at_most : (name : List ℕ) (r : Row) → length name ≤ 8 → RowBounds r → length (row_line name r) ≤ 33
row_line_at_most name r name_in row_in =
    omega (
      arith,
      row_line_length name r,
      four_length r.processor r.start r.finish r.cost,
      decimal_length 1 r.processor (omega (arith, row_in.processor_in)),
      decimal_length 5 r.start (omega (arith, row_in.start_in)),
      decimal_length 5 r.finish (omega (arith, row_in.finish_in)),
      decimal_length 5 r.cost (omega (arith, row_in.cost_in)),
    )

pub lines_at_most : (n : ℕ) (Line_of : ℕ → List ℕ) (most : ℕ) → ((i : ℕ) → i < n → length (Line_of i) ≤ most) → length (lines n Line_of) ≤ most * n
unfolding lines
lines_at_most zero Line_of most each = omega arith
lines_at_most (suc n) Line_of most each =
    rw mul-suc
    (omega (
      arith,
      length-append (lines n Line_of) (Line_of n),
      lines_at_most n Line_of most (λ i l. each i (omega arith)),
      each n (omega arith),
    ))
