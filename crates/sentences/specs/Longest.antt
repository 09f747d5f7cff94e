-- How long the text of a reason is at most: its numbers fit 64 bits, so that each has at most 20 digits.
use Rattle.std.specs.Prelude.{ℕ, ◌+◌, ◌^◌, ◌≤◌, ◌<◌, List, length}
use Rattle.std.proofs.Common.{arith, length-append}
use Rattle.rules.specs.Text.{bytes, decimal, line, first_line}
use Rattle.rules.specs.Why.{Why, late_data, in_window, beside_row, own_start, no_task, no_plan, why_text}
use Rattle.decimals.specs.Decimals.{decimal_length}
use Rattle.decimals.specs.Wrote.{Room}

abbrev pub InWords : Why → Type 0
InWords (late_data from minute) = (from < 2 ^ 64) × (minute < 2 ^ 64)
InWords (in_window begin end) = (begin < 2 ^ 64) × (end < 2 ^ 64)
InWords (beside_row task begin end) = (task < 2 ^ 64) × (begin < 2 ^ 64) × (end < 2 ^ 64)
InWords (own_start start) = start < 2 ^ 64
InWords (no_task tasks) = tasks < 2 ^ 64
InWords (no_plan number place) = (number < 2 ^ 64) × (place < 2 ^ 64)

digits_at_most : (x : ℕ) → x < 2 ^ 64 → length (decimal x) ≤ 20
digits_at_most x fits = decimal_length 19 x (omega arith)

-- A row's is the longest.
why_at_most : (w : Why) → InWords w → length (why_text w) ≤ 180
unfolding why_text first_line line bytes
why_at_most (late_data from minute) (from_in, minute_in) =
    simp length-append (omega (arith, digits_at_most from from_in, digits_at_most minute minute_in))
why_at_most (in_window begin end) (begin_in, end_in) = simp length-append (omega (arith, digits_at_most begin begin_in, digits_at_most end end_in))
why_at_most (beside_row task begin end) (task_in, begin_in, end_in) =
    simp length-append (omega (arith, digits_at_most task task_in, digits_at_most begin begin_in, digits_at_most end end_in))
why_at_most (own_start start) start_in = simp length-append (omega (arith, digits_at_most start start_in))
why_at_most (no_task tasks) tasks_in = simp length-append (omega (arith, digits_at_most tasks tasks_in))
why_at_most (no_plan number place) (number_in, IsPlace_in) =
    simp length-append (omega (arith, digits_at_most number number_in, digits_at_most place IsPlace_in))

-- Where there is room for 180 bytes there is room for each.
pub room_for_why : (w : Why) → InWords w → (before N : ℕ) → before + 180 ≤ N → before + length (why_text w) ≤ N
room_for_why w words before N enough = omega (arith, why_at_most w words)

pub lent_room_for_why : {out : List ℕ} (w : Why) → InWords w → 180 ≤ length out → Room out 0 (why_text w)
lent_room_for_why w words enough = record { fits = omega (arith, why_at_most w words) }
