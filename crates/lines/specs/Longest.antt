-- How long a line is at most where its numbers fit 64 bits, so that each has at most 20 digits.
use Rattle.std.specs.Prelude.{ℕ, ◌^◌, ◌≤◌, ◌<◌, ◌≡◌, List, length, drop}
use Rattle.std.proofs.Common.{arith, length-append, length-take}
use Rattle.rules.specs.Records.{read}
use Rattle.rules.specs.Reading.{Request, read_request}
use Rattle.rules.specs.Labels.{label, label_lookup, part_of}
use Rattle.rules.specs.Answer.{planned, refused}
use Rattle.rules.specs.Rows.{Row}
use Rattle.rules.specs.Text.{bytes, decimal, line, first_line, row_line}
use Rattle.rules.specs.Range.{between, range_line}
use Rattle.good.specs.Labels.{good_label}
use Rattle.decimals.specs.Decimals.{decimal_length}

digits_at_most : (x : ℕ) → x < 2 ^ 64 → length (decimal x) ≤ 20
digits_at_most x fits = decimal_length 19 x (omega arith)

pub planned_at_most : (n long cost left : ℕ) → n < 2 ^ 64 → long < 2 ^ 64 → cost < 2 ^ 64 → left < 2 ^ 64 →
    length (first_line (planned n long cost left)) ≤ 89
unfolding first_line line bytes
planned_at_most n long cost left n_in long_in cost_in left_in =
    simp length-append
    (omega (arith, digits_at_most n n_in, digits_at_most long long_in, digits_at_most cost cost_in, digits_at_most left left_in))

pub refused_at_most : (number place : ℕ) → number < 2 ^ 64 → place < 2 ^ 64 → length (first_line (refused number place)) ≤ 89
unfolding first_line line bytes
refused_at_most number place number_in place_in =
    simp length-append (omega (arith, digits_at_most number number_in, digits_at_most place place_in))

pub between_at_most : (cheapest HEFT : ℕ) → cheapest < 2 ^ 64 → HEFT < 2 ^ 64 → length (range_line (between cheapest HEFT)) ≤ 48
unfolding range_line line bytes
between_at_most cheapest HEFT cheapest_in HEFT_in =
    simp length-append (omega (arith, digits_at_most cheapest cheapest_in, digits_at_most HEFT HEFT_in))

pub row_at_most : (name : List ℕ) (r : Row) → length name ≤ 8 → r.processor < 2 ^ 64 → r.start < 2 ^ 64 → r.finish < 2 ^ 64 → r.cost < 2 ^ 64 →
    length (row_line name r) ≤ 93
unfolding row_line line bytes
row_at_most name r short processor_in start_in finish_in cost_in =
    simp length-append
    (omega (
      arith,
      digits_at_most r.processor processor_in,
      digits_at_most r.start start_in,
      digits_at_most r.finish finish_in,
      digits_at_most r.cost cost_in,
    ))

-- The label of a task is no longer than its field.
pub label_at_most : (s : List ℕ) (i : ℕ) {end : ℕ} {r : Request} → read_request s ≡ read end r → i < r.tasks → length (label s i) ≤ 8
unfolding label part_of
label_at_most s i e l = omega (arith, (good_label s i e l).eight_or_fewer, length-take (label_lookup s i).length (drop (label_lookup s i).begin s))
