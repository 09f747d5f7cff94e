-- The text of a request is at most 2,145 bytes long, by any method: a first line of at most 33, and at most 64 rows of at most 33 each. The range's is at most 24.
use Rattle.std.specs.Prelude.{ℕ, ◌*◌, ◌≤◌, ◌<◌, ◌≡◌, List}
use Rattle.std.proofs.Math.Path.{refl}
use Rattle.std.proofs.Common.{arith}
use Rattle.std.proofs.Math.ListN.{length, length-append}
use Rattle.rules.specs.Records.{Read, read, stopped}
use Rattle.rules.specs.Reading.{Request, read_request}
use Rattle.rules.specs.Workflow.{Workflow, workflow}
use Rattle.rules.specs.Labels.{label}
use Rattle.rules.specs.Rows.{row_of}
use Rattle.rules.specs.Method.{Name, by_cheapest, by_HEFT}
use Rattle.rules.specs.Budget.{workflow_for}
use Rattle.rules.specs.Answer.{Outcome, outcome_asked, answer_asked}
use Rattle.rules.specs.Text.{row_line, row_lines, text_asked}
use Rattle.rules.specs.Range.{range, range_text}
use Rattle.decimals.specs.Wrote.{Room}
use Rattle.good.specs.Ranges.{InRange}
use Rattle.good.specs.Labels.{good_label}
use Rattle.laws.specs.InForce.{tasks_held}
use Rattle.demands.specs.Demand1.LabelBytes.{label_bytes_length}
use Rattle.demands.specs.Ground.GoodRequest.{outcome_of_stopped}
use Rattle.demands.specs.Demand2.WhatIsDue as due
use Rattle.demands.specs.Demand2.WhatIsDue.{Due, seven, eight, nine, eleven, requests_get_their_due}
use Rattle.bounds.specs.PlanBounds.{row_bounds}
use Rattle.bounds.specs.AnswerBounds.{in_force_is_in_range, answer_in}
use Rattle.text.specs.LineBounds.{first_line_at_most, range_line_at_most, row_line_at_most, lines_at_most}

-- A refusal has no rows.
due_rows_at_most :
    {M : Name} (s : List ℕ) (W : Workflow) → InRange W → ((i : ℕ) → i < W.tasks → length (label s i) ≤ 8) → {lent : ℕ} {o : Outcome} → Due W lent M o
    → length (row_lines s o) ≤ 33 * 64
unfolding row_lines
due_rows_at_most s W range labels (seven few) = omega arith
due_rows_at_most s W range labels (eight enough lowest) = omega arith
due_rows_at_most s W range labels (nine placeable dear) = omega arith
due_rows_at_most s W range labels (eleven placeable p within late) = omega arith
due_rows_at_most s W range labels (due.planned {rows = rows} placeable p keeps) =
    omega (
      arith,
      lines_at_most W.tasks (λ i. row_line (label s i) (row_of rows i)) 33
          (λ i l. row_line_at_most (label s i) (row_of rows i) (labels i l) (row_bounds W range p i l)),
      range.tasks_in.to_high,
    )

module _ (M : Name) (s : List ℕ) where
  rows_at_most : length (row_lines s (outcome_asked M s 64)) ≤ 33 * 64
  unfolding row_lines workflow
  rows_at_most = go (read_request s) refl
    where
      go : (x : Read Request) → read_request s ≡ x → length (row_lines s (outcome_asked M s 64)) ≤ 33 * 64
      go (read end r) e =
          due_rows_at_most s (workflow_for M s r) (in_force_is_in_range M s e)
          (λ i l. omega (arith, label_bytes_length s i, (good_label s i e (omega (arith, l, tasks_held r.share (workflow s r) M))).eight_or_fewer))
          (requests_get_their_due M s e 64)
      go (stopped number place) e = rw (outcome_of_stopped M s e 64) (omega arith)

  pub text_at_most : length (text_asked M s) ≤ 2_145
  unfolding text_asked
  text_at_most = rw length-append (omega (arith, first_line_at_most (answer_asked M s 64) (answer_in M s), rows_at_most))

  pub room_for_text : (out : List ℕ) → 2_145 ≤ length out → Room out 0 (text_asked M s)
  room_for_text out enough = record { fits = omega (arith, text_at_most) }

pub range_at_most : (s : List ℕ) → length (range_text s) ≤ 24
unfolding range_text range
range_at_most s = range_line_at_most (answer_asked by_cheapest s 64) (answer_asked by_HEFT s 64) (answer_in by_cheapest s) (answer_in by_HEFT s)
