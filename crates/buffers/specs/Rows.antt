-- The four buffers are the fields of document 01's rows: lent the fields of rows, the call leaves those of `rows_asked`.
use Rattle.std.specs.Prelude.{ℕ, ◌≡◌, refl, List, map, length}
use Rattle.std.proofs.Common.{ap, ◌∙◌, arith}
use Rattle.std.proofs.lemmas.List.{length-map}
use Rattle.rules.specs.Rows.{Row, row_of}
use Rattle.rules.specs.Method.{Name}
use Rattle.rules.specs.Answer.{Outcome, plan, refusal, outcome_asked, answer_asked, written, rows_asked}
use Rattle.rules.specs.Buffers.{Buffers, rows_lent, column_after, buffers_written, buffers_asked}
use Rattle.laws.specs.Overwritten.{overwritten_mapped}
use Rattle.planner.specs.Planned.{Answer, meant_answer}
use Rattle.buffers.specs.Into.{PlannedInto}

-- The fields of rows, each in a buffer of its own.
unfoldable pub fields : List Row → Buffers
fields rows =
    record {
      processors = map (λ row. row.processor) rows;
      starts = map (λ row. row.start) rows;
      finishes = map (λ row. row.finish) rows;
      costs = map (λ row. row.cost) rows;
    }

rows_lent_fields : (lent : List Row) → rows_lent (fields lent) ≡ length lent
unfolding rows_lent fields
rows_lent_fields lent =
    omega (
      arith,
      length-map lent (λ row. row.processor),
      length-map lent (λ row. row.start),
      length-map lent (λ row. row.finish),
      length-map lent (λ row. row.cost),
    )

fields_written : (o : Outcome) (lent : List Row) → buffers_written o (fields lent) ≡ fields (written o lent)
unfolding buffers_written column_after written fields
fields_written (plan W rows) lent =
    λ t. record {
      processors = overwritten_mapped W.tasks (row_of rows) lent (λ row. row.processor) t;
      starts = overwritten_mapped W.tasks (row_of rows) lent (λ row. row.start) t;
      finishes = overwritten_mapped W.tasks (row_of rows) lent (λ row. row.finish) t;
      costs = overwritten_mapped W.tasks (row_of rows) lent (λ row. row.cost) t;
    }
fields_written (refusal number place) lent = refl

-- The answer is the rules' by the method that is asked for, and the buffers after the call hold the fields of the rules' rows after the call.
pub record RowsAfter (M : Name) (s : List ℕ) (lent : List Row) (after : Buffers) (r : Answer) : Type 0 where
  pub answer_is : meant_answer r ≡ answer_asked M s (length lent)
  pub fields_are : after ≡ fields (rows_asked M s lent)

pub rows_are_written : (M : Name) (s : List ℕ) (lent : List Row) {after : Buffers} {r : Answer}
    → PlannedInto M s (fields lent) after r → RowsAfter M s lent after r
unfolding rows_asked buffers_asked
rows_are_written M s lent into =
    record {
      answer_is = into.answer_is ∙ ap (answer_asked M s) (rows_lent_fields lent);
      fields_are =
          into.after_is
          ∙ ap (λ n. buffers_written (outcome_asked M s n) (fields lent)) (rows_lent_fields lent)
          ∙ fields_written (outcome_asked M s (length lent)) lent;
    }
