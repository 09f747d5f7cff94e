-- The rows that come with an answer, stored over the front of the lent rows: the rows after the call. They are in reach.
use Rattle.std.specs.Prelude.{ℕ, ◌≤◌, ◌≡◌, List, ◌++◌, map, length}
use Rattle.std.proofs.Math.Path.{refl, sym, ap}
use Rattle.std.proofs.Common.{◌∙◌, arith}
use Rattle.std.proofs.lemmas.List.{length-map}
use Rattle.std.proofs.Math.ListN.{drop}
use Rattle.rules.specs.Folds.{listing}
use Rattle.rules.specs.Method.{Name}
use Rattle.rules.specs.Rows as rules
use Rattle.rules.specs.Answer.{Outcome, plan, refusal, outcome_asked, answer_of, answer_asked, written, rows_asked}
use Rattle.laws.specs.Listing.{listing_same}
use Rattle.laws.specs.Overwritten.{overwritten, overwritten_mapped}
use Rattle.budgets.specs.declared.Rows.{Rows}
use Rattle.budgets.specs.Prepared.{RowsAre}
use Rattle.planner.specs.Planned.{Answer, PlanOf, planned_in, rows_in, rows_told}
use Rattle.planner.specs.Reach.{rows_due, told_due, rows_in_reach}
use Rattle.rows.specs.declared.Row.{Row}
use Rattle.rows.specs.Planned.{meant_row, row_at, PlannedRows}

module _ (r : Rows) where
  row_meant : {rows : List rules.Placed} → RowsAre rows r
      → (i : ℕ) → meant_row (row_at r i) ≡ rules.row_of rows i
  row_meant columns i =
      λ t. record {
        processor = columns.processors_hold.holds i t;
        start = columns.starts_hold.holds i t;
        finish = columns.finishes_hold.holds i t;
        cost = columns.costs_hold.holds i t;
      }

  due_written : (o : Outcome) (lent : List rules.Row) → RowsAre (rows_in o) r
      → overwritten (rows_due (answer_of o)) (λ i. meant_row (row_at r i)) lent ≡ written o lent
  unfolding rows_in written answer_of rows_due listing
  due_written (plan W rows) lent columns =
      ap (λ front. front ++ drop W.tasks lent)
      (listing_same W.tasks (λ i. meant_row (row_at r i)) (rules.row_of rows) (λ i l. row_meant columns i))
  due_written (refusal number place) lent columns = refl

module _ (M : Name) (s : List ℕ) {r : Rows} {answer : Answer} {n : ℕ} where
  pub due_in_reach : (lent : ℕ) → PlanOf (outcome_asked M s lent) (planned_in r answer) → n ≡ rows_told answer → (n ≤ lent) × (n ≤ 64)
  due_in_reach lent planned due =
      let reach = rows_in_reach M s lent answer planned.answer_is in (omega (arith, reach, due), omega (arith, reach, due))

  -- What the call leaves is the rules'.
  pub rows_planned : {lent after : List Row} → PlanOf (outcome_asked M s (length lent)) (planned_in r answer) → n ≡ rows_told answer
      → after ≡ overwritten n (row_at r) lent → PlannedRows M s lent after answer
  unfolding answer_asked rows_asked
  rows_planned {lent} {after} planned due stored =
      let o = outcome_asked M s (length lent) in
      let all : n ≡ rows_due (answer_of o) = due ∙ told_due o answer planned.answer_is in
      record {
        answer_is = planned.answer_is;
        rows_are =
            ap (map meant_row) stored ∙ sym (overwritten_mapped n (row_at r) lent meant_row)
            ∙ ap (λ k. overwritten k (λ i. meant_row (row_at r i)) (map meant_row lent)) all
            ∙ due_written r o (map meant_row lent) planned.columns
            ∙ ap (λ k. written (outcome_asked M s k) (map meant_row lent)) (sym (length-map lent meant_row));
      }
