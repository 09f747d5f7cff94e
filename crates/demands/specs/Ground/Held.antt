-- What the caller holds after a plan: row i of the lent rows, or of the four buffers, is the row of task i, and what stands after the rows stays.
use Rattle.std.specs.Prelude.{ℕ, ◌≤◌, ◌<◌, ◌≡◌, length}
use Rattle.std.proofs.Common.{◌∙◌, arith, drop_at}
use mathlib.Core.List.{List, ◌++◌}
use Rattle.std.proofs.Math.ListN.{drop, get_or, get_or-append}
use Rattle.rules.specs.Folds.{listing}
use Rattle.rules.specs.Workflow.{Workflow}
use Rattle.rules.specs.Rows.{Row, Placed, no_row, row_of}
use Rattle.rules.specs.Answer.{Outcome, plan, written}
use Rattle.rules.specs.Buffers.{Buffers, rows_lent, row_in, column_after, buffers_written}
use Rattle.laws.specs.Listing.{length_listing, getD_listing}
use Rattle.laws.specs.Overwritten.{length_overwritten}

listed_first : {A : Type 0} (f : ℕ → A) (k : ℕ) (more : List A) (d : A) (i : ℕ) → i < k → get_or (listing k f ++ more) i d ≡ f i
listed_first f k more d i l = get_or-append (listing k f) more d i (rw (length_listing f k) l) ∙ getD_listing f k d i l

module _ {W : Workflow} {rows : List Placed} (i : ℕ) (task : i < W.tasks) where
  pub row_written : (o : Outcome) (lent : List Row) → o ≡ plan W rows → get_or (written o lent) i no_row ≡ row_of rows i
  unfolding written
  row_written o lent e = rw e (listed_first (row_of rows) W.tasks (drop W.tasks lent) no_row i task)

  -- The same of four buffers, field by field.
  pub row_in_written : (o : Outcome) (lent : Buffers) → o ≡ plan W rows → row_in (buffers_written o lent) i ≡ row_of rows i
  unfolding buffers_written column_after row_in
  row_in_written o lent e =
      rw e (λ t. record {
        processor = first_of (λ row. row.processor) lent.processors t;
        start = first_of (λ row. row.start) lent.starts t;
        finish = first_of (λ row. row.finish) lent.finishes t;
        cost = first_of (λ row. row.cost) lent.costs t;
      })
    where
      first_of : (field : Row → ℕ) (buffer : List ℕ)
          → get_or (listing W.tasks (λ k. field (row_of rows k)) ++ drop W.tasks buffer) i 0 ≡ field (row_of rows i)
      first_of field buffer = listed_first (λ k. field (row_of rows k)) W.tasks (drop W.tasks buffer) 0 i task

-- What stands from k on is the same before and after.
pub record StaysFrom (k : ℕ) (before after : Buffers) : Type 0 where
  pub processors : drop k after.processors ≡ drop k before.processors
  pub starts : drop k after.starts ≡ drop k before.starts
  pub finishes : drop k after.finishes ≡ drop k before.finishes
  pub costs : drop k after.costs ≡ drop k before.costs

past_the_listed : {A : Type 0} (f : ℕ → A) (k : ℕ) (xs : List A) → drop k (listing k f ++ drop k xs) ≡ drop k xs
past_the_listed f k xs = drop_at (listing k f) (drop k xs) k (length_listing f k)

module _ {W : Workflow} {rows : List Placed} where
  pub later_rows_kept : (o : Outcome) (lent : List Row) → o ≡ plan W rows → drop W.tasks (written o lent) ≡ drop W.tasks lent
  unfolding written
  later_rows_kept o lent e = rw e (past_the_listed (row_of rows) W.tasks lent)

  pub later_numbers_kept : (o : Outcome) (lent : Buffers) → o ≡ plan W rows → StaysFrom W.tasks lent (buffers_written o lent)
  unfolding buffers_written column_after
  later_numbers_kept o lent e =
      rw e
      record {
        processors = past_the_listed (λ i. (row_of rows i).processor) W.tasks lent.processors;
        starts = past_the_listed (λ i. (row_of rows i).start) W.tasks lent.starts;
        finishes = past_the_listed (λ i. (row_of rows i).finish) W.tasks lent.finishes;
        costs = past_the_listed (λ i. (row_of rows i).cost) W.tasks lent.costs;
      }

-- Each buffer has as many numbers after as before.
pub record SameLengths (before after : Buffers) : Type 0 where
  pub processors : length after.processors ≡ length before.processors
  pub starts : length after.starts ≡ length before.starts
  pub finishes : length after.finishes ≡ length before.finishes
  pub costs : length after.costs ≡ length before.costs

pub lengths_kept : (W : Workflow) (rows : List Placed) (lent : Buffers) → W.tasks ≤ rows_lent lent → SameLengths lent (buffers_written (plan W rows) lent)
unfolding buffers_written column_after rows_lent
lengths_kept W rows lent enough =
    record {
      processors = length_overwritten W.tasks (λ i. (row_of rows i).processor) lent.processors (omega arith);
      starts = length_overwritten W.tasks (λ i. (row_of rows i).start) lent.starts (omega arith);
      finishes = length_overwritten W.tasks (λ i. (row_of rows i).finish) lent.finishes (omega arith);
      costs = length_overwritten W.tasks (λ i. (row_of rows i).cost) lent.costs (omega arith);
    }
