-- The first numbers of a column, as many as the answer has rows, stored over the front of a buffer: the buffer after the call.
use Rattle.std.specs.Prelude.{ℕ, ◌≡◌, List, ◌++◌}
use Rattle.std.proofs.Math.Path.{refl, ap}
use Rattle.std.proofs.Common.{◌∙◌}
use Rattle.std.proofs.Math.ListN.{drop}
use Rattle.rules.specs.Folds.{listing}
use Rattle.rules.specs.Rows.{Row, row_of}
use Rattle.rules.specs.Answer.{Outcome, plan, refusal, answer_of}
use Rattle.rules.specs.Buffers.{column_after}
use Rattle.laws.specs.Listing.{listing_same}
use Rattle.laws.specs.Overwritten.{overwritten}
use Rattle.laws.specs.Stores.{at}
use Rattle.placing.specs.Placed.{Column}
use Rattle.planner.specs.Planned.{Answer, meant_answer, rows_in, rows_told}
use Rattle.planner.specs.Reach.{rows_due, told_due}

module _ (field : Row → ℕ) {xs : List ℕ} (buffer : List ℕ) where
  due_stored : (o : Outcome) → Column field (rows_in o) xs → overwritten (rows_due (answer_of o)) (at xs) buffer ≡ column_after field o buffer
  unfolding rows_in column_after answer_of rows_due listing
  due_stored (plan W rows) column =
      ap (λ front. front ++ drop W.tasks buffer) (listing_same W.tasks (at xs) (λ i. field (row_of rows i)) (λ i l. column.holds i))
  due_stored (refusal number place) column = refl

  pub column_stored : (o : Outcome) (a : Answer) {n : ℕ} {after : List ℕ} → meant_answer a ≡ answer_of o → n ≡ rows_told a
      → Column field (rows_in o) xs → after ≡ overwritten n (at xs) buffer → after ≡ column_after field o buffer
  column_stored o a is count column stored =
      stored ∙ ap (λ n. overwritten n (at xs) buffer) (count ∙ told_due o a is) ∙ due_stored o column
