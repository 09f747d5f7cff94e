-- What each row of a plan costs, by the record that its processor was read in: with a `P` its minutes times the price, as document 01 has it; with a `Q` the
-- larger of that and the minimum that stands there. Stated of the rows that the caller holds, in lent rows or in four buffers.
use Rattle.std.specs.Prelude.{ℕ, ◌*◌, ◌<◌, max, ◌≡◌, refl, Bool, true, false, List, eqb}
use Rattle.std.proofs.Common.{◌∙◌, arith, lt-ltb}
use Rattle.rules.specs.Fields.{P, Q, kind_byte, byte, Q_minimum}
use Rattle.rules.specs.Reading.{Request}
use Rattle.rules.specs.Workflow.{Workflow, processor_kind, processor_minimum, processor_place, read_in, workflow}
use Rattle.rules.specs.Ranks.{cost}
use Rattle.rules.specs.Rows.{Row}
use Rattle.rules.specs.Method.{Name, by_HBCS, by_cheapest, by_HEFT}
use Rattle.rules.specs.Budget.{in_force, unbound, held_to, workflow_for}
use Rattle.demands.specs.Demand2.{PlanGot}
use Rattle.demands.specs.Demand2.Sound.{RowTrue}

abbrev pub minutes_times_price : Workflow → ℕ → Row → ℕ
minutes_times_price W i row = W.minutes i row.processor * W.price row.processor

-- "a `P` has minimum 0. cost(i,j) is the larger of minimum(j) and w(i,j) x price(j)": of task i's row in the request r that was read from s.
pub data Billed (s : List ℕ) (r : Request) (i : ℕ) (row : Row) : Type 0 where
  its_minutes : read_in s r row.processor ≡ P → row.cost ≡ minutes_times_price (workflow s r) i row → Billed s r i row
  the_larger :
      read_in s r row.processor ≡ Q
      → row.cost ≡ max (Q_minimum s (processor_place s r row.processor)) (minutes_times_price (workflow s r) i row)
      → Billed s r i row

billed : (s : List ℕ) (r : Request) (i : ℕ) (row : Row) → RowTrue (workflow s r) i row → Billed s r i row
unfolding cost workflow read_in processor_kind processor_minimum
billed s r i row holds = go (eqb (byte s (processor_place s r row.processor)) (kind_byte Q)) refl
  where
    go : (t : Bool) → eqb (byte s (processor_place s r row.processor)) (kind_byte Q) ≡ t → Billed s r i row
    go true is = the_larger (rw is) (holds.cost ∙ rw (lt-ltb row.processor r.processors holds.processor, is))
    go false is = its_minutes (rw is) (holds.cost ∙ rw (lt-ltb row.processor r.processors holds.processor, is) (omega arith))

true_held : (M : Name) (s : List ℕ) (r : Request) (i : ℕ) (row : Row) → RowTrue (workflow_for M s r) i row → RowTrue (workflow s r) i row
unfolding cost held_to unbound in_force
true_held by_HBCS s r i row holds = record { task = holds.task; processor = holds.processor; finish = holds.finish; cost = holds.cost }
true_held by_cheapest s r i row holds = record { task = holds.task; processor = holds.processor; finish = holds.finish; cost = holds.cost }
true_held by_HEFT s r i row holds = record { task = holds.task; processor = holds.processor; finish = holds.finish; cost = holds.cost }

pub rows_billed :
    {M : Name} {s : List ℕ} {lent n l c left : ℕ} {row : ℕ → Row} (got : PlanGot M s lent n l c left row) (i : ℕ) → i < n
    → Billed s got.request i (row i)
rows_billed {M} got i below = billed _ _ i _ (true_held M _ _ i _ (got.held.rows_true i below))
