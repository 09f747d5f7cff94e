-- The rows of a plan are true, no processor runs two tasks at once, and none runs a task while it is down: a new row is made so, and is clear of all that its
-- processor is busy with.
use Rattle.std.specs.Prelude.{ℕ, ◌+◌, ◌≤◌, ◌<◌, ◌≡◌, Bool, true, false, cond, ◌⊎◌, ◌≢◌, eqb}
use Rattle.std.proofs.Math.Path.{refl}
use Rattle.std.proofs.Common.{sym, eq-eqb}
use mathlib.Core.List.{List, [], ◌∷◌, Memᴰ}
use Rattle.rules.specs.Workflow.{Interval, Workflow, busy_with}
use Rattle.rules.specs.Ranks.{cost}
use Rattle.rules.specs.Start.{Overlap}
use Rattle.rules.specs.Rows.{Row, Placed, row_of, is_placed, taken_up, busy}
use Rattle.rules.specs.Method.{Method}
use Rattle.rules.specs.Placing.{ready_for, start_of, finish_of, row_on}
use Rattle.laws.specs.Free.{overlap_turned, one_ends_before}
use Rattle.laws.specs.StartLaws.{start_is}
use Rattle.demands.specs.Demand2.Lookup.{none_placed, each_row}
use Rattle.demands.specs.Demand2.Built.{placed_on, Built, at_first, one_more}

-- "Finish = start + w." "cost(i,j) is the larger of minimum(j) and w(i,j) x price(j)"
pub record RowTrue (W : Workflow) (i : ℕ) (r : Row) : Type 0 where
  pub task : i < W.tasks
  pub processor : r.processor < W.processors
  pub finish : r.finish ≡ r.start + W.minutes i r.processor
  pub cost : r.cost ≡ cost W i r.processor

-- On one processor they have no minute in common. So one that takes no minutes is apart from all.
abbrev pub Apart : Row → Row → Type 0
Apart r r' = r.processor ≡ r'.processor → Overlap (taken_up r) (taken_up r') → ⊥

-- Of two that take minutes the one then ends before the other begins.
pub one_after_the_other :
    (r r' : Row) → Apart r r' → r.processor ≡ r'.processor → r.start < r.finish → r'.start < r'.finish
    → (r'.finish ≤ r.start) ⊎ (r.finish ≤ r'.start)
one_after_the_other r r' apart same some some' = one_ends_before (taken_up r) (taken_up r') some some' (apart same)

-- "no task runs while its machine is down": a row has no minute in common with what its processor is busy with at first, its windows.
abbrev pub WhileUp : Workflow → Row → Type 0
WhileUp W r = (v : Interval) → Memᴰ v (W.busy_at_first r.processor) → Overlap (taken_up r) v → ⊥

new_busy : (W : Workflow) (p : Placed) (before : List Placed) → Memᴰ (taken_up p.row) (busy W (p ∷ before) p.row.processor)
unfolding busy busy_with
new_busy W p before = rw (eq-eqb p.row.processor p.row.processor refl) (Memᴰ.head refl)

old_busy :
    (W : Workflow) (p : Placed) (before : List Placed) (j : ℕ) {v : Interval} → Memᴰ v (busy W before j) → Memᴰ v (busy W (p ∷ before) j)
unfolding busy busy_with
old_busy W p before j {v} m = go (eqb p.row.processor j)
  where
    go : (t : Bool) → Memᴰ v (cond t (taken_up p.row ∷ busy W before j) (busy W before j))
    go true = Memᴰ.tail m
    go false = m

-- What it is busy with at first it stays busy with.
first_busy : (W : Workflow) (rows : List Placed) (j : ℕ) {v : Interval} → Memᴰ v (W.busy_at_first j) → Memᴰ v (busy W rows j)
first_busy W [] j m = unfold busy in m
first_busy W (p ∷ rows) j m = old_busy W p rows j (first_busy W rows j m)

module _ (M : Method) (W : Workflow) where
  pub rows_true : {rows : List Placed} → Built M W rows → (i : ℕ) → is_placed rows i ≡ true → RowTrue W i (row_of rows i)
  unfolding row_on finish_of
  rows_true at_first = λ i h. absurd (none_placed i h)
  rows_true (one_more {before = before} {i = n} {j = j} built next) =
      each_row (placed_on W before n j) before (RowTrue W) (record { task = next.task; processor = next.processor; finish = refl; cost = refl })
      (rows_true built)

  -- A processor is busy with each row that is on it.
  rows_busy :
      {rows : List Placed} → Built M W rows → (i : ℕ) → is_placed rows i ≡ true
      → Memᴰ (taken_up (row_of rows i)) (busy W rows (row_of rows i).processor)
  rows_busy at_first = λ i h. absurd (none_placed i h)
  rows_busy (one_more {before = before} {i = n} {j = j} built next) =
      let p = placed_on W before n j in
      each_row p before (λ i r. Memᴰ (taken_up r) (busy W (p ∷ before) r.processor)) (new_busy W p before)
      (λ i h. old_busy W p before (row_of before i).processor (rows_busy built i h))

  pub rows_while_up : {rows : List Placed} → Built M W rows → (i : ℕ) → is_placed rows i ≡ true → WhileUp W (row_of rows i)
  unfolding row_on start_of finish_of
  rows_while_up at_first = λ i h. absurd (none_placed i h)
  rows_while_up (one_more {before = before} {i = n} {j = j} built next) =
      each_row (placed_on W before n j) before (λ i r. WhileUp W r)
      (λ v m. (start_is (busy W before j) (ready_for W before n j) (W.minutes n j)).overlaps_nothing v (first_busy W before j m))
      (rows_while_up built)

  -- A new row is clear of each row that is on its processor.
  new_apart :
      {before : List Placed} → Built M W before → (n j k : ℕ) → is_placed before k ≡ true → Apart (row_on W before n j) (row_of before k)
  unfolding row_on start_of finish_of
  new_apart {before} built n j k placed same =
      let start = start_is (busy W before j) (ready_for W before n j) (W.minutes n j) in
      start.overlaps_nothing (taken_up (row_of before k)) (rw same (rows_busy built k placed))

  pub rows_apart :
      {rows : List Placed} → Built M W rows → (i k : ℕ) → is_placed rows i ≡ true → is_placed rows k ≡ true → i ≢ k
      → Apart (row_of rows i) (row_of rows k)
  rows_apart at_first = λ i k h g differ. absurd (none_placed i h)
  rows_apart (one_more {before = before} {i = n} {j = j} built next) = λ i k h g.
      let p = placed_on W before n j in
      each_row p before (λ x r. x ≢ k → Apart r (row_of (p ∷ before) k))
      (each_row p before (λ y r. n ≢ y → Apart p.row r) (λ differ. absurd (differ refl)) (λ y placed differ. new_apart built n j y placed) k g)
      (λ x placed.
      each_row p before (λ y r. x ≢ y → Apart (row_of before x) r)
      (λ differ same overlap. new_apart built n j x placed (sym same) (overlap_turned (taken_up (row_of before x)) (taken_up p.row) overlap))
      (λ y placed'. rows_apart built x y placed placed') k g)
      i h
