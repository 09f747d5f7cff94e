-- No task starts before its inputs arrived: its predecessors are placed when it is, and their rows stay as they were. One that takes no minutes starts when
-- they have.
use Rattle.std.specs.Prelude.{ℕ, ◌+◌, ◌≤◌, ◌<◌, max, ◌≡◌, true, false, cond, List, ◌∷◌, eqb}
use Rattle.std.proofs.Math.Path.{sym, ap}
use Rattle.std.proofs.Common.{◌∙◌, arith, eqb-true, eq-eqb}
use Rattle.rules.specs.Workflow.{Workflow}
use Rattle.rules.specs.Start.{arrival, awaited, arrived, ready, start_on}
use Rattle.rules.specs.Rows.{Row, Placed, row_of, is_placed, busy}
use Rattle.rules.specs.Method.{Method}
use Rattle.rules.specs.Placing.{ready_for, start_of, row_on}
use Rattle.laws.specs.Tests.{cond_same}
use Rattle.laws.specs.Folds.{at_most_largest, largest_same}
use Rattle.laws.specs.StartLaws.{start_not_before_ready, start_of_none}
use Rattle.demands.specs.Demand2.Lookup.{none_placed, old_placed, old_row, each_row}
use Rattle.demands.specs.Demand2.Built.{placed_on, Built, at_first, one_more}

-- When the data of edge e is on processor j, by these rows.
abbrev pub arrives : Workflow → List Placed → ℕ → ℕ → ℕ
arrives W rows j e = arrival W (λ p. (row_of rows p).processor) (λ p. (row_of rows p).finish) j e

-- The data of each edge into a task has arrived once all has.
pub arrival_at_most :
    (W : Workflow) (sits ends : ℕ → ℕ) (i j e : ℕ) → e < W.edges → W.to e ≡ i → arrival W sits ends j e ≤ arrived W sits ends i j
unfolding arrived
arrival_at_most W sits ends i j e l to_i = rw (eq-eqb (W.to e) i to_i) at (at_most_largest W.edges (awaited W sits ends i j) e l)

pub start_not_before_arrival : (W : Workflow) (rows : List Placed) (i j e : ℕ) → e < W.edges → W.to e ≡ i → arrives W rows j e ≤ start_of W rows i j
unfolding start_of ready_for ready
start_not_before_arrival W rows i j e l to_i =
    let in_time = arrival_at_most W (λ p. (row_of rows p).processor) (λ p. (row_of rows p).finish) i j e l to_i in
    omega (arith, in_time, start_not_before_ready (busy W rows j) (ready_for W rows i j) (W.minutes i j))

arrives_still :
    (W : Workflow) (p : Placed) (before : List Placed) → is_placed before p.task ≡ false → (j e : ℕ) → is_placed before (W.from e) ≡ true
    → arrives W (p ∷ before) j e ≡ arrives W before j e
unfolding arrival
arrives_still W p before free j e placed = rw (old_row p before free (W.from e) placed)

-- When data is ready is told by the rows of the predecessors alone.
pub ready_same :
    (W : Workflow) (row row' : ℕ → Row) (i j : ℕ) → ((e : ℕ) → e < W.edges → W.to e ≡ i → row (W.from e) ≡ row' (W.from e))
    → ready W (λ p. (row p).processor) (λ p. (row p).finish) i j ≡ ready W (λ p. (row' p).processor) (λ p. (row' p).finish) i j
unfolding ready arrived arrival
ready_same W row row' i j same =
    ap (max W.clock) (largest_same W.edges _ _ (λ e l.
    cond_same (eqb (W.to e) i) 0 (λ to.
    ap (λ r. r.finish + cond (eqb r.processor j) 0 (W.transfer e)) (same e l (eqb-true (W.to e) i to)))))

module _ (M : Method) (W : Workflow) where
  pub rows_arrived :
      {rows : List Placed} → Built M W rows → (i : ℕ) → is_placed rows i ≡ true → (e : ℕ) → e < W.edges → W.to e ≡ i
      → (is_placed rows (W.from e) ≡ true) × (arrives W rows (row_of rows i).processor e ≤ (row_of rows i).start)
  unfolding row_on
  rows_arrived at_first = λ i h. absurd (none_placed i h)
  rows_arrived (one_more {before = before} {i = n} {j = j} built next) =
      let p = placed_on W before n j in
      each_row p before
      (λ i r.
      (e : ℕ) → e < W.edges → W.to e ≡ i
      → (is_placed (p ∷ before) (W.from e) ≡ true) × (arrives W (p ∷ before) r.processor e ≤ r.start))
      (λ e l to_n.
      let placed = next.may.predecessors_placed e l to_n in
      let arrived = start_not_before_arrival W before n j e l to_n in
      (old_placed p before (W.from e) placed, rw (arrives_still W p before next.may.left j e placed) arrived))
      (λ i h e l to_i.
      let (placed, arrived) = rows_arrived built i h e l to_i in
      (old_placed p before (W.from e) placed, rw (arrives_still W p before next.may.left (row_of before i).processor e placed) arrived))

  -- A task of no minutes on its processor starts when its data is ready there.
  pub markers_at_once :
      {rows : List Placed} → Built M W rows → (i : ℕ) → is_placed rows i ≡ true → W.minutes i (row_of rows i).processor ≡ 0
      → (row_of rows i).start ≡ ready_for W rows i (row_of rows i).processor
  unfolding row_on start_of ready_for
  markers_at_once at_first = λ i h. absurd (none_placed i h)
  markers_at_once (one_more {before = before} {i = n} {j = j} built next) =
      let p = placed_on W before n j in
      let still : (i k : ℕ) → ((e : ℕ) → e < W.edges → W.to e ≡ i → is_placed before (W.from e) ≡ true) → ready_for W before i k ≡ ready_for W (p ∷ before) i k =
      λ i k placed.
      ready_same W (row_of before) (row_of (p ∷ before)) i k (λ e l to. sym (old_row p before next.may.left (W.from e) (placed e l to))) in
      each_row p before (λ i r. W.minutes i r.processor ≡ 0 → r.start ≡ ready_for W (p ∷ before) i r.processor)
      (λ none.
      ap (start_on (busy W before j) (ready_for W before n j)) none ∙ start_of_none (busy W before j) (ready_for W before n j)
      ∙ still n j next.may.predecessors_placed)
      (λ i h none.
      markers_at_once built i h none ∙ still i (row_of before i).processor (λ e l to. (rows_arrived built i h e l to).0))
