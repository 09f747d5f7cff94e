-- Nothing can be pulled forward: keep all other rows, windows and the processor, and a task that is given an earlier start overlaps a row or a window of that
-- processor, or starts before its data is ready. Stated of the rows that the caller holds, minute by minute, with no word of the order of placing: what was placed
-- before a task is enough to hold it back, and the rows placed later only add to that.
use Rattle.std.specs.Prelude.{ℕ, ◌+◌, ◌≤◌, ◌<◌, max, ◌≡◌, Bool, cond, ◌⊎◌, ◌≢◌, eqb, length, get_or}
use Rattle.std.proofs.Math.Path.{refl, sym, ap}
use Rattle.std.proofs.Common.{subst, ◌∙◌, true≢false, arith, eqb-true}
use Rattle.std.proofs.Math.Bool.{true, false}
use mathlib.Core.List.Memᴰ
use mathlib.Core.List.{List, [], ◌∷◌, Memᴰ}
use Rattle.std.proofs.Math.Logic.{inl, inr, ⊎_elim}
use Rattle.rules.specs.Fields.{M_processor, M_begin, M_end}
use Rattle.rules.specs.Reading.{Request}
use Rattle.rules.specs.Workflow.{Interval, Workflow, busy_with, window_place, window_of, workflow}
use Rattle.rules.specs.Start.{arrival, awaited, arrived, ready, minutes_from, Overlap, free}
use Rattle.rules.specs.Rows.{Row, Placed, no_row, row_of, is_placed, taken_up, busy}
use Rattle.rules.specs.Method.{Name, by_HBCS, by_cheapest, by_HEFT}
use Rattle.rules.specs.Placing.{ready_for, start_of, row_on}
use Rattle.rules.specs.Budget.{in_force, unbound, held_to, workflow_for}
use Rattle.rules.specs.Answer.{planned, answer_asked, rows_asked}
use Rattle.rules.specs.Buffers.{Buffers, rows_lent, row_in, buffers_asked}
use Rattle.laws.specs.Numbers.{below_or_on}
use Rattle.laws.specs.Folds.{largest_attained}
use Rattle.laws.specs.Highest.{largest_of_some}
use Rattle.laws.specs.Free.{overlap_has_common, common_overlaps, free_told, InTheWay, met_unless_free}
use Rattle.laws.specs.StartLaws.{start_is}
use Rattle.demands.specs.Ground.GoodWorkflow.{good_workflow}
use Rattle.demands.specs.Demand1.Reading.{read_iff_passes}
use Rattle.demands.specs.Demand2.Lookup.{new_placed, old_placed, old_row}
use Rattle.demands.specs.Demand2.Arrived.{ready_same}
use Rattle.demands.specs.Demand2.Steps.{EachStep, AsTheMethod}
use Rattle.demands.specs.Demand2.PlacedAt.{new_row, both_placed, PlacedAt, placed_at, only_tasks}
use Rattle.demands.specs.Demand2.WindowsAsWritten.{windows_held, listed_window, no_row_in_a_window}
use Rattle.demands.specs.Demand2.{PlanGot, plan_in_rows, plan_in_buffers}

-- What stands against a start t of task i among n rows, all the others kept.
pub data Against (W : Workflow) (n : ℕ) (row : ℕ → Row) (i t : ℕ) : Type 0 where
  unready : t < ready W (λ p. (row p).processor) (λ p. (row p).finish) i (row i).processor → Against W n row i t
  down :
      (v : Interval) → Memᴰ v (W.busy_at_first (row i).processor) → Overlap (minutes_from t (W.minutes i (row i).processor)) v
      → Against W n row i t
  taken :
      (k : ℕ) → k < n → k ≢ i → (row k).processor ≡ (row i).processor → Overlap (minutes_from t (W.minutes i (row i).processor)) (taken_up (row k))
      → Against W n row i t

-- A row that is on processor j and takes up v.
abbrev RowThere : (j : ℕ) → Interval → List Placed → Type 0
RowThere j v rows = (k : ℕ) × (is_placed rows k ≡ true) × ((row_of rows k).processor ≡ j) × (taken_up (row_of rows k) ≡ v)

-- A processor is busy with what it is busy with at first, and with rows.
module _ (M : Name) (W : Workflow) (j : ℕ) (v : Interval) where
  busy_from : (rows : List Placed) → EachStep (AsTheMethod M W) rows → Memᴰ v (busy W rows j) → Memᴰ v (W.busy_at_first j) ⊎ RowThere j v rows
  unfolding busy busy_with
  busy_from [] steps = inl
  busy_from (p ∷ before) (step, steps) = go (eqb p.row.processor j) refl (busy_from before steps)
    where
      older : Memᴰ v (W.busy_at_first j) ⊎ RowThere j v before → Memᴰ v (W.busy_at_first j) ⊎ RowThere j v (p ∷ before)
      older =
          ⊎_elim inl
          (λ ((k, placed, on, is) : RowThere j v before).
          let same = old_row p before step.may_be_next.left k placed in
          inr (k, old_placed p before k placed, ap (λ r. r.processor) same ∙ on, ap taken_up same ∙ is))

      go :
          (t : Bool) → eqb p.row.processor j ≡ t → (Memᴰ v (busy W before j) → Memᴰ v (W.busy_at_first j) ⊎ RowThere j v before)
          → Memᴰ v (cond t (taken_up p.row ∷ busy W before j) (busy W before j))
          → Memᴰ v (W.busy_at_first j) ⊎ RowThere j v (p ∷ before)
      go true on rest m =
          ⊎_elim
          (λ (q : v ≡ taken_up p.row).
          let own = new_row p before in
          inr (p.task, new_placed p before, ap (λ r. r.processor) own ∙ eqb-true p.row.processor j on, ap taken_up own ∙ sym q))
          (λ m'. older (rest m')) (Memᴰ.cases_cons m)
      go false on rest m = older (rest m)

-- Of a plan as it is placed, where task i came to be placed.
module _ {M : Name} (W : Workflow) {rows : List Placed} (steps : EachStep (AsTheMethod M W) rows) (i : ℕ) (there : PlacedAt M W rows i) where
  abbrev there_on : ℕ
  there_on = (row_of rows i).processor

  abbrev then_busy : List Interval
  then_busy = busy W there.before there_on

  abbrev then_ready : ℕ
  then_ready = ready_for W there.before i there_on

  -- Its predecessors' rows stay, so that its data is ready when it was.
  still_ready : then_ready ≡ ready_for W rows i there_on
  unfolding ready_for
  still_ready =
      ready_same W (row_of there.before) (row_of rows) i there_on (λ e l to. sym (there.stay (W.from e) (there.may.predecessors_placed e l to)))

  -- So do those that the processor was busy with.
  still_there : {t : ℕ} → InTheWay then_busy (W.minutes i there_on) t → Against W W.tasks (row_of rows) i t
  still_there {t} (v, m, meets) =
      ⊎_elim (λ first. down v first meets)
      (λ ((k, placed, on, is) : RowThere there_on v there.before).
      let stays = there.stay k placed in
      taken k (only_tasks M W rows steps k (both_placed rows k i (there.before_it k placed)).0)
      (λ same. true≢false (sym placed ∙ ap (is_placed there.before) same ∙ there.may.left))
      (ap (λ r. r.processor) stays ∙ on)
      (subst (Overlap (minutes_from t (W.minutes i there_on))) (sym (ap taken_up stays ∙ is)) meets))
      (busy_from M W there_on v there.before there.steps_before m)

  placed_against : (t : ℕ) → t < (row_of rows i).start → Against W W.tasks (row_of rows) i t
  unfolding row_on start_of ready_for
  placed_against t early =
      ⊎_elim (λ h. go h (free then_busy (W.minutes i there_on) t) refl) (λ (h : t + 1 ≤ then_ready). unready (omega (arith, still_ready)))
      (below_or_on then_ready t)
    where
      go : then_ready ≤ t → (b : Bool) → free then_busy (W.minutes i there_on) t ≡ b → Against W W.tasks (row_of rows) i t
      go h true e =
          let least = (start_is then_busy then_ready (W.minutes i there_on)).none_earlier t h (free_told then_busy (W.minutes i there_on) t e) in
          absurd (omega (arith, least, ap (λ r. r.start) there.row))
      go h false e = still_there (met_unless_free then_busy (W.minutes i there_on) t e)

-- The same of the rows that the caller holds.
against_held :
    (W : Workflow) (n : ℕ) (row row' : ℕ → Row) → ((k : ℕ) → k < n → row' k ≡ row k) → ((e : ℕ) → e < W.edges → W.from e < n) → {i t : ℕ} → i < n
    → Against W n row i t → Against W n row' i t
against_held W n row row' same from {i} {t} task (unready early) =
    unready (rw (same i task) (omega (arith, early, ready_same W row' row i (row i).processor (λ e l to. same (W.from e) (from e l)))))
against_held W n row row' same from {i} {t} task (down v m o) = down v (rw (same i task) m) (rw (same i task) o)
against_held W n row row' same from {i} {t} task (taken k l differ on o) = taken k l differ (rw (same i task, same k l) on) (rw (same i task, same k l) o)

-- The minutes from t on, so many, and those from `begin` on, up to `end`, have one in common.
abbrev pub InCommon : (t minutes begin end : ℕ) → Type 0
InCommon t minutes begin end = (m : ℕ) × (t ≤ m) × (m < t + minutes) × (begin ≤ m) × (m < end)

-- What may stand against a start t of task i, where `row k` is what the caller holds as row k.
module _ (s : List ℕ) (r : Request) (W : Workflow) (n : ℕ) (row : ℕ → Row) (i t : ℕ) where
  -- The data of edge e arrives later.
  abbrev pub Late : (e : ℕ) → Type 0
  Late e = (e < W.edges) × (W.to e ≡ i) × (t < arrival W (λ p. (row p).processor) (λ p. (row p).finish) (row i).processor e)

  -- It would run in a minute of window e, which stands in the request, of its processor.
  abbrev pub MeetsWindow : (e : ℕ) → Type 0
  MeetsWindow e =
      let window = window_place r e in
      (e < r.windows) × (M_processor s window ≡ (row i).processor) × InCommon t (W.minutes i (row i).processor) (M_begin s window) (M_end s window)

  -- It would run in a minute of the row of task k, which is another on its processor.
  abbrev pub MeetsRow : (k : ℕ) → Type 0
  MeetsRow k =
      (k < n) × (k ≢ i) × ((row k).processor ≡ (row i).processor) × InCommon t (W.minutes i (row i).processor) (row k).start (row k).finish

  pub data StandsAgainst : Type 0 where
    late_data : (e : ℕ) → Late e → StandsAgainst
    in_window : (e : ℕ) → MeetsWindow e → StandsAgainst
    beside_row : (k : ℕ) → MeetsRow k → StandsAgainst

pub overlap_in_common : (t minutes : ℕ) (v : Interval) → Overlap (minutes_from t minutes) v → InCommon t minutes v.begin v.end
overlap_in_common t minutes v o =
    let common = overlap_has_common (minutes_from t minutes) v o in
    (max t v.begin, common.in_one.0, common.in_one.1, common.in_other.0, common.in_other.1)

-- Before its data is ready a task waits for an edge, where it need not wait for the clock.
waits_for_edge :
    (W : Workflow) (sits ends : ℕ → ℕ) (i j t : ℕ) → W.clock ≡ 0 → t < ready W sits ends i j
    → (e : ℕ) × (e < W.edges) × (W.to e ≡ i) × (t < arrival W sits ends j e)
unfolding ready arrived
waits_for_edge W sits ends i j t clock early =
    let some = largest_of_some W.edges (awaited W sits ends i j) (omega arith) in
    let (e, l, most) = largest_attained W.edges (awaited W sits ends i j) some in
    let (to, late) = go e (eqb (W.to e) i) refl (omega (arith, most)) in
    (e, l, to, late)
  where
    go : (e : ℕ) (b : Bool) → eqb (W.to e) i ≡ b → t < cond b (arrival W sits ends j e) 0 → (W.to e ≡ i) × (t < arrival W sits ends j e)
    go e true to late = (eqb-true (W.to e) i to, late)
    go e false to late = absurd (omega arith)

-- A request's clock stands at 0, whatever is in force.
clock_held : (M : Name) (s : List ℕ) (r : Request) → (workflow_for M s r).clock ≡ 0
unfolding workflow held_to unbound in_force
clock_held by_HBCS s r = refl
clock_held by_cheapest s r = refl
clock_held by_HEFT s r = refl

-- The same of the windows that stand in the request.
as_written :
    (M : Name) (s : List ℕ) (r : Request) (n : ℕ) (row : ℕ → Row) (i t : ℕ) → Against (workflow_for M s r) n row i t
    → StandsAgainst s r (workflow_for M s r) n row i t
unfolding window_of
as_written M s r n row i t (unready early) =
    let (e, l, to, late) = waits_for_edge (workflow_for M s r) _ _ i (row i).processor t (clock_held M s r) early in
    late_data e (l, to, late)
as_written M s r n row i t (down v m o) =
    let (e, l, on, is) = listed_window s r r.windows (row i).processor (subst (λ busy. Memᴰ v (busy (row i).processor)) (windows_held M s r) m) in
    in_window e (l, on, overlap_in_common t _ (window_of s (window_place r e)) (subst (Overlap (minutes_from t _)) is o))
as_written M s r n row i t (taken k l differ on o) = beside_row k (l, differ, on, overlap_in_common t _ (taken_up (row k)) o)

module _ {M : Name} {s : List ℕ} {lent n l c left : ℕ} {row : ℕ → Row} (got : PlanGot M s lent n l c left row) where
  -- What stands against a start of a task of the plan that the caller got.
  abbrev pub StandsAgainstIn : (i t : ℕ) → Type 0
  StandsAgainstIn i t = StandsAgainst s got.request (workflow_for M s got.request) n row i t

  -- "no task can be given an earlier start without overlapping a row or window of that processor or starting before its data is ready". A task that takes no minutes
  -- has none in common with anything, so that only data can be in its way.
  pub nothing_earlier : (i : ℕ) → i < n → (t : ℕ) → t < (row i).start → StandsAgainstIn i t
  nothing_earlier i task t early =
      let r = got.request in
      let W = workflow_for M s r in
      let held = got.held in
      let rows = held.placed in
      let steps = held.methods_plan.steps in
      let here : i < W.tasks = omega (arith, held.tasks) in
      let same : (k : ℕ) → k < W.tasks → row k ≡ row_of rows k = λ k l. held.rows_placed k (omega (arith, held.tasks)) in
      let good = good_workflow M s ((read_iff_passes s r).1 got.passes).1 in
      let there = placed_at M W rows steps i (held.methods_plan.all_placed i here) in
      subst (λ x. StandsAgainst s r W x row i t) (sym held.tasks)
      (as_written M s r W.tasks row i t
      (against_held W W.tasks (row_of rows) row same good.from here
      (placed_against W steps i there t (omega (arith, ap (λ x. x.start) (same i here))))))

  -- And nothing stands against its own start: so that is the least minute for it, all other rows kept.
  pub own_start_stands : (i : ℕ) → i < n → StandsAgainstIn i (row i).start → ⊥
  own_start_stands i task (late_data e (l, to, late)) =
      let arrives : ℕ → ℕ = λ k. arrival (workflow_for M s got.request) (λ p. (row p).processor) (λ p. (row p).finish) (row k).processor e in
      omega (arith, late, subst (λ k. arrives k ≤ (row k).start) to (got.held.arrived e l))
  own_start_stands i task (in_window e (l, on, (m, from, until, begin, end))) =
      no_row_in_a_window got i e task l on m from (omega (arith, until, (got.held.rows_true i task).finish)) begin end
  own_start_stands i task (beside_row k (l, differ, on, (m, from, until, begin, end))) =
      got.held.apart i k task l (λ same. differ (sym same)) (sym on)
      (common_overlaps (taken_up (row i)) (taken_up (row k))
      (record { in_one = (from, omega (arith, until, (got.held.rows_true i task).finish)); in_other = (begin, end) }))

-- From the answer alone, of lent rows; and of four buffers.
pub nothing_earlier_in_rows :
    (M : Name) (s : List ℕ) (lent : List Row) {n l c left : ℕ} (e : answer_asked M s (length lent) ≡ planned n l c left) (i : ℕ) → i < n → (t : ℕ)
    → t < (get_or (rows_asked M s lent) i no_row).start → StandsAgainstIn (plan_in_rows M s lent e) i t
nothing_earlier_in_rows M s lent e = nothing_earlier (plan_in_rows M s lent e)

pub nothing_earlier_in_buffers :
    (M : Name) (s : List ℕ) (lent : Buffers) {n l c left : ℕ} (e : answer_asked M s (rows_lent lent) ≡ planned n l c left) (i : ℕ) → i < n → (t : ℕ)
    → t < (row_in (buffers_asked M s lent) i).start → StandsAgainstIn (plan_in_buffers M s lent e) i t
nothing_earlier_in_buffers M s lent e = nothing_earlier (plan_in_buffers M s lent e)
