-- What is said of a start that a task does not have is true, and is the first that is to be said: data, then windows, then rows. Stated of the rows that the caller
-- holds, in lent rows or in four buffers, as many as there are.
use Prim.Native.Nat.{ℕ, zero, suc, ◌+◌, ◌-◌, ◌≤◌, ◌<◌}
use Rattle.std.specs.Prelude.{◌≡◌, eqb, leb, ltb}
use Rattle.std.proofs.Math.Path.{refl, sym, ap, subst}
use Rattle.std.proofs.Common.{◌∙◌, arith}
use Rattle.std.proofs.Math.Bool.{cond}
use mathlib.Core.List.{List, Memᴰ}
use borrow.Author.Tests.{ltb-true, ltb-false, lt-ltb, le-ltb, leb-true, leb-false}
use Rattle.rules.specs.Folds.{sum, largest}
use Rattle.rules.specs.Orders.{tie}
use Rattle.rules.specs.Fields.{M_begin, M_end}
use Rattle.rules.specs.Records.{read}
use Rattle.rules.specs.Reading.{Request, read_request}
use Rattle.rules.specs.Workflow.{Interval, Workflow, window_place, window_of, workflow}
use Rattle.rules.specs.Start.{arrival, awaited, arrived, minutes_from, Overlap}
use Rattle.rules.specs.Rows.{Row, Placed, row_of, taken_up, spent, length_of}
use Rattle.rules.specs.Method.{by_HBCS}
use Rattle.rules.specs.Budget.{in_force, held_to, workflow_for}
use Rattle.rules.specs.Answer.{Outcome, plan, refusal, outcome, refused, answer_of, answer_asked, answer}
use Rattle.rules.specs.Why as rules
use Rattle.rules.specs.Why.{Why, own_start, no_task, no_plan, last_to_arrive, Met, none, met, earliest_met, meets_row, lowest_met, window_or}
use Rattle.rules.specs.Why.{why_placed, why_of, why_not}
use Rattle.good.specs.ReadIsGood.{read_is_good}
use Rattle.good.specs.RangeLaws.{good_in_range}
use Rattle.laws.specs.Tests.{cond_either}
use Rattle.laws.specs.Folds.{sum_same, largest_same}
use Rattle.laws.specs.Orders.{higher_same, among_same}
use Rattle.laws.specs.First.{first_below, first_same}
use Rattle.laws.specs.Free.{common_overlaps}
use Rattle.laws.specs.InForce.{tasks_held}
use Rattle.demands.specs.Ground.GoodWorkflow.{GoodWorkflow, good_workflow}
use Rattle.demands.specs.Ground.GoodRequest.{outcome_of_good}
use Rattle.demands.specs.Demand1.Reading.{read_iff_passes}
use Rattle.demands.specs.Demand2.Arrived.{arrival_at_most}
use Rattle.demands.specs.Demand2.WhatIsDue as due
use Rattle.demands.specs.Demand2.WhatIsDue.{Placeable, KeepsTo}
use Rattle.demands.specs.Demand2.DueSettled.{due_is_outcome}
use Rattle.demands.specs.Demand2.WindowsAsWritten.{windows_held, window_listed, listed_window}
use Rattle.demands.specs.Demand2.Reasons.{last_is_last, EarliestMet, earliest_met_is, lowest_met_is}
use Rattle.demands.specs.Demand2.NothingEarlier.{InCommon, overlap_in_common, Late, MeetsWindow, MeetsRow}
use Rattle.demands.specs.Demand2.NothingEarlier.{StandsAgainst, late_data, in_window, beside_row, nothing_earlier}
use Rattle.demands.specs.Demand2.{PlanGot}

module _ (s : List ℕ) (r : Request) (W : Workflow) (n : ℕ) (row : ℕ → Row) (i t : ℕ) where
  -- When the data of edge e is on the task's processor.
  abbrev pub arrives : ℕ → ℕ
  arrives e = arrival W (λ p. (row p).processor) (λ p. (row p).finish) (row i).processor e

  -- What is said of a start t of task i, and when.
  pub data WhyTrue : Why → Type 0 where
    own : (row i).start ≤ t → WhyTrue (own_start (row i).start)
    -- "of the predecessors whose data arrives after the start the one that arrives last, ties to the lower number"
    late :
        t < (row i).start → (e : ℕ) → Late s r W n row i t e
        → ((e' : ℕ) → e' < W.edges → W.to e' ≡ i → arrives e' ≤ arrives e)
        → ((e' : ℕ) → e' < W.edges → W.to e' ≡ i → arrives e' ≡ arrives e → W.from e ≤ W.from e')
        → WhyTrue (rules.late_data (W.from e) (arrives e))
    -- "the earliest that it would overlap"
    window :
        t < (row i).start → ((e : ℕ) → Late s r W n row i t e → ⊥) → (e : ℕ) → MeetsWindow s r W n row i t e
        → ((e' : ℕ) → MeetsWindow s r W n row i t e' → M_begin s (window_place r e) ≤ M_begin s (window_place r e'))
        → WhyTrue (rules.in_window (M_begin s (window_place r e)) (M_end s (window_place r e)))
    -- "the lowest task that it would overlap"
    another_row :
        t < (row i).start → ((e : ℕ) → Late s r W n row i t e → ⊥) → ((e : ℕ) → MeetsWindow s r W n row i t e → ⊥) → (k : ℕ) → MeetsRow s r W n row i t k
        → ((k' : ℕ) → MeetsRow s r W n row i t k' → k ≤ k') → WhyTrue (rules.beside_row k (row k).start (row k).finish)

-- Edges rise by the task that they lead from.
rise :
    (W : Workflow) → ((e : ℕ) → e + 1 < W.edges → W.from e ≤ W.from (e + 1)) → (e more : ℕ) → e + more < W.edges → W.from e ≤ W.from (e + more)
rise W rises e zero l = let q : e + 0 ≡ e = omega arith in rw q (omega arith)
rise W rises e (suc more) l =
    let q : e + suc more ≡ e + more + 1 = omega arith in
    rw q (omega (arith, rise W rises e more (omega arith), rises (e + more) (omega arith)))

in_common_overlaps : (t minutes : ℕ) (v : Interval) → InCommon t minutes v.begin v.end → Overlap (minutes_from t minutes) v
in_common_overlaps t minutes v (m, from, until, begin, end) =
    common_overlaps (minutes_from t minutes) v (record { in_one = (from, until); in_other = (begin, end) })

-- By the rows that the caller holds, and as something stands against each earlier start.
module _ (s : List ℕ) (r : Request) (n : ℕ) (row : ℕ → Row) (i t : ℕ) where
  abbrev W : Workflow
  W = workflow_for by_HBCS s r

  abbrev sits : ℕ → ℕ
  sits k = (row k).processor

  abbrev begins : ℕ → ℕ
  begins k = (row k).start

  abbrev ends : ℕ → ℕ
  ends k = (row k).finish

  abbrev true_of : Why → Type 0
  true_of = WhyTrue s r W n row i t

  module _ (early : t < (row i).start) where
    late_true : ((e : ℕ) → e + 1 < W.edges → W.from e ≤ W.from (e + 1)) → t < arrived W sits ends i (sits i)
        → true_of (rules.late_data (W.from (last_to_arrive W sits ends i (sits i))) (arrived W sits ends i (sits i)))
    late_true rises above =
        let e = last_to_arrive W sits ends i (sits i) in
        let last = last_is_last W sits ends i (sits i) (omega arith) in
        subst (λ x. true_of (rules.late_data (W.from e) x)) last.last
        (late early e (last.edge, last.leads, omega (arith, last.last))
        (λ e' l to. omega (arith, arrival_at_most W sits ends i (sits i) e' l to, last.last))
        (λ e' l to same.
        let q : e + (e' - e) ≡ e' = omega (arith, last.lowest e' to same) in
        subst (λ x. W.from e ≤ W.from x) q (rise W rises e (e' - e) (omega (arith, l)))))

    module _ (in_time : (e : ℕ) → Late s r W n row i t e → ⊥) (against : StandsAgainst s r W n row i t) where
      abbrev minutes : ℕ
      minutes = W.minutes i (sits i)

      -- A window of the request is one that the processor is busy with at first.
      window_there : (e : ℕ) → MeetsWindow s r W n row i t e
          → Memᴰ (window_of s (window_place r e)) (W.busy_at_first (sits i)) × Overlap (minutes_from t minutes) (window_of s (window_place r e))
      unfolding window_of
      window_there e (l, on, common) = (
        subst (λ busy. Memᴰ (window_of s (window_place r e)) (busy (sits i))) (sym (windows_held by_HBCS s r)) (window_listed s r r.windows e (sits i) l on),
        in_common_overlaps t minutes (window_of s (window_place r e)) common,
      )

      row_true : ((e : ℕ) → MeetsWindow s r W n row i t e → ⊥) → StandsAgainst s r W n row i t →
          let k = lowest_met n sits begins ends minutes i t in
          true_of (rules.beside_row k (begins k) (ends k))
      row_true up (late_data e h) = absurd (in_time e h)
      row_true up (in_window e h) = absurd (up e h)
      row_true up (beside_row k (l, differ, on, common)) =
          let (below, is, lowest) =
          lowest_met_is sits begins ends minutes i t n k l (record { other = differ; same_processor = on; overlaps = in_common_overlaps t minutes (taken_up (row k)) common }) in
          another_row early in_time up _ (below, is.other, is.same_processor, overlap_in_common t minutes (taken_up (row _)) is.overlaps)
          (λ k' (l', differ', on', common').
          lowest k' l' (record { other = differ'; same_processor = on'; overlaps = in_common_overlaps t minutes (taken_up (row k')) common' }))

      rest_true : (found : Met) → EarliestMet (W.busy_at_first (sits i)) minutes t found →
          let k = lowest_met n sits begins ends minutes i t in
          true_of (window_or found (rules.beside_row k (begins k) (ends k)))
      unfolding window_or window_of
      rest_true none free = row_true (λ e h. let (m, meets) = window_there e h in free _ m meets) against
      rest_true (met v) (m, meets, first_of) =
          let (e, l, on, is) = listed_window s r r.windows (sits i) (subst (λ busy. Memᴰ v (busy (sits i))) (windows_held by_HBCS s r) m) in
          subst (λ (x : Interval). true_of (rules.in_window x.begin x.end)) (sym is)
          (window early in_time e (l, on, overlap_in_common t minutes (window_of s (window_place r e)) (subst (Overlap (minutes_from t minutes)) is meets))
          (λ e' h. let (m', meets') = window_there e' h in subst (λ (x : Interval). x.begin ≤ M_begin s (window_place r e')) is (first_of _ m' meets')))

  why_placed_true :
      ((e : ℕ) → e + 1 < W.edges → W.from e ≤ W.from (e + 1)) → n ≡ W.tasks → (t < (row i).start → StandsAgainst s r W n row i t)
      → true_of (why_placed W sits begins ends i t)
  unfolding why_placed
  why_placed_true rises tasks against =
      cond_either true_of (leb (begins i) t) _ _ (λ e. own (leb-true (begins i) t e)) (λ e.
      let early : t < (row i).start = omega (arith, leb-false (begins i) t e) in
      cond_either true_of (ltb t (arrived W sits ends i (sits i))) _ _ (λ e. late_true early rises (ltb-true t _ e)) (λ e.
      let found = earliest_met (W.busy_at_first (sits i)) (W.minutes i (sits i)) t in
      let lowest : ℕ → ℕ = λ x. lowest_met x sits begins ends (W.minutes i (sits i)) i t in
      subst (λ x. true_of (window_or found (rules.beside_row (lowest x) (begins (lowest x)) (ends (lowest x))))) tasks
      (rest_true early
      (λ x (l, to, above). omega (arith, above, arrival_at_most W sits ends i (sits i) x l to, ltb-false t (arrived W sits ends i (sits i)) e))
      (against early) found (earliest_met_is (W.minutes i (sits i)) t (W.busy_at_first (sits i))))))

-- Rows that are the same up to the last task say the same.
module _ (W : Workflow) (from : (e : ℕ) → e < W.edges → W.from e < W.tasks) (row row' : ℕ → Row) (same : (k : ℕ) → k < W.tasks → row k ≡ row' k)
    (i t : ℕ) (task : i < W.tasks) where
  awaited_same :
      (j e : ℕ) → e < W.edges
      → awaited W (λ p. (row p).processor) (λ p. (row p).finish) i j e ≡ awaited W (λ p. (row' p).processor) (λ p. (row' p).finish) i j e
  unfolding arrival
  awaited_same j e l =
      ap (λ (x : Row). cond (eqb (W.to e) i) (x.finish + cond (eqb x.processor j) 0 (W.transfer e)) 0) (same (W.from e) (from e l))

  arrived_same :
      (j : ℕ) → arrived W (λ p. (row p).processor) (λ p. (row p).finish) i j ≡ arrived W (λ p. (row' p).processor) (λ p. (row' p).finish) i j
  unfolding arrived
  arrived_same j = largest_same W.edges _ _ (awaited_same j)

  last_same :
      (j : ℕ) → last_to_arrive W (λ p. (row p).processor) (λ p. (row p).finish) i j ≡ last_to_arrive W (λ p. (row' p).processor) (λ p. (row' p).finish) i j
  unfolding last_to_arrive
  last_same j = first_same W.edges _ _ (λ e e' l l'. higher_same _ _ tie tie e e' (awaited_same j e l) (awaited_same j e' l') refl)

  meets_same :
      (minutes k : ℕ) → k < W.tasks
      → meets_row (λ p. (row p).processor) (λ p. (row p).start) (λ p. (row p).finish) minutes i t k
      ≡ meets_row (λ p. (row' p).processor) (λ p. (row' p).start) (λ p. (row' p).finish) minutes i t k
  unfolding meets_row
  meets_same minutes k l = rw (same k l, same i task) refl

  lowest_same :
      (minutes : ℕ)
      → lowest_met W.tasks (λ p. (row p).processor) (λ p. (row p).start) (λ p. (row p).finish) minutes i t
      ≡ lowest_met W.tasks (λ p. (row' p).processor) (λ p. (row' p).start) (λ p. (row' p).finish) minutes i t
  unfolding lowest_met
  lowest_same minutes =
      first_same W.tasks _ _ (λ k k' l l'. among_same _ _ tie tie k k' (meets_same minutes k l) (meets_same minutes k' l') refl)

  lowest_below : (minutes : ℕ) → lowest_met W.tasks (λ p. (row' p).processor) (λ p. (row' p).start) (λ p. (row' p).finish) minutes i t < W.tasks
  unfolding lowest_met
  lowest_below minutes = first_below W.tasks _ (omega arith)

  why_same :
      why_placed W (λ p. (row p).processor) (λ p. (row p).start) (λ p. (row p).finish) i t
      ≡ why_placed W (λ p. (row' p).processor) (λ p. (row' p).start) (λ p. (row' p).finish) i t
  unfolding why_placed
  why_same =
      let j = (row' i).processor in
      rw (same i task, arrived_same j, last_same j, lowest_same (W.minutes i j), same _ (lowest_below (W.minutes i j))) refl

module _ {s : List ℕ} {lent n l c left : ℕ} {row : ℕ → Row} (got : PlanGot by_HBCS s lent n l c left row) where
  abbrev workflow_got : Workflow
  workflow_got = workflow_for by_HBCS s got.request

  abbrev rows_got : List Placed
  rows_got = got.held.placed

  is_read : (end : ℕ) × (read_request s ≡ read end got.request)
  is_read = (read_iff_passes s got.request).1 got.passes

  is_good : GoodWorkflow workflow_got
  is_good = good_workflow by_HBCS s is_read.1

  -- The rows that the caller holds are those placed, and so are the sum and the length that were told.
  row_got : (k : ℕ) → k < workflow_got.tasks → row k ≡ row_of rows_got k
  row_got k below = got.held.rows_placed k (omega (arith, got.held.tasks))

  keeps : KeepsTo by_HBCS workflow_got rows_got
  keeps =
      let held = got.held in
      let p = held.methods_plan in
      let cost : c ≡ spent rows_got =
      held.cost_sum ∙ ap (λ x. sum x (λ i. (row i).cost)) held.tasks ∙ sum_same workflow_got.tasks _ _ (λ i h. ap (λ x. x.cost) (row_got i h)) ∙ sym p.cost_sum in
      let long : l ≡ length_of rows_got =
      held.length_largest ∙ ap (λ x. largest x (λ i. (row i).finish)) held.tasks ∙ largest_same workflow_got.tasks _ _ (λ i h. ap (λ x. x.finish) (row_got i h))
      ∙ sym p.length_largest in
      (omega (arith, cost, held.money_and_time.0), rw long at held.money_and_time.1)

  -- With 64 rows lent it is the same plan, however many were.
  as_with_64 : outcome s 64 ≡ plan workflow_got rows_got
  unfolding workflow
  as_with_64 =
      let r = got.request in
      let few : workflow_got.tasks ≤ 64 = omega (arith, tasks_held r.share (workflow s r) by_HBCS, (read_is_good s is_read.1).tasks_in.to_high) in
      let placeable : Placeable workflow_got 64 = record { enough_rows = few; acyclic = got.placeable.acyclic } in
      outcome_of_good by_HBCS s is_read.1 64 ∙ sym (due_is_outcome workflow_got is_good 64 (due.planned placeable got.held.methods_plan keeps))

  rises : (e : ℕ) → e + 1 < workflow_got.edges → workflow_got.from e ≤ workflow_got.from (e + 1)
  unfolding held_to in_force
  rises = (good_in_range s got.request (read_is_good s is_read.1)).from_rises

  module _ (i t : ℕ) where
    -- Whoever holds the rows of the page's plan is told the truth of each task's start.
    pub why_not_true : i < n → WhyTrue s got.request (workflow_for by_HBCS s got.request) n row i t (why_not s i t)
    unfolding why_not why_of
    why_not_true task =
        let here : i < workflow_got.tasks = omega (arith, got.held.tasks) in
        rw (as_with_64, lt-ltb i workflow_got.tasks here)
        (subst (WhyTrue s got.request workflow_got n row i t) (why_same workflow_got is_good.from row (row_of rows_got) row_got i t here)
        (why_placed_true s got.request n row i t rises got.held.tasks (nothing_earlier got i task t)))

    -- And of a task that there is not, that.
    pub why_not_none : n ≤ i → why_not s i t ≡ no_task n
    unfolding why_not why_of
    why_not_none past =
        let beyond : workflow_got.tasks ≤ i = omega (arith, got.held.tasks) in
        rw (as_with_64, le-ltb i workflow_got.tasks beyond) (ap no_task (sym got.held.tasks))

-- A request that has no plan has its refusal told.
pub why_of_refused : (o : Outcome) {number place : ℕ} → answer_of o ≡ refused number place → (i t : ℕ) → why_of o i t ≡ no_plan number place
unfolding why_of answer_of
why_of_refused (plan W rows) e i t = let z : ◌≡◌ {A = ℕ} 0 1 = cc in absurd (omega arith)
why_of_refused (refusal number place) e i t = cc

pub why_not_refused : (s : List ℕ) {number place : ℕ} → answer s 64 ≡ refused number place → (i t : ℕ) → why_not s i t ≡ no_plan number place
unfolding why_not answer_asked
why_not_refused s = why_of_refused (outcome s 64)
