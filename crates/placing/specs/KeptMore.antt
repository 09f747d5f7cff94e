-- One turn: the next task is placed, and what is kept has its row.
use Rattle.std.specs.Prelude.{ℕ, ◌+◌, ◌≤◌, ◌<◌, max, ◌≡◌, refl, List, ◌∷◌, ltb, eqb}
use Rattle.std.proofs.Common.{sym, ◌∙◌, add-one, ⊎_elim, eqb-true}
use Rattle.std.proofs.Math.Path.{ap, subst}
use native.Mathlib.Omega.{arith}
use Rattle.rules.specs.Workflow.{Workflow}
use Rattle.rules.specs.Cycle.{Leads}
use Rattle.rules.specs.Ranks.{next_task}
use Rattle.rules.specs.Start.{arrived}
use Rattle.rules.specs.Rows.{Row, Placed, is_placed, busy, spent, length_of}
use Rattle.rules.specs.Method.{Method}
use Rattle.rules.specs.Placing.{start_of, finish_of, RCB, question, row_on, place_task, place_next, place}
use Rattle.good.specs.Ranges.{InRange}
use Rattle.laws.specs.Bounds.{finish_most}
use Rattle.laws.specs.LatestFinish.{finish_in_reach, length_in_reach}
use Rattle.laws.specs.Tests.{cond_either, or_either, or_right}
use Rattle.laws.specs.Unmarked.{sum_unmarked_less}
use Rattle.laws.specs.Method.{ChoosesAmong}
use Rattle.laws.specs.Stores.{at}
use Rattle.busy.specs.declared.Processors.{Processors}
use Rattle.busy.specs.Kept.{kept_by}
use Rattle.busy.specs.Put.{put_in}
use Rattle.busy.specs.KeepsLaws.{keeps_put}
use Rattle.successors.specs.Begins.{BeginsFrom}
use Rattle.successors.specs.Held.{released}
use Rattle.successors.proofs.HeldLaws.{held_released}
use Rattle.ready.specs.Ready.{FromClock}
use Rattle.hand.specs.Hand.{row_by}
use Rattle.hand.specs.declared.Row as code
use Rattle.costs.specs.CostLaws.{cost_at_most}
use Rattle.placing.specs.State.{State, meant_row, with_row}
use Rattle.placing.specs.Kept.{Kept}
use Rattle.placing.specs.Arrays.{columns_more}
use Rattle.placing.specs.KeptHand.{takes, row_kept}
use Rattle.placing.specs.KeptLaws.{next_may}

-- The row of a task is put among the intervals that are kept of the processors, unless it takes no minutes.
abbrev pub with_taken_up : Row → Processors → Processors
with_taken_up row before = put_in row.processor row.start row.finish before

-- On any processor.
kept_on :
    {W : Workflow} {rows : List Placed} {k i to_come j : ℕ} {state : State} {begins : List ℕ} → InRange W → ((i : ℕ) → Leads W i i → ⊥)
    → BeginsFrom W 0 begins → Kept W rows k state → k < W.tasks → i ≡ next_task W (is_placed rows) → to_come ≡ RCB W rows i → j < W.processors
    → Kept W (record { task = i; row = row_on W rows i j } ∷ rows) (k + 1)
    (with_row state i (row_on W rows i j) to_come (released W (at begins i) (at begins (i + 1)) i state.held)
    (with_taken_up (row_on W rows i j) state.processors))
unfolding busy spent length_of is_placed RCB row_on start_of finish_of
kept_on {W} {rows} {k} {i} {j = j} {state = state} {begins = begins} range acyclic begins_are kept more next to_come_is below =
    let new : Placed = record { task = i; row = row_on W rows i j } in
    let (task, may) = next_may range kept more acyclic next in
    let in_array : i < 64 = omega (arith, range.tasks_in) in
    let in_reach : j < 16 = omega (arith, range.processors_in) in
    let keeps = keeps_put kept.processors in_reach (omega (arith, kept.few_intervals, range.tasks_in)) new.row.start new.row.finish in
    let fewer = sum_unmarked_less (is_placed rows) (λ t. 1) W.tasks i task may.left in
    record {
      columns = columns_more new rows kept.columns in_array;
      held =
          held_released W range (is_placed rows) (at begins i) (at begins (i + 1)) i (begins_are.begin i (omega arith) (omega arith))
          (begins_are.begin (i + 1) (omega arith) (omega arith)) task may.left kept.closed state.held kept.held;
      closed = λ e l h.
          or_right (eqb i (W.from e)) (is_placed rows (W.from e))
          (⊎_elim (λ to. may.predecessors_placed e l (sym (eqb-true i (W.to e) to))) (kept.closed e l)
          (or_either (eqb i (W.to e)) (is_placed rows (W.to e)) h));
      processors = record { in_order = keeps.in_order; in_all = refl; holds = keeps.holds };
      few_intervals =
          omega (arith, keeps.in_all, kept.few_intervals, cond_either (λ x. x ≤ 1) (ltb new.row.start new.row.finish) 1 0 (λ _. omega arith) (λ _. omega arith));
      rb_is = omega (arith, kept.rb_is);
      spent_is = ap (λ x. x + new.row.cost) kept.spent_is;
      rcb_is = to_come_is;
      length_is = ap (λ x. max x new.row.finish) kept.length_is;
      count = omega (arith, kept.count);
      length_most = length_in_reach W range.minutes_most range.transfer_in range.clock_in range.first_end_in new rows k i j refl kept.length_most;
      spent_most = omega (arith, kept.spent_most, cost_at_most W range i j);
    }

-- On the processor that a method takes.
module _ {M : Method} (among : ChoosesAmong M) {W : Workflow} (range : InRange W) {k : ℕ} {state : State} (kept : Kept W (place M W k) k state)
    (more : k < W.tasks)
    {i : ℕ}
    (next : i ≡ next_task W (is_placed (place M W k)))
    {minutes : List ℕ}
    (all_ready : FromClock W.clock W.processors (arrived W (at state.sits) (at state.ends) i) minutes)
    {to_come : ℕ}
    (to_come_is : to_come ≡ RCB W (place M W k) i)
    {r : code.Row}
    (handed : r ≡ row_by W (at minutes) (kept_by state.processors) i M state.rb to_come) where
  abbrev taken : ℕ
  taken = M (question W (place M W k) i)

  row_is : meant_row r ≡ row_on W (place M W k) i taken
  row_is = row_kept range kept i all_ready among to_come_is handed

  -- It is on a processor that there is, and in reach.
  pub row_within : (r.processor < W.processors) × (r.start ≤ r.finish) × (r.finish ≤ finish_most)
  unfolding row_on start_of finish_of
  row_within =
      let start = ap (λ x. x.start) row_is in
      let finish = ap (λ x. x.finish) row_is in
      let reach = finish_in_reach W range.minutes_most range.transfer_in range.clock_in range.first_end_in (place M W k) i taken in (
        omega (arith, ap (λ x. x.processor) row_is, takes among range (place M W k) i),
        omega arith,
        omega (arith, kept.length_most, range.tasks_in),
      )

  placed_more : place M W (k + 1) ≡ record { task = i; row = row_on W (place M W k) i taken } ∷ place M W k
  unfolding place place_next place_task
  placed_more = ap (place M W) (add-one k) ∙ rw (← next)

  pub kept_more :
      {begins held : List ℕ} {after : Processors} → ((i : ℕ) → Leads W i i → ⊥) → BeginsFrom W 0 begins
      → held ≡ released W (at begins i) (at begins (i + 1)) i state.held → after ≡ with_taken_up (meant_row r) state.processors
      → Kept W (place M W (k + 1)) (k + 1) (with_row state i (meant_row r) to_come held after)
  kept_more {begins = begins} acyclic begins_are held_is after_is =
      let in_row = λ (row : Row).
      Kept W (record { task = i; row = row_on W (place M W k) i taken } ∷ place M W k) (k + 1)
      (with_row state i row to_come (released W (at begins i) (at begins (i + 1)) i state.held) (with_taken_up row state.processors)) in
      rw (placed_more, held_is, after_is)
      (subst in_row (sym row_is) (kept_on range acyclic begins_are kept more next to_come_is (takes among range (place M W k) i)))
