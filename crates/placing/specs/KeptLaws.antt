-- What is kept at first, and what a turn reads off it: numbers in range, the next task, and RCB.
use Rattle.std.specs.Prelude.{ℕ, suc, ◌-◌, ◌≤◌, ◌<◌, ◌≡◌, refl, false, List, []}
use Rattle.std.proofs.Math.Path.{sym, ap, ap₂}
use Rattle.std.proofs.Common.{◌∙◌, arith}
use Rattle.std.proofs.Math.Dec.{ltb, eqb, leb-suc-suc}
use Rattle.rules.specs.Orders.{first}
use Rattle.rules.specs.Workflow.{Workflow}
use Rattle.rules.specs.Cycle.{Leads}
use Rattle.rules.specs.Ranks.{R, lowest_cost, cheapest_total, may_be_next, next_task}
use Rattle.rules.specs.Rows.{Placed, is_placed, busy, spent, length_of}
use Rattle.rules.specs.Placing.{RCB}
use Rattle.good.specs.Ranges.{InRange}
use Rattle.laws.specs.Bounds.{first_most, finish_most, ready_most, cost_most, total_most, budget_most}
use Rattle.laws.specs.LatestFinish.{finish_in_length, busy_in_length}
use Rattle.laws.specs.Tests.{cond_either}
use Rattle.laws.specs.Folds.{sum_at_most_each}
use Rattle.laws.specs.Orders.{higher_tie, among_same}
use Rattle.laws.specs.First.{first_same}
use Rattle.laws.specs.Unmarked.{sum_unmarked_less, count_unmarked_at_first}
use Rattle.laws.specs.NextTask.{MayBeNext, next_task_may}
use Rattle.laws.specs.Stores.{at}
use Rattle.laws.specs.Filled.{AtMost}
use Rattle.busy.specs.declared.Processors.{Processors}
use Rattle.busy.specs.Kept.{outset_most, Keeps, EndBy}
use Rattle.busy.specs.KeepsLaws.{keeps_end_by}
use Rattle.costs.specs.CostLaws.{lowest_cost_at_most}
use Rattle.successors.specs.Held.{Held}
use Rattle.successors.proofs.HeldLaws.{held_back_next}
use Rattle.order.specs.Standing.{placing_order}
use Rattle.placing.specs.Placed.{RanksOf, Columns}
use Rattle.placing.specs.State.{State, without_rows}
use Rattle.placing.specs.Kept.{Kept}

-- At first no task is placed.
pub kept_first :
    (W : Workflow) {sits starts ends costs held : List ℕ} {processors : Processors} {rb rcb : ℕ} → Columns [] sits starts ends costs → Held W (λ i. false) held
    → Keeps W.busy_at_first (at processors.first 16) processors → at processors.first 16 ≤ outset_most → rb ≡ W.budget → rcb ≡ cheapest_total W
    → Kept W [] 0 (without_rows sits starts ends costs held processors rb rcb)
unfolding is_placed busy spent length_of cheapest_total
kept_first W none nothing_Placed keeps few budget cheapest =
    record {
      columns = none;
      held = nothing_Placed;
      closed = λ e l h. h;
      processors = keeps;
      few_intervals = omega arith;
      rb_is = omega arith;
      spent_is = refl;
      rcb_is = cheapest;
      length_is = refl;
      count = omega (arith, count_unmarked_at_first W.tasks);
      length_most = omega arith;
      spent_most = omega arith;
    }

module _ {W : Workflow} (range : InRange W) {rows : List Placed} {k : ℕ} {state : State} (kept : Kept W rows k state) (more : k < W.tasks) where
  -- What is asked of the numbers in a turn.
  length_within : length_of rows ≤ finish_most
  length_within = omega (arith, kept.length_most, range.tasks_in)

  pub ends_within : AtMost finish_most state.ends
  ends_within i = omega (arith, kept.columns.finishes_hold.holds i, finish_in_length rows i, length_within)

  pub busy_within : EndBy ready_most state.processors.begins state.processors.ends state.processors.first
  busy_within =
      keeps_end_by kept.processors ready_most
      (λ j l v m. omega (arith, busy_in_length W first_most range.first_end_in rows j v m, length_within))

  pub rb_within : state.rb ≤ budget_most
  rb_within = omega (arith, kept.rb_is, range.budget_in)

  pub rcb_within : state.rcb ≤ total_most
  rcb_within =
      let each =
      sum_at_most_each W.tasks _ cost_most (λ i l.
      cond_either (λ x. x ≤ cost_most) (is_placed rows i) 0 (lowest_cost W i) (λ _. omega arith) (λ _. lowest_cost_at_most W range i)) in
      omega (arith, kept.rcb_is, each, range.tasks_in)

  -- The next task by ranks and by what holds tasks back, in arrays, is the rules'.
  pub next_kept : {ranks : List ℕ} {i : ℕ} → RanksOf W ranks → i ≡ first W.tasks (placing_order ranks state.held)
      → i ≡ next_task W (is_placed rows)
  unfolding next_task
  next_kept {ranks} ranks_of e =
      e
      ∙ first_same W.tasks _ _ (λ x y l m.
      among_same _ _ _ _ x y (nothing_holds x) (nothing_holds y)
      (higher_tie (at ranks) x y ∙ ap₂ ltb (ranks_of.are y m) (ranks_of.are x l) ∙ leb-suc-suc (suc (R W y)) (R W x) ∙ sym (higher_tie (R W) x y)))
    where
      nothing_holds : (x : ℕ) → eqb (at state.held x) 0 ≡ may_be_next W (is_placed rows) x
      nothing_holds x = ap (λ h. eqb h 0) (kept.held.holds x) ∙ held_back_next W (is_placed rows) x

  module _ (acyclic : (i : ℕ) → Leads W i i → ⊥) {i : ℕ} (next : i ≡ next_task W (is_placed rows)) where
    pub next_may : (i < W.tasks) × MayBeNext W (is_placed rows) i
    next_may = rw next (next_task_may W (is_placed rows) range.from_below acyclic (omega (arith, kept.count)))

    -- RCB: its lowest cost less.
    pub rcb_less : {low : ℕ} → low ≡ lowest_cost W i → (low ≤ state.rcb) × (state.rcb - low ≡ RCB W rows i)
    unfolding RCB
    rcb_less e =
        let less = sum_unmarked_less (is_placed rows) (lowest_cost W) W.tasks i next_may.0 next_may.1.left in
        (omega (arith, kept.rcb_is), omega (arith, kept.rcb_is))
