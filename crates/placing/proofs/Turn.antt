-- One turn of the placing, over what is asked of it once: the next task, what is still to come, its row, and what is kept then.
use Rattle.std.specs.Prelude.{ℕ, List, ◌+◌, ◌-◌, ◌≤◌, ◌<◌, ◌≡◌, false}
use Rattle.std.proofs.Common.{◌∙◌, arith}
use Rattle.rules.specs.Reading.{no_deadline}
use Rattle.rules.specs.Workflow.{Workflow}
use Rattle.rules.specs.Folds.{lowest}
use Rattle.rules.specs.Orders.{first}
use Rattle.rules.specs.Cycle.{Leads, cyclic}
use Rattle.rules.specs.Ranks.{cost, next_task}
use Rattle.rules.specs.Start.{arrived}
use Rattle.rules.specs.Rows.{is_placed}
use Rattle.rules.specs.Method.{Name, method}
use Rattle.rules.specs.Placing.{RCB, place}
use Rattle.good.specs.Ranges.{InRange}
use Rattle.reader.specs.declared.View.{View}
use Rattle.reader.specs.Meaning.{ViewOf}
use Rattle.lookup.specs.Lookup.{workflow_of}
use Rattle.lookup.specs.Views.{view_in_range}
use Rattle.laws.specs.Bounds.{first_most, finish_most, budget_most}
use Rattle.laws.specs.Begun.{acyclic_begun}
use Rattle.laws.specs.Cycles.{none_leads_back}
use Rattle.laws.specs.Filled.{Filled}
use Rattle.laws.specs.Stores.{at}
use Rattle.laws.specs.Method.{method_chooses_among}
use Rattle.order.specs.Standing.{placing_order}
use Rattle.successors.specs.Begins.{BeginsFrom}
use Rattle.successors.specs.Held.{released}
use Rattle.costs.specs.CostLaws.{lowest_filled}
use Rattle.busy.specs.declared.Processors.{Processors}
use Rattle.busy.specs.Kept.{kept_by, InOrder, EndBy}
use Rattle.ready.specs.Ready.{FromClock}
use Rattle.hand.specs.Hand.{row_by}
use Rattle.hand.specs.declared.Row as code
use Rattle.placing.specs.Placed.{RanksOf}
use Rattle.placing.specs.State.{State, meant_row, with_row}
use Rattle.placing.specs.Kept.{Kept}
use Rattle.placing.specs.KeptLaws.{next_kept, rcb_less}
use Rattle.placing.specs.KeptMore.{with_taken_up, row_within, kept_more}
use Rattle.placing.specs.Begins.{handed, begun_in_range, ranks_begun, begins_begun}

-- What is asked of the placing, of the workflow that it is handed.
pub record SetUp (W : Workflow) (ranks edges_at : List ℕ) : Type 0 where
  pub range : InRange W
  pub acyclic : (i : ℕ) → Leads W i i → ⊥
  pub ranks_of : RanksOf W ranks
  pub begins : BeginsFrom W 0 edges_at

pub set_up : (s : List ℕ) (v : View) → ViewOf s v → (budget : ℕ) (outset : Processors) (clock : ℕ) {ranks edges_at : List ℕ}
    → RanksOf (workflow_of s v) ranks → cyclic (workflow_of s v) ≡ false → BeginsFrom (workflow_of s v) 0 edges_at
    → InOrder outset.begins outset.ends outset.first → EndBy first_most outset.begins outset.ends outset.first → clock ≤ first_most
    → budget ≤ budget_most → SetUp (handed budget outset clock (workflow_of s v)) ranks edges_at
set_up s v good budget outset clock ranks_of no_cycle begins in_order ended clock_in budget_in =
    let W = workflow_of s v in
    let range = view_in_range s v good in
    record {
      range = begun_in_range range budget_in in_order ended clock_in;
      acyclic = acyclic_begun budget no_deadline (kept_by outset) clock W (none_leads_back W range.to_below no_cycle);
      ranks_of = ranks_begun budget outset clock W ranks_of;
      begins = begins_begun budget outset clock W begins;
    }

module _ {W : Workflow} {ranks edges_at : List ℕ} (so : SetUp W ranks edges_at) (M : Name) {k : ℕ} {state : State}
    (kept : Kept W (place (method M) W k) k state)
    (more : k < W.tasks)
    {task : ℕ}
    (is_first : task ≡ first W.tasks (placing_order ranks state.held)) where
  next_is : task ≡ next_task W (is_placed (place (method M) W k))
  next_is = next_kept so.range kept more so.ranks_of is_first

  module _ {costs : List ℕ} {low : ℕ} (costs_are : Filled W.processors (cost W task) costs) (low_is : low ≡ lowest W.processors (at costs)) where
    pub rcb_is : (low ≤ state.rcb) × (state.rcb - low ≡ RCB W (place (method M) W k) task)
    rcb_is = rcb_less so.range kept more so.acyclic next_is (low_is ∙ lowest_filled W so.range task costs_are)

    module _ {minutes : List ℕ} (all_ready : FromClock W.clock W.processors (arrived W (at state.sits) (at state.ends) task) minutes)
        {row : code.Row}
        (row_is : row ≡ row_by W (at minutes) (kept_by state.processors) task (method M) state.rb (state.rcb - low)) where
      pub row_in_reach : (row.processor < 16) × (row.start ≤ row.finish) × (row.finish ≤ finish_most)
      row_in_reach =
          let (below, forward, reach) = row_within (method_chooses_among M) so.range kept more next_is all_ready rcb_is.1 row_is in
          (omega (arith, so.range.processors_in.to_high), forward, reach)

      pub turned : {held : List ℕ} {after : Processors} → held ≡ released W (at edges_at task) (at edges_at (task + 1)) task state.held
          → after ≡ with_taken_up (meant_row row) state.processors
          → Kept W (place (method M) W (k + 1)) (k + 1) (with_row state task (meant_row row) (state.rcb - low) held after)
      turned held_is after_is =
          kept_more (method_chooses_among M) so.range kept more next_is all_ready rcb_is.1 row_is so.acyclic so.begins held_is after_is
