-- Demand 2: the plan is the method's, and a refusal is due; by each of the three methods.
use Rattle.std.specs.Prelude.{ℕ, ◌≤◌, ◌<◌, ◌≡◌, refl, true, false, List, ◌≢◌, length, ltb}
use Rattle.std.proofs.Common.{le_refl, arith}
use borrow.Author.Tests.{ltb-true, ltb-false}
use Rattle.rules.specs.Folds.{sum, largest}
use Rattle.rules.specs.Records.{read}
use Rattle.rules.specs.Reading.{Request, read_request}
use Rattle.rules.specs.Workflow.{Workflow}
use Rattle.rules.specs.Cycle.{Leads, cyclic, lowest_in_cycle}
use Rattle.rules.specs.Ranks.{cheapest_total, rank_by, R}
use Rattle.rules.specs.Rows.{Placed, row_of, is_placed, spent, length_of}
use Rattle.rules.specs.Method.{HBCS, Name, by_HBCS, by_cheapest, by_HEFT, method}
use Rattle.rules.specs.Placing.{ready_for, place}
use Rattle.rules.specs.Budget.{workflow_for}
use Rattle.rules.specs.Answer.{Outcome, plan, refusal, too_late, placed_outcome, checked, later_checks, outcome_of, outcome_by, outcome_asked}
use Rattle.laws.specs.Unmarked.{count_unmarked, none_unmarked}
use Rattle.laws.specs.Cycles.{LowestInCycle, none_leads_back, lowest_in_cycle_lowest}
use Rattle.laws.specs.Ranks.{R_equation}
use Rattle.laws.specs.Method.{method_chooses_among}
use Rattle.demands.specs.Demand2.Refusals.{refuse_either}
use Rattle.demands.specs.Ground.GoodWorkflow.{GoodWorkflow, good_workflow}
use Rattle.demands.specs.Ground.GoodRequest.{outcome_of_good}
use Rattle.demands.specs.Demand2.Built.{built_count, place_built}
use Rattle.demands.specs.Demand2.Choices.{FitsBy}
use Rattle.demands.specs.Demand2.Steps.{EachStep, AsTheMethod, steps_as_the_method}
use Rattle.demands.specs.Demand2.Sound.{RowTrue, Apart, WhileUp, rows_true, rows_apart, rows_while_up}
use Rattle.demands.specs.Demand2.Arrived.{arrives, rows_arrived, markers_at_once}
use Rattle.demands.specs.Demand2.Affordable.{HBCS_places_all}
use Rattle.demands.specs.Demand2.Totals.{spent_is_sum, length_is_largest}
use Rattle.demands.specs.Demand2.Cheapest.{Assignment, costs_in_all, cheapest_at_most_any, cheapest_attained}

-- A plan of W by a method: the tasks in the order of placing, the newest first.
pub record MethodsPlan (M : Name) (W : Workflow) (rows : List Placed) : Type 0 where
  -- R is what document 01's equation says, and each task is placed, once, as the method says.
  pub ranks : (i : ℕ) → i < W.tasks → R W i ≡ rank_by W (R W) i
  pub all_placed : (i : ℕ) → i < W.tasks → is_placed rows i ≡ true
  pub none_twice : length rows ≡ W.tasks
  pub steps : EachStep (AsTheMethod M W) rows
  -- Rows are true, no processor runs two tasks at once or one while it is down, and no task starts before its inputs arrived.
  pub rows_true : (i : ℕ) → i < W.tasks → RowTrue W i (row_of rows i)
  pub apart : (i k : ℕ) → i < W.tasks → k < W.tasks → i ≢ k → Apart (row_of rows i) (row_of rows k)
  pub while_up : (i : ℕ) → i < W.tasks → WhileUp W (row_of rows i)
  pub arrived : (e : ℕ) → e < W.edges → arrives W rows (row_of rows (W.to e)).processor e ≤ (row_of rows (W.to e)).start
  -- A task of no minutes on its processor starts when its data is ready there.
  pub markers : (i : ℕ) → i < W.tasks → W.minutes i (row_of rows i).processor ≡ 0 → (row_of rows i).start ≡ ready_for W rows i (row_of rows i).processor
  -- The summary: length and cost.
  pub length_largest : length_of rows ≡ largest W.tasks (λ i. (row_of rows i).finish)
  pub cost_sum : spent rows ≡ sum W.tasks (λ i. (row_of rows i).cost)

-- No rows are missing, and there is no cycle.
pub record Placeable (W : Workflow) (lent : ℕ) : Type 0 where
  pub enough_rows : W.tasks ≤ lent
  pub acyclic : (i : ℕ) → Leads W i i → ⊥

-- Every choice of processors costs more than the budget; and the cheapest costs `total`.
pub record TooDear (W : Workflow) (total : ℕ) : Type 0 where
  pub above : (on : ℕ → ℕ) → Assignment W on → W.budget < costs_in_all W on
  pub at_least : (on : ℕ → ℕ) → Assignment W on → total ≤ costs_in_all W on
  pub cheapest : (on : ℕ → ℕ) × Assignment W on × (costs_in_all W on ≡ total)

-- What the plan by a method is held to: HBCS to the budget and the deadline, the two others, asked for alone, to neither.
abbrev pub KeepsTo : Name → Workflow → List Placed → Type 0
KeepsTo by_HBCS W rows = (spent rows ≤ W.budget) × (too_late W.deadline (length_of rows) ≡ false)
KeepsTo by_cheapest W rows = Unit {0}
KeepsTo by_HEFT W rows = Unit {0}

-- What is due for a workflow with what is in force, and so many rows lent, by the method that is asked for.
pub data Due (W : Workflow) (lent : ℕ) : Name → Outcome → Type 0 where
  seven : {M : Name} → lent < W.tasks → Due W lent M (refusal 7 W.tasks)
  eight : {M : Name} {i : ℕ} → W.tasks ≤ lent → LowestInCycle W i → Due W lent M (refusal 8 i)
  nine : {total : ℕ} → Placeable W lent → TooDear W total → Due W lent by_HBCS (refusal 9 total)
  eleven :
      {rows : List Placed} → Placeable W lent → MethodsPlan by_HBCS W rows → spent rows ≤ W.budget
      → too_late W.deadline (length_of rows) ≡ true → Due W lent by_HBCS (refusal 11 (length_of rows))
  planned : {M : Name} {rows : List Placed} → Placeable W lent → MethodsPlan M W rows → KeepsTo M W rows → Due W lent M (plan W rows)

module _ (W : Workflow) (good : GoodWorkflow W) where
  too_dear : W.budget < cheapest_total W → TooDear W (cheapest_total W)
  too_dear dear =
      record {
        above = λ on each. omega (arith, cheapest_at_most_any W on each);
        at_least = cheapest_at_most_any W;
        cheapest = cheapest_attained W good.processors;
      }

  -- The common placing, by any of the three.
  pub methods_plan : (M : Name) → ((i : ℕ) → Leads W i i → ⊥) → FitsBy M W → MethodsPlan M W (place (method M) W W.tasks)
  methods_plan M acyclic fits =
      let rows = place (method M) W W.tasks in
      let takes = (method_chooses_among M).takes_processor in
      let (built, count) = place_built (method M) W good.from acyclic takes good.processors W.tasks (le_refl W.tasks) in
      let none_left : count_unmarked W.tasks (is_placed rows) ≡ 0 = omega (arith, built_count (method M) W built, count) in
      let all = none_unmarked (is_placed rows) W.tasks none_left in
      record {
        ranks = R_equation W good.to acyclic;
        all_placed = all;
        none_twice = count;
        steps = steps_as_the_method M W good.processors fits built;
        rows_true = λ i l. rows_true (method M) W built i (all i l);
        apart = λ i k l m. rows_apart (method M) W built i k (all i l) (all k m);
        while_up = λ i l. rows_while_up (method M) W built i (all i l);
        arrived = λ e l. (rows_arrived (method M) W built (W.to e) (all (W.to e) (good.to e l)) e l refl).1;
        markers = λ i l. markers_at_once (method M) W built i (all i l);
        length_largest = length_is_largest (method M) W built;
        cost_sum = spent_is_sum (method M) W built;
      }

  -- What the later checks say is due.
  later_due :
      (M : Name) (lent : ℕ) → Placeable W lent → Due W lent M (later_checks M W (place (method M) W W.tasks))
  unfolding later_checks placed_outcome
  later_due by_HBCS lent placeable =
      refuse_either (Due W lent by_HBCS) (ltb W.budget (cheapest_total W)) 9 (cheapest_total W) _
      (λ dear. nine placeable (too_dear (ltb-true W.budget (cheapest_total W) dear)))
      (λ within.
      let rows = place HBCS W W.tasks in
      let fits = ltb-false W.budget (cheapest_total W) within in
      let p : MethodsPlan by_HBCS W rows = unfold method in methods_plan by_HBCS placeable.acyclic fits in
      let afforded : spent rows ≤ W.budget = omega (arith, (HBCS_places_all W good.processors fits good.from placeable.acyclic).fits) in
      unfold method in
      refuse_either (Due W lent by_HBCS) (too_late W.deadline (length_of rows)) 11 (length_of rows) (plan W rows) (eleven placeable p afforded)
      (λ in_time. planned placeable p (afforded, in_time)))
  later_due by_cheapest lent placeable = planned placeable (methods_plan by_cheapest placeable.acyclic tt) tt
  later_due by_HEFT lent placeable = planned placeable (methods_plan by_HEFT placeable.acyclic tt) tt

  pub plan_is_the_methods : (M : Name) (lent : ℕ) → Due W lent M (outcome_by M W lent)
  unfolding outcome_by outcome_of checked
  plan_is_the_methods M lent =
      refuse_either (Due W lent M) (ltb lent W.tasks) 7 W.tasks _ (λ few. seven (ltb-true lent W.tasks few)) (λ enough.
      refuse_either (Due W lent M) (cyclic W) 8 (lowest_in_cycle W) _
      (λ cycle. eight (ltb-false lent W.tasks enough) (lowest_in_cycle_lowest W good.to cycle))
      (λ acyclic.
      later_due M lent (record { enough_rows = ltb-false lent W.tasks enough; acyclic = none_leads_back W good.to acyclic })))

-- A request that passes reading gets what is due to its workflow.
pub requests_get_their_due :
    (M : Name) (s : List ℕ) {end : ℕ} {r : Request} → read_request s ≡ read end r → (lent : ℕ) → Due (workflow_for M s r) lent M (outcome_asked M s lent)
requests_get_their_due M s {r = r} good lent =
    rw (outcome_of_good M s good lent) (plan_is_the_methods (workflow_for M s r) (good_workflow M s good) M lent)
