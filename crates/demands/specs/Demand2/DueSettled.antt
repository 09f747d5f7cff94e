-- What demand 2 says is due settles the outcome: whatever is due for a good workflow is what the definitions give, so two that are due are equal.
use Rattle.std.specs.Prelude.{ℕ, ◌≤◌, ◌<◌, ◌≡◌, false, List, ltb}
use Rattle.std.proofs.Math.Path.{refl, sym, ap}
use Rattle.std.proofs.Common.{◌∙◌, arith, lt-ltb, le-ltb}
use Rattle.std.proofs.Math.Bool.{true}
use Rattle.rules.specs.Workflow.{Workflow}
use Rattle.rules.specs.Cycle.{Leads, cyclic, lowest_in_cycle}
use Rattle.rules.specs.Ranks.{cheapest_total}
use Rattle.rules.specs.Rows.{Placed, row_of, spent, length_of}
use Rattle.rules.specs.Method.{Name, by_HBCS, by_cheapest, by_HEFT, method}
use Rattle.rules.specs.Placing.{place}
use Rattle.rules.specs.Answer.{Outcome, plan, refusal, refuse, too_late, placed_outcome, checked, later_checks, outcome_of, outcome_by}
use Rattle.laws.specs.Tests.{false_unless_true}
use Rattle.laws.specs.Folds.{sum_same}
use Rattle.laws.specs.Cycles.{cyclic_iff, lowest_in_cycle_lowest}
use Rattle.demands.specs.Ground.GoodWorkflow.{GoodWorkflow}
use Rattle.demands.specs.Demand2.StepsSettled.{steps_settled}
use Rattle.demands.specs.Demand2.Choices.{FitsBy}
use Rattle.demands.specs.Demand2.Cheapest.{costs_in_all, cheapest_at_most_any, cheapest_attained}
use Rattle.demands.specs.Demand2.WhatIsDue.{MethodsPlan, Placeable, KeepsTo, Due, seven, eight, nine, eleven, planned, methods_plan}

-- What a plan costs is what its choice of processors costs: so no less than the cheapest total.
pub costs_of_plan : {M : Name} {W : Workflow} {rows : List Placed} → MethodsPlan M W rows → costs_in_all W (λ i. (row_of rows i).processor) ≡ spent rows
costs_of_plan {W = W} p = sum_same W.tasks _ _ (λ i l. sym (p.rows_true i l).cost) ∙ sym p.cost_sum

pub costs_at_least : {M : Name} {W : Workflow} {rows : List Placed} → MethodsPlan M W rows → cheapest_total W ≤ spent rows
costs_at_least {W = W} {rows} p =
    omega (arith, cheapest_at_most_any W (λ i. (row_of rows i).processor) (λ i l. (p.rows_true i l).processor), costs_of_plan p)

module _ (W : Workflow) (good : GoodWorkflow W) where
  pub acyclic_settled : ((i : ℕ) → Leads W i i → ⊥) → cyclic W ≡ false
  acyclic_settled acyclic = false_unless_true (cyclic W) (λ cycle. let (i, l, back) = (cyclic_iff W good.to).0 cycle in acyclic i back)

  -- A plan within the budget shows that the cheapest total fits.
  fits_of : (M : Name) (rows : List Placed) → MethodsPlan M W rows → KeepsTo M W rows → FitsBy M W
  fits_of by_HBCS rows p keeps = omega (arith, costs_at_least p, keeps.0)
  fits_of by_cheapest rows p keeps = tt
  fits_of by_HEFT rows p keeps = tt

  -- There is one plan by each method.
  pub place_settled : (M : Name) → ((i : ℕ) → Leads W i i → ⊥) → FitsBy M W → (rows : List Placed) → MethodsPlan M W rows → place (method M) W W.tasks ≡ rows
  place_settled M acyclic fits rows p =
      let q = methods_plan W good M acyclic fits in
      steps_settled M W (place (method M) W W.tasks) rows q.steps p.steps (q.none_twice ∙ sym p.none_twice)

  kept_to : (M : Name) (rows : List Placed) → MethodsPlan M W rows → KeepsTo M W rows → later_checks M W rows ≡ plan W rows
  unfolding later_checks placed_outcome refuse
  kept_to by_HBCS rows p keeps = rw (le-ltb W.budget (cheapest_total W) (fits_of by_HBCS rows p keeps), keeps.1)
  kept_to by_cheapest rows p keeps = refl
  kept_to by_HEFT rows p keeps = refl

  too_dear_told : (rows : List Placed) → ltb W.budget (cheapest_total W) ≡ true → later_checks by_HBCS W rows ≡ refusal 9 (cheapest_total W)
  unfolding later_checks refuse
  too_dear_told rows above = rw above

  too_late_told :
      (rows : List Placed) → ltb W.budget (cheapest_total W) ≡ false → too_late W.deadline (length_of rows) ≡ true
      → later_checks by_HBCS W rows ≡ refusal 11 (length_of rows)
  unfolding later_checks placed_outcome refuse
  too_late_told rows within late = rw (within, late)

  module _ (lent : ℕ) where
    past_checks : (M : Name) → Placeable W lent → outcome_by M W lent ≡ later_checks M W (place (method M) W W.tasks)
    unfolding outcome_by outcome_of checked refuse
    past_checks M placeable = rw (le-ltb lent W.tasks placeable.enough_rows, acyclic_settled placeable.acyclic)

    pub due_is_outcome : {M : Name} {outcome : Outcome} → Due W lent M outcome → outcome ≡ outcome_by M W lent
    unfolding refuse outcome_by outcome_of checked
    due_is_outcome (seven few) = rw (lt-ltb lent W.tasks few)
    due_is_outcome (eight {i = i} enough lowest) =
        let cycle : cyclic W ≡ true = (cyclic_iff W good.to).1 (i, lowest.task, lowest.leads_back) in
        let k = lowest_in_cycle W in
        let given = lowest_in_cycle_lowest W good.to cycle in
        let same : i ≡ k = omega (arith, lowest.lowest k given.leads_back, given.lowest i lowest.leads_back) in
        rw (le-ltb lent W.tasks enough, cycle, same)
    due_is_outcome (nine {total = total} placeable dear) =
        let (on, each, costs) = dear.cheapest in
        let (on', each', costs') = cheapest_attained W good.processors in
        let above : W.budget < cheapest_total W = omega (arith, dear.above on' each') in
        let same : total ≡ cheapest_total W = omega (arith, dear.at_least on' each', cheapest_at_most_any W on each) in
        sym (past_checks by_HBCS placeable ∙ too_dear_told (place (method by_HBCS) W W.tasks) (lt-ltb W.budget (cheapest_total W) above) ∙ ap (refusal 9) (sym same))
    due_is_outcome (eleven {rows = rows} placeable p within late) =
        let fits : cheapest_total W ≤ W.budget = omega (arith, costs_at_least p) in
        sym
        (past_checks by_HBCS placeable
        ∙ ap (later_checks by_HBCS W) (place_settled by_HBCS placeable.acyclic fits rows p)
        ∙ too_late_told rows (le-ltb W.budget (cheapest_total W) fits) late)
    due_is_outcome (planned {M = M} {rows = rows} placeable p keeps) =
        sym
        (past_checks M placeable
        ∙ ap (later_checks M W) (place_settled M placeable.acyclic (fits_of M rows p keeps) rows p)
        ∙ kept_to M rows p keeps)

    pub due_settled : {M : Name} {outcome outcome' : Outcome} → Due W lent M outcome → Due W lent M outcome' → outcome ≡ outcome'
    due_settled due due' = due_is_outcome due ∙ sym (due_is_outcome due')
