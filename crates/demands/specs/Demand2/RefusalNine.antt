-- Refusal 9 comes exactly when 1 to 8 do not and every choice of processors costs more than the budget.
use Rattle.std.specs.Prelude.{ℕ, ◌<◌, ◌≡◌, refl, List, ◌↔◌}
use Rattle.std.proofs.Common.{arith}
use Rattle.rules.specs.Reading.{Request}
use Rattle.rules.specs.Workflow.{Workflow}
use Rattle.rules.specs.Method.{Name, by_HBCS}
use Rattle.rules.specs.Budget.{workflow_for}
use Rattle.rules.specs.Ranks.{cheapest_total}
use Rattle.rules.specs.Answer.{Outcome, refusal, refused, answer}
use Rattle.demands.specs.Ground.GoodWorkflow.{good_workflow}
use Rattle.demands.specs.Demand2.Cheapest.{Assignment, costs_in_all, cheapest_at_most_any, cheapest_attained}
use Rattle.demands.specs.Demand2.WhatIsDue.{Placeable, TooDear, Due, seven, eight, nine, eleven, planned}
use Rattle.demands.specs.Demand1.Stands.{PassesReading}
use Rattle.demands.specs.Demand1.Reading.{read_iff_passes}
use Rattle.demands.specs.Demand1.{passed_reading, refused_iff_answered, later_refusals_are_due}

-- The request passes reading (1 to 6), there are enough rows (7) and no cycle (8), and no choice of processors is within the budget.
pub record NoChoiceWithinBudget (s : List ℕ) (lent : ℕ) : Type 0 where
  pub r : Request
  pub passes : PassesReading s r
  pub placeable : Placeable (workflow_for by_HBCS s r) lent
  pub above : (on : ℕ → ℕ) → Assignment (workflow_for by_HBCS s r) on → (workflow_for by_HBCS s r).budget < costs_in_all (workflow_for by_HBCS s r) on

nine_due : {W : Workflow} {lent : ℕ} {M : Name} {o : Outcome} → Due W lent M o → (place : ℕ) → o ≡ refusal 9 place → Placeable W lent × TooDear W place
nine_due (seven few) place e = let z : ◌≡◌ {A = ℕ} 7 9 = cc in absurd (omega arith)
nine_due (eight enough lowest) place e = let z : ◌≡◌ {A = ℕ} 8 9 = cc in absurd (omega arith)
nine_due {W} (nine {total = total} placeable dear) place e = let same : total ≡ place = cc in (placeable, rw same at dear)
nine_due (eleven placeable p within late) place e = let z : ◌≡◌ {A = ℕ} 11 9 = cc in absurd (omega arith)
nine_due (planned placeable p keeps) place e = let z : ◌≡◌ {A = ℕ} 0 1 = cc in absurd (omega arith)

pub nine_iff_no_choice_within_budget :
    (s : List ℕ) (lent : ℕ) → ((place : ℕ) × (answer s lent ≡ refused 9 place)) ↔ NoChoiceWithinBudget s lent
nine_iff_no_choice_within_budget s lent = (comes, back)
  where
    comes : (place : ℕ) × (answer s lent ≡ refused 9 place) → NoChoiceWithinBudget s lent
    comes (place, e) =
        let (r, passes, due) = later_refusals_are_due by_HBCS s lent e (omega arith) in
        let (placeable, dear) = nine_due due place refl in
        record { r = r; passes = passes; placeable = placeable; above = dear.above }

    back : NoChoiceWithinBudget s lent → (place : ℕ) × (answer s lent ≡ refused 9 place)
    back none =
        let W = workflow_for by_HBCS s none.r in
        let dear : TooDear W (cheapest_total W) = record {
          above = none.above;
          at_least = cheapest_at_most_any W;
          cheapest = cheapest_attained W (good_workflow by_HBCS s ((read_iff_passes s none.r).1 none.passes).1).processors;
        } in
        (cheapest_total W, (refused_iff_answered by_HBCS s lent 9 (cheapest_total W)).1 (passed_reading none.passes (nine none.placeable dear)))
