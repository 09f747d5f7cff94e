-- The plans that the code makes: a refusal with no row, and the plan of a placing that is in time.
use Rattle.std.specs.Prelude.{ℕ, ◌-◌, ◌≤◌, ◌≡◌, refl, false, [], Ok, Err}
use Rattle.std.proofs.Math.Path.{ap, subst}
use Rattle.std.proofs.Common.{◌∙◌}
use native.Mathlib.Omega.{arith}
use Rattle.rules.specs.Reading.{Deadline, no_deadline, Share}
use Rattle.rules.specs.Workflow.{Workflow}
use Rattle.rules.specs.Rows.{spent, length_of}
use Rattle.rules.specs.Method.{Name, by_HBCS}
use Rattle.rules.specs.Budget.{in_force, unbound, budget_of, held_to}
use Rattle.rules.specs.Answer.{refusal, refuse, too_late, placed_outcome, planned, answer_of}
use Rattle.laws.specs.Begun.{begun, place_begun}
use Rattle.laws.specs.Method.{method_chooses_among}
use Rattle.placing.specs.declared.Placing.{Placing}
use Rattle.placing.specs.Placed.{all_rows}
use Rattle.refusals.specs.declared.Refusal.{Refusal}
use Rattle.refusals.specs.Numbers.{number}
use Rattle.budgets.specs.declared.Rows.{Rows}
use Rattle.budgets.specs.Prepared.{RowsAre, PlacedWith}
use Rattle.planner.specs.Planned.{rows_in, PlanOf, planned_in, plan_alone}

-- The placing looks at no deadline.
deadline_aside :
    (W : Workflow) → 1 ≤ W.processors → (M : Name) (budget : ℕ) (d d' : Deadline) → all_rows M (in_force budget d W) ≡ all_rows M (in_force budget d' W)
unfolding in_force begun
deadline_aside W some M budget d d' =
    place_begun (method_chooses_among M) W some budget W.clock d d' W.busy_at_first W.busy_at_first (λ j l ready minutes. refl) W.tasks

module _ {r : Rows} where
  pub refused_plan :
      RowsAre [] r → (e : Refusal) → PlanOf (refusal (number e.fault) e.place) (planned_in r (Err e))
  unfolding rows_in answer_of
  refused_plan none e = record { answer_is = refl; columns = none }

  pub plan_in_time :
      {W : Workflow} {p : Placing} → PlacedWith by_HBCS W r p → too_late W.deadline p.length ≡ false
      → PlanOf (placed_outcome W (all_rows by_HBCS W)) (planned_in r (Ok (record { n = W.tasks; length = p.length; cost = p.cost; left = p.left })))
  unfolding placed_outcome refuse rows_in answer_of
  plan_in_time placed in_time =
      rw (← placed.length_is, in_time)
      (record { answer_is = rw (placed.length_is, placed.cost_is, placed.left_is); columns = placed.columns })

  -- Of no budget nothing is left.
  pub alone_plan :
      (M : Name) (W : Workflow) {p : Placing} → PlacedWith M (unbound W) r p
      → PlanOf (plan_alone M W) (planned_in r (Ok (record { n = W.tasks; length = p.length; cost = p.cost; left = 0 })))
  unfolding plan_alone rows_in answer_of unbound in_force
  alone_plan M W placed =
      let spent_all = spent (all_rows M (unbound W)) in
      let none : 0 ≡ 0 - spent_all = omega arith in
      record { answer_is = rw (placed.length_is, placed.cost_is) (ap (planned W.tasks (length_of (all_rows M (unbound W))) spent_all) none); columns = placed.columns }

  placed_by :
      (W : Workflow) → 1 ≤ W.processors → (M : Name) (budget : ℕ) (d d' : Deadline) {p : Placing}
      → PlacedWith M (in_force budget d W) r p → PlacedWith M (in_force budget d' W) r p
  unfolding in_force
  placed_by W some M budget d d' placed =
      let same = deadline_aside W some M budget d d' in
      record {
        length_is = placed.length_is ∙ ap length_of same;
        cost_is = placed.cost_is ∙ ap spent same;
        left_is = placed.left_is ∙ ap (λ rows. budget - spent rows) same;
        columns = subst (λ rows. RowsAre rows r) same placed.columns;
      }

  -- So within the budget in force it is that of the workflow with what is in force.
  pub placed_held :
      (share : Share) (W : Workflow) → 1 ≤ W.processors → {budget : ℕ} {p : Placing} → budget ≡ budget_of share W
      → PlacedWith by_HBCS (in_force budget no_deadline W) r p
      → PlacedWith by_HBCS (held_to by_HBCS share W) r p
  unfolding held_to
  placed_held share W some {budget} {p} is placed =
      subst (λ b. PlacedWith by_HBCS (in_force b W.deadline W) r p) is
      (placed_by W some by_HBCS budget no_deadline W.deadline placed)
