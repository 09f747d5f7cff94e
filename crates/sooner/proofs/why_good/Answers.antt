-- By the cases of the answer; where it is a plan, the arrays hold its rows.
use Rattle.std.proofs.Common.{◌≤◌, ℕ, List, Ok, refl, sym, ◌∙◌, arith}
use Rattle.rules.specs.Workflow.{workflow}
use Rattle.rules.specs.Method.{by_HBCS}
use Rattle.rules.specs.Answer.{outcome_by}
use Rattle.choosing.specs.Named.{meant_method}
use Rattle.reader.specs.declared.View.{View}
use Rattle.reader.specs.Meaning.{ViewOf, meant_share}
use Rattle.lookup.specs.Lookup.{workflow_of}
use Rattle.demands.specs.Ground.GoodRequest.{outcome_of_good}
use Rattle.demands.specs.Demand2.WhatIsDue.{requests_get_their_due}
use Rattle.demands.specs.Demand2.WhyNot.{why_of_refused}
use Rattle.budgets.specs.declared.Rows.{Rows}
use Rattle.planner.specs.declared.Summary.{Summary}
use Rattle.planner.specs.Planned.{PlanOf, planned_in, workflow_by}
use Rattle.bounds.specs.AnswerBounds.{in_force_is_in_range}
use Rattle.reasons.specs.Meant.{meant_why}
use Rattle.sooner.specs.WhyOf.{RowsOf, plan_told}
use Rattle.sooner.proofs.why_good.Goals as goal

told : (s : List ℕ) (v : View) → ViewOf s v → {rows : Rows} {summary : Summary}
    → PlanOf (outcome_by by_HBCS (workflow_by by_HBCS s v) 64) (planned_in rows (Ok summary))
    → RowsOf (workflow_of s v) (outcome_by by_HBCS (workflow_by by_HBCS s v) 64) (planned_in rows (Ok summary))
told s v good planned =
    let due = rw (outcome_of_good by_HBCS s good 64) at (requests_get_their_due by_HBCS s good 64) in
    plan_told (meant_share v.share) (workflow_of s v) _ (in_force_is_in_range by_HBCS s good) due planned refl

pub returns-in-Err : goal.returns-in-Err
unfolding meant_method
returns-in-Err c = c.no_plan.ensures ∙ sym (why_of_refused _ (sym c.in-Err.ensures.answer_is) _ _)

pub returns-then-r-task : goal.returns-then-r-task
unfolding meant_why workflow meant_method
returns-then-r-task c =
    let a = c.args in
    let past : a.r.now.view.tasks ≤ a.task = omega (arith, c.if-r-task.true) in
    (told a.r.now.bytes.now a.r.now.view c.args.r.now.good c.in_default.ensures).past _ _ past

pub why_placed-requires-clause-task_lt_tasks : goal.why_placed-requires-clause-task_lt_tasks
unfolding workflow meant_method
why_placed-requires-clause-task_lt_tasks c =
    (c.if-r-task.false, (told c.args.r.now.bytes.now c.args.r.now.view c.args.r.now.good c.in_default.ensures).processor_in _ c.if-r-task.false)

pub why_placed-requires-clause-task_bound : goal.why_placed-requires-clause-task_bound
unfolding workflow meant_method
why_placed-requires-clause-task_bound c =
    let rows = told c.args.r.now.bytes.now c.args.r.now.view c.args.r.now.good c.in_default.ensures in
    (rows.start_in _ c.if-r-task.false, rows.finishes_in)

pub returns : goal.returns
unfolding workflow meant_method
returns c =
    let rows = told c.args.r.now.bytes.now c.args.r.now.view c.args.r.now.good c.in_default.ensures in
    rw (rows.reason c.args.task c.args.start c.if-r-task.false) at c.why_placed.ensures
