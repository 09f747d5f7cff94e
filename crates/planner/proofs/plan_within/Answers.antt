-- Refusal 9 for a cheapest total above the budget in force. Else all tasks are placed within it: refusal 11 for a length above the deadline, and no task has a row
-- again; or the plan.
use mathlib.Core.Path.{◌≡◌, sym, ◌∙◌}
use native.Mathlib.Omega.{arith}
use Rattle.rules.specs.Workflow.{workflow}
use Rattle.rules.specs.Ranks.{cost, lowest_cost, cheapest_total}
use Rattle.rules.specs.Method.{by_HBCS}
use Rattle.rules.specs.Budget.{in_force, held_to}
use Rattle.choosing.specs.Named.{meant_method}
use Rattle.reader.specs.Meaning.{meant_share}
use Rattle.lookup.specs.Flow.{flow}
use Rattle.lookup.specs.Views.{view_in_range}
use Rattle.placing.specs.Placed.{all_rows}
use Rattle.planner.specs.Checks.{too_dear, within_budget, after_deadline}
use Rattle.planner.specs.Planned.{workflow_by}
use Rattle.planner.specs.Plans.{refused_plan, plan_in_time, placed_held}
use Rattle.planner.proofs.plan_within.Goals as goal

pub returns-then-in_force-cheapest : goal.returns-then-in_force-cheapest
unfolding workflow held_to in_force cheapest_total lowest_cost cost
returns-then-in_force-cheapest c =
    let bound = workflow_by by_HBCS c.args.r.now.bytes.now c.args.r.now.view in
    let budget : c.budget_of-in_force.result ≡ bound.budget = c.budget_of-in_force.ensures.0 in
    let cheapest : c.args.prepared.now.cheapest ≡ cheapest_total bound = c.requires.prepared.cheapest_is in
    rw (too_dear bound (omega arith), ← cheapest) (refused_plan c.budget_of-in_force.ensures.2 _)

pub returns-then-too_late : goal.returns-then-too_late
unfolding workflow held_to in_force cheapest_total lowest_cost cost meant_method
returns-then-too_late c =
    let bound = workflow_by by_HBCS c.args.r.now.bytes.now c.args.r.now.view in
    let budget : c.budget_of-in_force.result ≡ bound.budget = c.budget_of-in_force.ensures.0 in
    let cheapest : c.args.prepared.now.cheapest ≡ cheapest_total bound = c.requires.prepared.cheapest_is in
    let some = (view_in_range c.args.r.now.bytes.now c.args.r.now.view c.requires.prepared.good).processors_in.from_low in
    let late = sym c.too_late.ensures ∙ c.if-too_late.true in
    let held = placed_held (meant_share c.args.r.now.view.share) (flow c.args.r.now) some c.budget_of-in_force.ensures.0 c.place_all-p.ensures in
    rw (within_budget bound (omega arith), after_deadline bound (all_rows by_HBCS bound) held.length_is late) (refused_plan c.none.ensures _)

pub returns : goal.returns
unfolding workflow held_to in_force cheapest_total lowest_cost cost meant_method
returns c =
    let bound = workflow_by by_HBCS c.args.r.now.bytes.now c.args.r.now.view in
    let budget : c.budget_of-in_force.result ≡ bound.budget = c.budget_of-in_force.ensures.0 in
    let cheapest : c.args.prepared.now.cheapest ≡ cheapest_total bound = c.requires.prepared.cheapest_is in
    let some = (view_in_range c.args.r.now.bytes.now c.args.r.now.view c.requires.prepared.good).processors_in.from_low in
    let held = placed_held (meant_share c.args.r.now.view.share) (flow c.args.r.now) some c.budget_of-in_force.ensures.0 c.place_all-p.ensures in
    rw (within_budget bound (omega arith)) (plan_in_time held (sym c.too_late.ensures ∙ c.if-too_late.false))
