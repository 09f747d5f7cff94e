-- The answer's line, and then its rows: the text of the request, for which there is room.
use Rattle.std.proofs.Common.{◌≤◌, ◌++◌, List, ℕ, length, ap, ◌∙◌, append_assoc, length-append, arith, rules}
use Rattle.rules.specs.Workflow.{workflow}
use Rattle.rules.specs.Answer.{outcome_by}
use Rattle.laws.specs.InForce.{tasks_held}
use Rattle.choosing.specs.Named.{meant_method}
use Rattle.reader.specs.Meaning.{meant_share}
use Rattle.lookup.specs.Lookup.{workflow_of}
use Rattle.planner.specs.Planned.{meant_answer, rows_told, planned_in, workflow_by}
use Rattle.planner.specs.Reach.{outcome_by_within, told_due}
use Rattle.rules.specs.Text.{first_line, lines}
use Rattle.text.specs.TextParts.{planning_line, good_text, good_room}
use Rattle.text.proofs.put_plan.Goals as goal

pub put_first_line-requires : goal.put_first_line-requires
put_first_line-requires g c =
    let plan = c.plan_good-answer in
    let p = planned_in plan.new.rows plan.result in
    let room = good_room (meant_method c.args.method) c.args.r.now.bytes.now c.args.r.now.view p _ _ c.args.r.now.good plan.ensures c.requires in
    (search rules, omega arith)

pub put_rows-requires : goal.put_rows-requires
unfolding workflow
put_rows-requires g c =
    let M = meant_method c.args.method in
    let s = c.args.r.now.bytes.now in
    let v = c.args.r.now.view in
    let W = workflow_by M s v in
    let plan = c.plan_good-answer in
    let p = planned_in plan.new.rows plan.result in
    let room = good_room M s v p _ _ c.args.r.now.good plan.ensures c.requires in
    let told_is = told_due (outcome_by M W 64) plan.result plan.ensures.answer_is in
    let few : c.rows_of-n.result ≤ v.tasks =
    omega (arith, c.rows_of-n.ensures, told_is, outcome_by_within M W 64, tasks_held (meant_share v.share) (workflow_of s v) M) in
    let long = ap length c.put_first_line.ensures ∙ length-append c.args.text.now (first_line (meant_answer plan.result)) in
    (search rules, (few, rw c.rows_of-n.ensures (omega arith)))

pub returns : goal.returns
returns g c =
    let plan = c.plan_good-answer in
    let p = planned_in plan.new.rows plan.result in
    let rows = lines (rows_told plan.result) (planning_line c.args.r.now.bytes.now p) in
    let whole = good_text (meant_method c.args.method) c.args.r.now.bytes.now c.args.r.now.view p c.args.r.now.good plan.ensures in
    rw whole
    (rw c.rows_of-n.ensures at c.put_rows.ensures
    ∙ ap (λ (xs : List ℕ). xs ++ rows) c.put_first_line.ensures
    ∙ append_assoc c.args.text.now (first_line (meant_answer plan.result)) rows)
