-- A refusal in reading is handed up; or the plan of a good request.
use Rattle.std.proofs.Common.{◌≡◌}
use Rattle.rules.specs.Answer.{outcome_asked, outcome_read}
use Rattle.planner.specs.Plans.{refused_plan}
use Rattle.asked.proofs.plan_columns.Goals as goal

pub returns-in-Ok : goal.returns-in-Ok
unfolding outcome_asked outcome_read
returns-in-Ok c =
    let same : c.in-Ok.r.bytes.now ≡ c.args.request.now = c.in-Ok.ensures in
    rw (← same, c.in-Ok.r.good) c.plan_good.ensures

pub returns-in-Err : goal.returns-in-Err
unfolding outcome_asked outcome_read
returns-in-Err c = rw c.in-Err.ensures (refused_plan c.requires _)
