-- By the cases of the reading: a refusal handed up, or the reason for a good request.
use Rattle.std.proofs.Common.{◌≡◌}
use Rattle.rules.specs.Method.{by_HBCS}
use Rattle.rules.specs.Why.{why_of, why_not}
use Rattle.demands.specs.Ground.GoodRequest.{outcome_of_good, outcome_of_stopped}
use Rattle.sooner.proofs.why_not.Goals as goal

pub returns-in-Ok : goal.returns-in-Ok
unfolding why_not
returns-in-Ok c =
    let same : c.in-Ok.r.bytes.now ≡ c.args.request.now = c.in-Ok.ensures in
    rw (← same, outcome_of_good by_HBCS _ c.in-Ok.r.good 64) c.why_good.ensures

pub returns-in-Err : goal.returns-in-Err
unfolding why_not why_of
returns-in-Err c = rw (outcome_of_stopped by_HBCS _ c.in-Err.ensures 64) c.no_plan.ensures
