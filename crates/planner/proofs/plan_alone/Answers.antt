-- All tasks are placed without a budget, and the plan is that.
use Rattle.rules.specs.Workflow.{workflow}
use Rattle.rules.specs.Budget.{unbound}
use Rattle.choosing.specs.Named.{meant_method}
use Rattle.lookup.specs.Flow.{flow}
use Rattle.planner.specs.Plans.{alone_plan}
use Rattle.planner.proofs.plan_alone.Goals as goal

pub returns : goal.returns
unfolding workflow unbound
returns c = alone_plan (meant_method c.args.method) (flow c.args.r.now) c.place_all-q.ensures
