-- What is kept of the processors gives the starts that the windows do, so that all tasks are placed as beside these.
use native.Mathlib.Omega.{arith}
use Rattle.rules.specs.Reading.{no_deadline}
use Rattle.rules.specs.Workflow.{workflow}
use Rattle.choosing.specs.Named.{meant_method}
use Rattle.lookup.specs.Views.{view_in_range}
use Rattle.placing.specs.Begins.{placed_as}
use Rattle.budgets.specs.Ready.{outset_fits}
use Rattle.budgets.proofs.place_all.Goals as goal

pub place-requires-clause-in_order : goal.place-requires-clause-in_order
unfolding workflow
place-requires-clause-in_order c =
    let (in_order, few, ended) = outset_fits c.args.r.now.bytes.now c.args.r.now.view c.requires.prepared.good c.busy_at_first-outset.ensures.1 in
    (in_order, few, ended, omega arith, c.requires.budget_le_budget_most)

pub returns : goal.returns
unfolding workflow
returns c =
    let range = view_in_range c.args.r.now.bytes.now c.args.r.now.view c.requires.prepared.good in
    placed_as range c.busy_at_first-outset.ensures.1 (meant_method c.args.method) c.args.budget no_deadline c.place.ensures
