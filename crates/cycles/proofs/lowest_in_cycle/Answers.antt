-- None of the tasks passed has a path back to itself, and one of all has.
use Rattle.std.proofs.Common.{sym, ◌∙◌, arith}
use Rattle.rules.specs.Workflow.{workflow}
use Rattle.lookup.specs.Views.{view_in_range}
use Rattle.cycles.specs.MarkedLaws.{first_is_lowest, some_before_last}
use Rattle.cycles.proofs.lowest_in_cycle.Goals as goal

pub returns-then-leads_back : goal.returns-then-leads_back
returns-then-leads_back c =
    let range = view_in_range c.args.r.now.bytes.now c.args.r.now.view c.args.r.now.good in
    first_is_lowest _ range c.requires c.loop-task.task c.loop-task.invariant
    (sym c.if-leads_back.true ∙ c.leads_back.ensures)

pub unreachable-requires : goal.unreachable-requires
unfolding workflow
unreachable-requires c =
    let range = view_in_range c.args.r.now.bytes.now c.args.r.now.view c.args.r.now.good in
    omega (arith, some_before_last _ range c.requires c.loop-task.task c.loop-task.invariant)
