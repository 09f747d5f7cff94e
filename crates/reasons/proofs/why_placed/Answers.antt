-- By what is found of data, windows and rows, each where what comes before it does not stand in the way.
use Rattle.std.proofs.Common.{◌≤◌, arith}
use Rattle.rules.specs.Workflow.{workflow}
use Rattle.laws.specs.Bounds.{finish_most}
use Rattle.laws.specs.Stores.{at}
use Rattle.lookup.specs.Views.{view_tasks}
use Rattle.reasons.specs.Meant.{meant_why}
use Rattle.reasons.specs.ArrivalLaws.{arrives_by_an_edge}
use Rattle.reasons.specs.WhyLaws.{not_sooner, by_data, by_window, by_row}
use Rattle.reasons.proofs.why_placed.Goals as goal

pub returns-then-own-start : goal.returns-then-own-start
unfolding meant_why
returns-then-own-start c =
    let a = c.args in
    let own : at a.starts.now a.task ≤ a.start = omega (arith, c.if-own-start.true) in
    not_sooner _ _ _ _ _ _ own

pub from-requires : goal.from-requires
unfolding workflow
from-requires c =
    let last = c.last_to_arrive-last.ensures in
    arrives_by_an_edge _ _ _ _ _ last.0 last.1 c.if-start-last.true

pub returns-then-start-last : goal.returns-then-start-last
unfolding meant_why
returns-then-start-last c =
    let last = c.last_to_arrive-last.ensures in
    by_data _ _ _ _ _ _ c.if-own-start.false last.1 last.0 c.from.ensures.0 c.if-start-last.true

pub returns-in-Some : goal.returns-in-Some
unfolding meant_why
returns-in-Some c =
    let last = c.last_to_arrive-last.ensures in
    by_window _ _ _ _ _ _ c.if-own-start.false last.1 c.if-start-last.false c.minutes-minutes.ensures.0
    (rw c.in-Some.is at c.window_met-met.ensures)

pub row_met-row-requires : goal.row_met-row-requires
row_met-row-requires c =
    let few = view_tasks c.args.r.now.bytes.now c.args.r.now.view c.args.r.now.good in
    let soon : c.args.start ≤ finish_most = omega (arith, c.requires.task_bound.0, c.if-own-start.false) in
    (omega (arith, c.requires.task_lt_tasks.0), omega (arith, c.requires.task_lt_tasks.0), soon, c.minutes-minutes.ensures.1)

pub returns : goal.returns
unfolding meant_why workflow
returns c =
    let last = c.last_to_arrive-last.ensures in
    by_row _ _ _ _ _ _ c.if-own-start.false last.1 c.if-start-last.false c.minutes-minutes.ensures.0
    (rw c.in_default.is at c.window_met-met.ensures) c.row_met-row.ensures.0
