-- After e edges the links are those of the first e.
use Prim.Native.Nat.{◌<◌}
use mathlib.Core.Path.{sym}
use Rattle.rules.specs.Workflow.{workflow}
use Rattle.lookup.specs.Views.{view_tasks, view_edges}
use Rattle.links.specs.LinksLaws.{linked_next, linked_all}
use native.Mathlib.Omega.{arith}
use Rattle.links.proofs.link_all.Goals as goal

pub loop-e-preserved : goal.loop-e-preserved
loop-e-preserved c =
    let loop = c.loop-e in
    let tasks = view_tasks c.args.r.now.bytes.now c.args.r.now.view c.args.r.now.good in
    let edges = view_edges c.args.r.now.bytes.now c.args.r.now.view c.args.r.now.good in
    let edge : loop.e < 512 = omega arith in
    let task : c.to-to.result < 64 = omega arith in
    linked_next _ loop.e loop.last loop.before loop.invariant edge c.to-to.result (sym c.to-to.ensures.0) task

pub returns : goal.returns
unfolding workflow
returns c = let loop = c.loop-e in
    linked_all _ loop.e loop.last loop.before (omega arith) loop.invariant
