-- After e edges the array counts the first e.
use Prim.Native.Nat.{◌<◌}
use mathlib.Core.Path.{sym}
use Rattle.rules.specs.Workflow.{workflow}
use Rattle.lookup.specs.Views.{view_tasks, view_edges}
use Rattle.successors.specs.Counted.{counted_none, counted_most, counted_next}
use Rattle.successors.proofs.HeldLaws.{held_at_first}
use native.Mathlib.Omega.{arith}
use Rattle.successors.proofs.count_all.Goals as goal

pub loop-e-init : goal.loop-e-init
loop-e-init c = rw c.requires (counted_none _)

pub overflow_add-held : goal.overflow_add-held
unfolding workflow
overflow_add-held c =
    let loop = c.loop-e in
    omega (arith, counted_most _ loop.e loop.held loop.invariant c.to-to.result, view_edges c.args.r.now.bytes.now c.args.r.now.view c.args.r.now.good)

pub loop-e-preserved : goal.loop-e-preserved
loop-e-preserved c =
    let loop = c.loop-e in
    let task : c.to-to.result < 64 = omega (arith, view_tasks c.args.r.now.bytes.now c.args.r.now.view c.args.r.now.good) in
    counted_next _ loop.e loop.held loop.invariant c.to-to.result (sym c.to-to.ensures.0) task

pub returns : goal.returns
unfolding workflow
returns c = let loop = c.loop-e in
    held_at_first _ loop.e loop.held (omega arith) loop.invariant
