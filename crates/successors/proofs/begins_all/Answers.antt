-- On the way back from the last task, each edge found is where the next task's edges begin.
use Prim.Native.Nat.{◌+◌, ◌-◌}
use mathlib.Core.Path.{◌≡◌, refl}
use lib.ListN.{replicate}
use Rattle.rules.specs.Workflow.{workflow}
use Rattle.laws.specs.Stores.{repeated}
use Rattle.lookup.specs.Flow.{flow}
use Rattle.lookup.specs.Views.{view_in_range, view_tasks, view_edges}
use Rattle.successors.specs.Begins.{begins_at_end, begins_from}
use native.Mathlib.Omega.{arith}
use Rattle.successors.proofs.begins_all.Goals as goal

pub loop-task-init : goal.loop-task-init
unfolding workflow
loop-task-init c =
    let a = c.args in
    let W = flow a.r.now in
    let at_end = begins_at_end W (view_in_range a.r.now.bytes.now a.r.now.view c.args.r.now.good) in
    let room = view_tasks a.r.now.bytes.now a.r.now.view c.args.r.now.good in
    (at_end, begins_from W a.r.now.view.tasks a.r.now.view.edges (replicate 65 0) refl (omega arith) (omega arith) (λ t l. repeated 65 0 t) at_end (λ later l below. absurd (omega arith)))

pub begin_of-end-requires : goal.begin_of-end-requires
begin_of-end-requires c =
    let loop = c.loop-task in
    let again : loop.task - 1 + 1 ≡ loop.task = omega arith in
    rw again loop.invariant.0

pub overflow_cast-begins-in-loop-task : goal.overflow_cast-begins-in-loop-task
unfolding workflow
overflow_cast-begins-in-loop-task c =
    omega (arith, c.begin_of-end.ensures.within, view_edges c.args.r.now.bytes.now c.args.r.now.view c.args.r.now.good)

pub loop-task-preserved : goal.loop-task-preserved
unfolding workflow
loop-task-preserved c =
    let a = c.args in
    let loop = c.loop-task in
    let so_far = loop.invariant.1 in
    let here = c.begin_of-end.ensures in
    let room = view_tasks a.r.now.bytes.now a.r.now.view c.args.r.now.good in
    (here, begins_from (flow a.r.now) (loop.task - 1) _ loop.begins so_far.size (omega arith) (omega arith) so_far.past here (λ later l below. so_far.begin later (omega arith) below))

pub returns : goal.returns
returns c =
    let loop = c.loop-task in
    let none : loop.task ≡ 0 = omega arith in
    rw none at loop.invariant.1
