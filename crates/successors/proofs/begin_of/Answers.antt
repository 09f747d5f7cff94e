-- All edges passed on the way back are of this task or of later ones.
use mathlib.Core.Path.{◌≡◌, refl}
use Prim.Native.Nat.{◌+◌, ◌-◌, ◌≤◌, ◌<◌}
use Rattle.rules.specs.Workflow.{workflow}
use Rattle.lookup.specs.Flow.{flow}
use Rattle.lookup.specs.Views.{view_in_range}
use Rattle.successors.specs.Begins.{begins_after, begins_at_start, onward_from}
use native.Mathlib.Omega.{arith}
use Rattle.successors.proofs.begin_of.Goals as goal

pub loop-before-init : goal.loop-before-init
unfolding workflow
loop-before-init c = λ e l below. omega (arith, c.requires.onward e l below)

pub from-requires : goal.from-requires
unfolding workflow
from-requires c = omega (arith, c.requires.within)

pub returns-then-from-task : goal.returns-then-from-task
unfolding workflow
returns-then-from-task c =
    let a = c.args in
    let before = c.loop-before.before in
    let W = flow a.r.now in
    let range = view_in_range a.r.now.bytes.now a.r.now.view c.args.r.now.good in
    let again : before - 1 + 1 ≡ before = omega arith in
    let within : before - 1 + 1 ≤ a.r.now.view.edges = omega (arith, c.requires.within) in
    let earlier : W.from (before - 1) < a.task = omega (arith, c.from.ensures.0, c.if-from-task.true) in
    begins_after W range a.task (before - 1) _ refl within earlier (rw again c.loop-before.invariant)

pub loop-before-preserved : goal.loop-before-preserved
unfolding workflow
loop-before-preserved c =
    let a = c.args in
    let before = c.loop-before.before in
    let W = flow a.r.now in
    let range = view_in_range a.r.now.bytes.now a.r.now.view c.args.r.now.good in
    let not_earlier : a.task ≤ W.from (before - 1) = omega (arith, c.from.ensures.0, c.if-from-task.false) in
    onward_from W range a.task (before - 1) before (omega arith) not_earlier c.loop-before.invariant

pub returns : goal.returns
unfolding workflow
returns c =
    let a = c.args in
    let loop = c.loop-before in
    let W = flow a.r.now in
    let range = view_in_range a.r.now.bytes.now a.r.now.view c.args.r.now.good in
    let start : loop.before ≡ 0 = omega arith in
    begins_at_start W range a.task (rw start at loop.invariant)
