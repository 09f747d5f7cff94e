-- Of the array in which the task is marked, each edge passed has counted down the task that it leads to.
use Prim.Native.Nat.{◌+◌, ◌-◌}
use mathlib.Core.Path.{◌≡◌, refl}
use Rattle.rules.specs.Workflow.{workflow}
use Rattle.successors.specs.Held.{counted_down, released}
use Rattle.successors.proofs.HeldLaws.{counted_down_next}
use native.Mathlib.Omega.{arith}
use Rattle.successors.proofs.release.Goals as goal

pub loop-e-init : goal.loop-e-init
unfolding counted_down
loop-e-init c =
    let begin = c.from-begin.result in
    let none : begin - begin ≡ 0 = omega arith in
    (omega arith, rw none refl)

pub to-to-requires : goal.to-to-requires
unfolding workflow
to-to-requires c =
    let ends = c.requires.begins_from.begin (c.args.task + 1) (omega arith) (omega (arith, c.requires.task_lt_tasks)) in
    omega (arith, ends.within)

pub loop-e-preserved : goal.loop-e-preserved
loop-e-preserved c =
    let loop = c.loop-e in
    let less = c.saturating_sub in
    (omega arith, counted_down_next _ _ _ loop.e c.to-to.result less.result loop.held (omega arith) loop.invariant.1 c.to-to.ensures.0 less.ensures)

pub returns : goal.returns
unfolding released
returns c =
    let loop = c.loop-e in
    let begin = c.from-begin.result in
    let all : loop.e - begin ≡ c.from-end.result - begin = omega arith in
    rw (← c.from-begin.ensures, ← c.from-end.ensures, ← all) loop.invariant.1
