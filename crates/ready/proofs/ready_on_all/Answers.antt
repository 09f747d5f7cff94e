-- The array holds when data is ready as far as the edges from `next` on say; the edge before `next` is the last of the others that leads to the task.
use Prim.Native.Nat.{◌+◌, ◌-◌}
use mathlib.Core.Path.{◌≡◌}
use Rattle.rules.specs.Workflow.{workflow}
use Rattle.lookup.specs.Views.{view_processors}
use Rattle.ready.specs.ReadyLaws.{ready_from_end, ready_from_last, ready_from_more, ready_from_start}
use native.Mathlib.Omega.{arith}
use Rattle.ready.proofs.ready_on_all.Goals as goal

pub loop-next-init : goal.loop-next-init
unfolding workflow
loop-next-init c =
    let a = c.args in
    let last = c.requires.1.last_into a.task in
    let room = view_processors a.r.now.bytes.now a.r.now.view c.args.r.now.good in (
      omega (arith, last.within),
      λ some. last.leads _ (omega arith),
      rw c.from-next.ensures (ready_from_last _ _ _ _ _ last (ready_from_end _ _ _ _ _ _ room)),
    )

pub overflow_add-here : goal.overflow_add-here
overflow_add-here c = omega (arith, c.requires.2 c.from-from.result, c.transfer.ensures.1)

pub loop-next-smaller : goal.loop-next-smaller
unfolding workflow
loop-next-smaller c =
    let e = c.loop-next.next - 1 in
    omega (arith, (c.requires.1.before_into e (omega arith)).within)

pub loop-next-preserved : goal.loop-next-preserved
unfolding workflow
loop-next-preserved c =
    let loop = c.loop-next in
    let e = loop.next - 1 in
    let place : e + 1 ≡ loop.next = omega arith in
    let leads = loop.invariant.1 (omega arith) in
    let last = rw leads at (c.requires.1.before_into e (omega arith)) in (
      omega (arith, last.within),
      λ some. last.leads _ (omega arith),
      rw c.from-next-in-loop-next.ensures
          (ready_from_last _ _ _ _ _ last
          (ready_from_more _ _ _ _ _ leads c.from-from.ensures.0 c.transfer.ensures.0 (rw place loop.invariant.2) c.wait_for.ensures)),
    )

pub returns : goal.returns
returns c = ready_from_start _ _ _ _ _ (omega arith) c.loop-next.invariant.2
