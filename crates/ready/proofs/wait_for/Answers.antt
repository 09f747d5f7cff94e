-- The minutes of the processors passed are moved, and the others are as they were.
use Prim.Native.Nat.{max}
use mathlib.Core.Path.{◌≡◌, ap, ◌∙◌}
use borrow.Author.Tests.{eq-eqb, ne_eqb}
use Rattle.std.specs.Prelude.{cond, eqb}
use Rattle.laws.specs.Stores.{at}
use Rattle.ready.specs.ReadyLaws.{waited_none, waited_more}
use native.Mathlib.Omega.{arith}
use Rattle.ready.proofs.wait_for.Goals as goal
use Rattle.ready.proofs.wait_for.Goals.{then-on-j, else-on-j}

pub loop-j-init : goal.loop-j-init
loop-j-init c = waited_none

pub loop-j-preserved : goal.loop-j-preserved
loop-j-preserved c =
    let a = c.args in
    let loop = c.loop-j in
    let arrival : c.if-on-j.arrival ≡ cond (eqb a.on loop.j) a.here a.across =
    elim c.if-on-j.branch [ then-on-j w ↦ rw (eq-eqb _ _ w.if-on-j.true) w.arrival-is | else-on-j w ↦ rw (ne_eqb _ _ w.if-on-j.false) w.arrival-is ] in
    waited_more loop.invariant (omega (arith, c.requires.1)) (c.max.ensures ∙ ap (max (at loop.ready loop.j)) arrival)

pub returns : goal.returns
returns c =
    let loop = c.loop-j in
    let passed : loop.j ≡ c.args.m = omega arith in
    rw passed at loop.invariant
