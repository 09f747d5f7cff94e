-- The kind byte says how long the record is, and whether a minimum stands there.
use Prim.Native.Nat.{◌+◌, ◌≤◌}
use lib.ListN.{length}
use borrow.Author.Tests.{eq-eqb, ne_eqb}
use Rattle.rules.specs.Fields.{kind_byte, body, size, byte, P_price, Q_minimum}
use Rattle.rules.specs.Workflow.{processor_kind, processor_minimum}
use Rattle.good.specs.Processors.{processor_size}
use native.Mathlib.Omega.{arith}
use Rattle.charges.proofs.charge_at.Goals as goal

pub field-price-requires : goal.field-price-requires
field-price-requires c = omega (arith, (let it : let a = c.args in a.at + 3 ≤ length a.s.now = omega (arith, c.requires, processor_size c.args.s.now c.args.at) in it))

pub bounds-s-at : goal.bounds-s-at
bounds-s-at c = omega (arith, (let it : let a = c.args in a.at + 3 ≤ length a.s.now = omega (arith, c.requires, processor_size c.args.s.now c.args.at) in it))

pub two_bytes-minimum-requires : goal.two_bytes-minimum-requires
unfolding processor_kind kind_byte byte size body
two_bytes-minimum-requires c =
    let inside = rw (eq-eqb _ _ c.if-s-at-eq81.true) at c.requires in
    omega (arith, inside)

pub returns-then-s-at-eq81 : goal.returns-then-s-at-eq81
unfolding processor_kind processor_minimum kind_byte byte P_price Q_minimum size body
returns-then-s-at-eq81 c =
    let is-Q = eq-eqb _ _ c.if-s-at-eq81.true in
    record { price_is = c.field-price.ensures.0; minimum_is = rw is-Q c.two_bytes-minimum.ensures.0; next_is = rw is-Q }

pub returns : goal.returns
unfolding processor_kind processor_minimum kind_byte byte P_price size body
returns c =
    let is-P = ne_eqb _ _ c.if-s-at-eq81.false in
    record { price_is = c.field-price.ensures.0; minimum_is = rw is-P; next_is = rw is-P }
