-- A byte counts what it is above `0`, and 17 of them fit.
use Rattle.std.proofs.Common.{◌≡◌, refl, add-one, arith, get_or-take, length-take}
use Rattle.programs.specs.Spelled.{spelled, number_of, small_next, small_fits}
use Rattle.programs.proofs.number_of.Goals as goal

pub loop-b-init : goal.loop-b-init
unfolding spelled
loop-b-init c = (omega arith, refl)

pub overflow_mul-x : goal.overflow_mul-x
overflow_mul-x c =
    let loop = c.loop-b in
    let few = length-take c.min-n.result c.args.digits.now in
    record { fits = omega (arith, small_fits loop.b-index loop.x 0 loop.invariant.0 (omega arith) (omega arith)) }

pub overflow_add-x : goal.overflow_add-x
overflow_add-x c =
    let loop = c.loop-b in
    let few = length-take c.min-n.result c.args.digits.now in
    let same = get_or-take c.min-n.result c.args.digits.now loop.b-index 0 (omega arith) in
    record {
      fits = small_fits loop.b-index loop.x c.from.result loop.invariant.0 (omega (arith, (c.type_inv.digits loop.b-index).fits)) (omega arith);
    }

pub loop-b-preserved : goal.loop-b-preserved
unfolding spelled
loop-b-preserved c =
    let loop = c.loop-b in
    let few = length-take c.min-n.result c.args.digits.now in
    let same = get_or-take c.min-n.result c.args.digits.now loop.b-index 0 (omega arith) in (
      small_next loop.b-index loop.x c.from.result loop.invariant.0 (omega (arith, (c.type_inv.digits loop.b-index).fits)),
      rw (add-one loop.b-index, ← loop.invariant.1) (omega arith),
    )

pub returns : goal.returns
unfolding number_of
returns c =
    let loop = c.loop-b in
    let all : loop.b-index ≡ c.min-n.result = omega (arith, length-take c.min-n.result c.args.digits.now) in
    rw (← c.min-n.ensures, ← all) loop.invariant.1
