-- The walk has come to the record of processor j, and the arrays hold what the processors passed charge.
use mathlib.Core.Path.{◌≡◌, refl, sym, ◌∙◌, ap}
use Prim.Native.Nat.{ℕ, ◌+◌, ◌<◌}
use native.Mathlib.Numerals.{add-one}
use Rattle.rules.specs.Fields.{size, P_price}
use Rattle.rules.specs.Workflow.{processor_kind, processor_minimum, past_processors, processor_place, workflow}
use Rattle.laws.specs.FilledLaws.{filled_none, filled_more}
use Rattle.good.specs.ReadIsGood.{read_is_good}
use Rattle.good.specs.Inside.{processor_inside, price_there, minimum_there}
use Rattle.reader.specs.Meaning.{meant_view}
use Rattle.lookup.specs.Views.{view_processors}
use native.Mathlib.Omega.{arith}
use Rattle.charges.proofs.charges_of.Goals as goal

pub loop-j-init : goal.loop-j-init
unfolding processor_place past_processors
loop-j-init c = (refl, filled_none _, filled_none _)

pub charge_at-charge-requires : goal.charge_at-charge-requires
charge_at-charge-requires c =
    let loop = c.loop-j in
    rw loop.invariant.0 (processor_inside c.args.r.now.bytes.now (meant_view c.args.r.now.view) (read_is_good _ c.args.r.now.good) loop.j (omega arith))

pub loop-j-preserved : goal.loop-j-preserved
unfolding processor_place past_processors
loop-j-preserved c =
    let a = c.args in
    let s = a.r.now.bytes.now in
    let loop = c.loop-j in
    let (here, prices, minimums) = loop.invariant in
    let charge = c.charge_at-charge.ensures in
    let due : loop.j < a.r.now.view.processors = omega arith in
    let room : loop.j < 16 = omega (arith, view_processors s a.r.now.view c.args.r.now.good) in
    let price = charge.price_is ∙ ap (P_price s) here ∙ sym (price_there s (meant_view a.r.now.view) loop.j due) in
    let minimum = charge.minimum_is ∙ ap (processor_minimum s) here ∙ sym (minimum_there s (meant_view a.r.now.view) loop.j due) in (
      rw add-one (charge.next_is ∙ ap (λ (at : ℕ). at + size (processor_kind s at)) here),
      filled_more prices room price,
      filled_more minimums room minimum,
    )

pub returns : goal.returns
unfolding workflow
returns c =
    let loop = c.loop-j in
    let passed : loop.j ≡ c.args.r.now.view.processors = omega arith in
    record { prices_are = rw passed at loop.invariant.1; minimums_are = rw passed at loop.invariant.2 }
