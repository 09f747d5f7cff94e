-- The array holds the costs on the processors passed.
use Prim.Native.Nat.{◌*◌, ◌<◌, max}
use mathlib.Core.Path.{◌≡◌, ap₂, ◌∙◌}
use native.Mathlib.Nat.{mul-le-mul}
use Rattle.rules.specs.Workflow.{workflow}
use Rattle.rules.specs.Ranks.{cost}
use Rattle.lookup.specs.Views.{view_in_range, view_processors}
use Rattle.laws.specs.FilledLaws.{filled_none, filled_more, filled_at_most}
use native.Mathlib.Omega.{arith}
use Rattle.costs.proofs.cost_on_all.Goals as goal

pub loop-j-init : goal.loop-j-init
loop-j-init c = filled_none _

pub overflow_mul-minutes : goal.overflow_mul-minutes
overflow_mul-minutes c =
    let range = view_in_range c.args.r.now.bytes.now c.args.r.now.view c.args.r.now.good in
    let price = filled_at_most c.requires.charges_of.prices_are 100 range.price_in c.loop-j.j in
    omega (arith, mul-le-mul c.minutes.ensures.1 price)

pub loop-j-preserved : goal.loop-j-preserved
unfolding workflow cost
loop-j-preserved c =
    let loop = c.loop-j in
    let charges = c.requires.charges_of in
    let due : loop.j < c.args.r.now.view.processors = omega arith in
    let room : loop.j < 16 = omega (arith, view_processors c.args.r.now.bytes.now c.args.r.now.view c.args.r.now.good) in
    let here = c.max.ensures ∙ ap₂ max (charges.minimums_are.below loop.j due) (ap₂ ◌*◌ c.minutes.ensures.0 (charges.prices_are.below loop.j due)) in
    filled_more loop.invariant room here

pub returns : goal.returns
returns c =
    let loop = c.loop-j in
    let passed : loop.j ≡ c.args.r.now.view.processors = omega arith in
    rw passed at loop.invariant
