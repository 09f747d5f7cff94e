-- The lowest so far is that of the numbers passed.
use mathlib.Core.Path.{◌≡◌}
use Rattle.rules.specs.Folds.{lowest}
use Rattle.laws.specs.Folds.{lowest_next}
use native.Mathlib.Omega.{arith}
use Rattle.costs.proofs.lowest_of.Goals as goal

pub loop-j-init : goal.loop-j-init
unfolding lowest
loop-j-init c = omega arith

pub loop-j-preserved : goal.loop-j-preserved
loop-j-preserved c = lowest_next c.loop-j.j _ c.loop-j.invariant c.min-low.ensures

pub returns : goal.returns
returns c =
    let loop = c.loop-j in
    let passed : loop.j ≡ c.args.m = omega arith in
    rw passed at loop.invariant
