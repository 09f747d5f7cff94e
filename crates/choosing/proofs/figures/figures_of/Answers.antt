-- The figures of the processors passed, one turn after the other by the laws of the folds.
use mathlib.Core.Path.{◌≡◌, refl}
use Rattle.choosing.specs.FiguredLaws.{figures_first, figures_next}
use native.Mathlib.Omega.{arith}
use Rattle.choosing.proofs.figures.figures_of.Goals as goal

pub loop-j-init : goal.loop-j-init
loop-j-init c = (c.requires.0, figures_first _ _ refl refl refl refl refl refl refl)

pub loop-j-preserved : goal.loop-j-preserved
loop-j-preserved c =
    let loop = c.loop-j in
    (omega arith, figures_next _ _ _ loop.invariant.1 c.passed-g.ensures)

pub returns : goal.returns
returns c =
    let a = c.args in
    let loop = c.loop-j in
    let passed : loop.j ≡ a.m = omega arith in
    rw passed at loop.invariant.1
