-- The leader of the processors passed is the first of them in the rules' order, so the last leader is the choice.
use mathlib.Core.Path.{◌≡◌, refl, ◌∙◌}
use Rattle.choosing.specs.Asked.{asked}
use Rattle.choosing.specs.FiguredLaws.{figures_in_range, standing_is}
use Rattle.choosing.specs.LeadingLaws.{leads_first, leads_next, leads_all}
use native.Mathlib.Omega.{arith}
use Rattle.choosing.proofs.within_budget.Goals as goal

pub weights_of-w-requires : goal.weights_of-w-requires
weights_of-w-requires c = figures_in_range _ _ c.figures_of-g.ensures c.requires

pub loop-j-init : goal.loop-j-init
loop-j-init c = (omega arith, leads_first _ _ refl refl refl)

pub standing-requires : goal.standing-requires
standing-requires c =
    let figures-of = c.figures_of-g in
    let pre = c.requires in record { figures_in_range = figures_in_range _ _ figures-of.ensures pre; weighed = c.weights_of-w.ensures; cost_le_cost_most = pre.costs _ c.loop-j-test.true }

pub loop-j-preserved : goal.loop-j-preserved
loop-j-preserved c =
    let loop = c.loop-j in
    let figures-of = c.figures_of-g in
    let stands = c.standing.ensures ∙ standing_is _ _ figures-of.ensures loop.j in
    (omega arith, leads_next _ _ _ loop.invariant.1 stands c.led-leader.ensures)

pub returns : goal.returns
returns c =
    let a = c.args in
    let loop = c.loop-j in
    let question = asked a.m a.costs.now a.finishes.now a.rb a.rcb in
    let passed : loop.j ≡ a.m = omega arith in
    leads_all question loop.leader (rw passed at loop.invariant.1)
