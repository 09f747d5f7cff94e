-- The ranks known are right; a pass that adds none, while some are not known, has found a cycle.
use mathlib.Core.Path.{◌≡◌}
use Rattle.lookup.specs.Flow.{flow}
use Rattle.lookup.specs.Views.{view_in_range}
use Rattle.laws.specs.Turned.{turned_still, turned_less}
use Rattle.ranking.specs.RankedLaws.{ranked_all, ranked_not_all}
use native.Mathlib.Omega.{arith}
use Rattle.ranking.proofs.rank_all.Goals as goal

pub loop-left-init : goal.loop-left-init
loop-left-init c = c.requires.ranked_so_far

pub rank_pass-left-requires : goal.rank_pass-left-requires
rank_pass-left-requires c =
    let pre = c.requires in
    record { begins_from = pre.begins_from; ranked_so_far = c.loop-left.invariant }

pub returns-then-left-before : goal.returns-then-left-before
returns-then-left-before c =
    let a = c.args in
    let loop-test = c.loop-left-test in
    let if1 = c.if-left-before in
    let turned = c.rank_pass-left.ensures in
    ranked_not_all (flow a.r.now) (view_in_range a.r.now.bytes.now a.r.now.view c.args.r.now.good) _ _ turned.kept
    (omega (arith, if1.true, loop-test.true))
    (turned_still turned if1.true)

pub loop-left-smaller : goal.loop-left-smaller
loop-left-smaller c = turned_less c.rank_pass-left.ensures c.if-left-before.false

pub loop-left-preserved : goal.loop-left-preserved
loop-left-preserved c = c.rank_pass-left.ensures.kept

pub returns : goal.returns
returns c =
    let a = c.args in
    let loop = c.loop-left in
    let none : loop.left ≡ 0 = omega arith in
    ranked_all (flow a.r.now) (view_in_range a.r.now.bytes.now a.r.now.view c.args.r.now.good) loop.ranks (rw none at loop.invariant)
