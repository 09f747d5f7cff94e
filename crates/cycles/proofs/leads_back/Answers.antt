-- What is marked is led to; once a pass marks nothing more, all that is led to is marked.
use mathlib.Core.Path.{◌≡◌}
use Rattle.rules.specs.Workflow.{workflow}
use Rattle.lookup.specs.Flow.{flow}
use Rattle.lookup.specs.Views.{view_in_range}
use Rattle.laws.specs.Turned.{turned_still, turned_less}
use Rattle.cycles.specs.MarkedLaws.{marked_none, start_marked, all_marked}
use native.Mathlib.Omega.{arith}
use Rattle.cycles.proofs.leads_back.Goals as goal

pub loop-left-init : goal.loop-left-init
unfolding workflow
loop-left-init c =
    let pre = c.requires in
    let a = c.args in
    marked_none (flow a.r.now) (view_in_range a.r.now.bytes.now a.r.now.view c.args.r.now.good) a.start

pub returns-then-left-before : goal.returns-then-left-before
unfolding workflow
returns-then-left-before c =
    let pre = c.requires in
    let a = c.args in
    let mark-pass = c.mark_pass-left in
    let if1 = c.if-left-before in
    let W = flow a.r.now in
    let range = view_in_range a.r.now.bytes.now a.r.now.view c.args.r.now.good in
    let turned = mark-pass.ensures in
    start_marked W range a.start _ (turned_still turned if1.true) _ turned.kept

pub loop-left-smaller : goal.loop-left-smaller
loop-left-smaller c = turned_less c.mark_pass-left.ensures c.if-left-before.false

pub loop-left-preserved : goal.loop-left-preserved
loop-left-preserved c = c.mark_pass-left.ensures.kept

pub returns : goal.returns
unfolding workflow
returns c =
    let pre = c.requires in
    let a = c.args in
    let loop = c.loop-left in
    let W = flow a.r.now in
    let range = view_in_range a.r.now.bytes.now a.r.now.view c.args.r.now.good in
    let none : loop.left ≡ 0 = omega arith in
    all_marked W range a.start loop.marks pre (rw none at loop.invariant)
