-- Fewer are left, or nothing has changed and all edges passed are followed.
use mathlib.Core.Path.{◌≡◌}
use Rattle.lookup.specs.Flow.{flow}
use Rattle.lookup.specs.Views.{view_in_range}
use Rattle.laws.specs.Turned.{turned_none, turned_next}
use Rattle.cycles.specs.MarkedLaws.{followed_more}
use native.Mathlib.Omega.{arith}
use Rattle.cycles.proofs.mark_pass.Goals as goal

pub loop-e-init : goal.loop-e-init
loop-e-init c = turned_none c.requires (λ e l. absurd (omega arith))

pub mark_end-now_left-requires : goal.mark_end-now_left-requires
mark_end-now_left-requires c =
    let pre = c.requires in
    let loop = c.loop-e in
    (omega arith, loop.invariant.kept)

pub loop-e-preserved : goal.loop-e-preserved
loop-e-preserved c =
    let pre = c.requires in
    let a = c.args in
    let loop = c.loop-e in
    let mark-end = c.mark_end-now_left in
    let W = flow a.r.now in
    let range = view_in_range a.r.now.bytes.now a.r.now.view c.args.r.now.good in
    turned_next (followed_more W range a.start loop.e) loop.invariant mark-end.ensures

pub returns : goal.returns
returns c =
    let a = c.args in
    let loop = c.loop-e in
    let passed : loop.e ≡ a.r.now.view.edges = omega arith in
    rw passed at loop.invariant
