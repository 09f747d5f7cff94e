-- Each part is read from where those before it end.
use Rattle.std.proofs.Common.{refl, sym}
use Rattle.parts.proofs.Laws.{none_reached, one_more_reached, refused_there, all_reached, part_refused}
use Rattle.parts.proofs.each.Goals as goal

pub loop-k-init : goal.loop-k-init
loop-k-init g c = λ due reads. none_reached

pub returns-in_err-next : goal.returns-in_err-next
returns-in_err-next g c = λ due reads.
    part_refused _ _ _ c.from_residual.ensures.1
    (refused_there (c.loop-k.invariant due reads) c.loop-k-test.true refl (sym (reads _ _ _ c.in_err-next.ensures)))

pub loop-k-preserved : goal.loop-k-preserved
loop-k-preserved g c = λ due reads.
    one_more_reached (c.loop-k.invariant due reads) c.loop-k-test.true refl (sym (reads _ _ _ c.in_ok-next.ensures))

pub returns : goal.returns
returns g c = λ due reads. all_reached (c.loop-k.invariant due reads) c.loop-k-test.false
