-- Each record of the kind is read from where those before it end, up to one of another kind or the limit.
use Rattle.std.proofs.Common.{refl, sym}
use Rattle.parts.proofs.Laws.{past_read, past_stopped}
use Rattle.records.proofs.Laws.{handed_up}
use Rattle.parts.proofs.RunLaws.{none_run, ended, one_more_run, run_refused, full}
use Rattle.parts.proofs.run.Goals as goal

pub loop-k-init : goal.loop-k-init
loop-k-init g c = λ due reads steps. none_run

pub returns-then-not-stands : goal.returns-then-not-stands
returns-then-not-stands g c = λ due reads steps. ended (c.loop-k.invariant due reads steps) c.loop-k-test.true (sym c.if-not-stands.ensures)

pub returns-in_err-next : goal.returns-in_err-next
returns-in_err-next g c = λ due reads steps.
    handed_up _ _ _ c.from_residual.ensures.1
    (run_refused (c.loop-k.invariant due reads steps) c.loop-k-test.true (sym c.if-not-stands.ensures) refl (past_stopped _ (reads _ _ _ c.in_err-next.ensures)))

pub loop-k-preserved : goal.loop-k-preserved
loop-k-preserved g c = λ due reads steps.
    one_more_run (c.loop-k.invariant due reads steps) c.loop-k-test.true (sym c.if-not-stands.ensures) refl steps (past_read _ (reads _ _ _ c.in_ok-next.ensures)).1

pub returns : goal.returns
returns g c = λ due reads steps. full (c.loop-k.invariant due reads steps) c.loop-k-test.false
