-- Where the kind stands, what is read is the answer.
use Rattle.std.proofs.Common.{refl}
use Rattle.rules.specs.Reading.{then}
use Rattle.records.proofs.Laws.{handed_up}
use Rattle.reader.proofs.optional.Goals as goal

pub returns-in_err-given : goal.returns-in_err-given
unfolding then
returns-in_err-given g c = λ due reads.
    handed_up _ _ _ c.from_residual.ensures.1 (rw (← c.if-not-stands.ensures, ← reads _ c.in_err-given.ensures) refl)

pub returns : goal.returns
unfolding then
returns g c = λ due reads. rw (← c.if-not-stands.ensures, ← reads _ c.in_ok-given.ensures) refl
