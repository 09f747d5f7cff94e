-- By the three tests.
use borrow.Author.Tests.{eq-eqb, ne_eqb, lt-ltb, le-ltb}
use Rattle.rules.specs.Why.{earlier}
use Rattle.reasons.specs.MetLaws.{met_with}
use Rattle.reasons.proofs.with_window.Goals as goal

pub returns-then-window-processor : goal.returns-then-window-processor
unfolding met_with
returns-then-window-processor c = rw (ne_eqb _ _ c.if-window-processor.true)

pub returns-then-not-overlaps : goal.returns-then-not-overlaps
unfolding met_with
returns-then-not-overlaps c = rw (eq-eqb _ _ c.if-window-processor.false, ← c.overlaps.ensures, c.if-not-overlaps.true)

pub returns-in-Some : goal.returns-in-Some
unfolding met_with earlier
returns-in-Some c =
    rw (eq-eqb _ _ c.if-window-processor.false, ← c.overlaps.ensures, c.if-not-overlaps.false, c.in-Some.is, le-ltb _ _ c.if-met-down.true)

pub returns-in_default : goal.returns-in_default
unfolding met_with earlier
returns-in_default c =
    rw (eq-eqb _ _ c.if-window-processor.false, ← c.overlaps.ensures, c.if-not-overlaps.false, c.in-Some.is, lt-ltb _ _ c.if-met-down.false)

pub returns-in_default-2 : goal.returns-in_default-2
unfolding met_with earlier
returns-in_default-2 c =
    rw (eq-eqb _ _ c.if-window-processor.false, ← c.overlaps.ensures, c.if-not-overlaps.false, c.in_default.is)
