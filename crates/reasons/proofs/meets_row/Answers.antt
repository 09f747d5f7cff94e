-- By the three tests.
use borrow.Author.Tests.{eq-eqb, ne_eqb}
use Rattle.rules.specs.Why.{meets_row}
use Rattle.reasons.proofs.meets_row.Goals as goal

pub returns-then-other-task : goal.returns-then-other-task
unfolding meets_row
returns-then-other-task c = rw (eq-eqb _ _ c.if-other-task.true)

pub returns-then-sits-other : goal.returns-then-sits-other
unfolding meets_row
returns-then-sits-other c = rw (ne_eqb _ _ c.if-other-task.false, ne_eqb _ _ c.if-sits-other.true)

pub returns : goal.returns
unfolding meets_row
returns c =
    rw (ne_eqb _ _ c.if-other-task.false, eq-eqb _ _ c.if-sits-other.false) c.overlaps.ensures
