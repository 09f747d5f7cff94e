-- By what the score and the test ensure.
use Rattle.choosing.specs.Figured.{standing_by}
use Rattle.choosing.proofs.figures.standing.Goals as goal

pub returns-then-may_be_taken : goal.returns-then-may_be_taken
unfolding standing_by
returns-then-may_be_taken c = rw (← c.may_be_taken.ensures, c.if-may_be_taken.true, c.score-above.ensures.0)

pub returns-else-may_be_taken : goal.returns-else-may_be_taken
unfolding standing_by
returns-else-may_be_taken c = rw (← c.may_be_taken.ensures, c.if-may_be_taken.false)
