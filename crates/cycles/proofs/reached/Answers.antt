-- By the two tests.
use borrow.Author.Tests.{eq-eqb, ne_eqb}
use Rattle.cycles.proofs.reached.Goals as goal

pub returns-then-task-start : goal.returns-then-task-start
returns-then-task-start c = rw (eq-eqb _ _ c.if-task-start.true)

pub returns-else-task-start : goal.returns-else-task-start
returns-else-task-start c = rw (ne_eqb _ _ c.if-task-start.false)
