-- The arrival of the edge from the task that it leads from, where it leads to the task.
use Rattle.std.proofs.Common.{eq-eqb, ne_eqb, add-zero}
use Rattle.rules.specs.Start.{arrival}
use Rattle.reasons.proofs.awaited.Goals as goal

pub returns-then-sits-from : goal.returns-then-sits-from
unfolding arrival
returns-then-sits-from c = rw (← c.to.ensures.0, eq-eqb _ _ c.if-to-task.false, ← c.from-from.ensures.0, eq-eqb _ _ c.if-sits-from.true, add-zero)

pub returns : goal.returns
unfolding arrival
returns c = rw (← c.to.ensures.0, eq-eqb _ _ c.if-to-task.false, ← c.from-from.ensures.0, ne_eqb _ _ c.if-sits-from.false, ← c.transfer.ensures.0)
