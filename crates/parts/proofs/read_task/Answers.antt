-- The task is refused, or its minutes answer.
use Rattle.std.proofs.Common.{refl}
use Rattle.rules.specs.Reading.{task_part, then}
use Rattle.parts.proofs.Laws.{part_refused}
use Rattle.parts.proofs.read_task.Goals as goal

pub returns-in_err-after : goal.returns-in_err-after
unfolding task_part then
returns-in_err-after c = part_refused _ _ _ c.from_residual.ensures.1 (rw (← c.in_err-after.ensures) refl)

pub returns : goal.returns
unfolding task_part then
returns c = rw (← c.in_ok-after.ensures) c.read_row.ensures
