-- Each call reads the task that is due.
use Rattle.std.proofs.Common.{rules}
use Rattle.rules.specs.Reading.{tasks_part, task_part}
use Rattle.parts.proofs.read_tasks.Goals as goal

pub returns : goal.returns
unfolding tasks_part
returns c = c.each.ensures (task_part c.args.s.now c.args.m) (λ next i r answers. search rules)
