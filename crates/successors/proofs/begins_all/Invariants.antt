use Rattle.lookup.specs.Flow.{flow}
use Rattle.successors.specs.Begins.{Begins, BeginsFrom}
use Rattle.successors.proofs.begins_all.Given as goal

abbrev pub invariant-loop-task : goal.invariant-loop-task
invariant-loop-task l = Begins (flow l.r) l.task l.end × BeginsFrom (flow l.r) l.task l.begins
