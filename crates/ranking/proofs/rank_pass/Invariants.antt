use Rattle.lookup.specs.Flow.{flow}
use Rattle.laws.specs.Turned.{Turned}
use Rattle.ranking.specs.Ranked.{RankedSoFar, AllHeldUp}
use Rattle.ranking.proofs.rank_pass.Given as goal

abbrev pub invariant-loop-task : goal.invariant-loop-task
invariant-loop-task l =
    Turned (RankedSoFar (flow l.r)) (AllHeldUp (flow l.r) l.task) l.initial.ranks l.ranks l.left l.now_left
