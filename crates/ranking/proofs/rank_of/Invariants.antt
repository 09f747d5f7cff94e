use Rattle.lookup.specs.Flow.{flow}
use Rattle.ranking.specs.Passed.{Passed}
use Rattle.ranking.proofs.rank_of.Given as goal

abbrev pub invariant-loop-e : goal.invariant-loop-e
invariant-loop-e l = Passed (flow l.r) l.ranks l.task l.begin l.end l.e l.most
