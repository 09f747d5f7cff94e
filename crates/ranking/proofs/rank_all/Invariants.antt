use Rattle.lookup.specs.Flow.{flow}
use Rattle.ranking.specs.Ranked.{RankedSoFar}
use Rattle.ranking.proofs.rank_all.Given as goal

abbrev pub invariant-loop-left : goal.invariant-loop-left
invariant-loop-left l = RankedSoFar (flow l.r) l.ranks l.left

abbrev pub decreases-loop-left : goal.decreases-loop-left
decreases-loop-left l = l.left
