use Rattle.lookup.specs.Flow.{flow}
use Rattle.links.specs.Links.{Linked}
use Rattle.links.proofs.link_all.Given as goal

abbrev pub invariant-loop-e : goal.invariant-loop-e
invariant-loop-e l = Linked (flow l.r) l.e l.last l.before
