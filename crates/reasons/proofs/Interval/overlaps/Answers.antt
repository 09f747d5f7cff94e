-- By the larger begin and the lower end.
use Rattle.rules.specs.Start.{overlap}
use Rattle.reasons.proofs.Interval.overlaps.Goals as goal

pub returns : goal.returns
unfolding overlap
returns c = rw (← c.max.ensures, ← c.min.ensures)
