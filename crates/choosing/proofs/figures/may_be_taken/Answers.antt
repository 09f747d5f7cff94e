-- The first test fails, or the second decides.
use Rattle.std.proofs.Common.{le-leb}
use Rattle.std.proofs.lemmas.Bool.{lt-leb}
use Rattle.choosing.specs.Figured.{may_by}
use Rattle.choosing.proofs.figures.may_be_taken.Goals as goal

pub returns-then-cost-g : goal.returns-then-cost-g
unfolding may_by
returns-then-cost-g c = rw (le-leb c.args.cost c.args.g.best c.if-cost-g.true) c.affordable.ensures

pub returns-else-cost-g : goal.returns-else-cost-g
unfolding may_by
returns-else-cost-g c = rw (lt-leb c.args.cost c.args.g.best c.if-cost-g.false)
