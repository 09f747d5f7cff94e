-- The first by the order of the pairs of figures is the rules'.
use Rattle.std.proofs.Common.{rules, ◌∙◌}
use Rattle.laws.specs.Stores.{at}
use Rattle.numbers.proofs.Pairs.{pairs_in_order}
use Rattle.choosing.proofs.lowest_by.Goals as goal

pub returns : goal.returns
returns c = c.first_by.ensures.settled _ (λ i j l m t k. (search rules) ∙ pairs_in_order (at c.args.by.now) (at c.args.then.now) i j)
