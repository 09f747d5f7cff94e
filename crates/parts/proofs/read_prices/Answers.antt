use Rattle.std.proofs.Common.{◌∙◌, rules}
use Rattle.rules.specs.Reading.{prices_part, then}
use Rattle.rules.specs.Records.{processor_at}
use Rattle.parts.specs.Meaning.{past}
use Rattle.parts.proofs.Laws.{each_past}
use Rattle.parts.proofs.read_prices.Goals as goal

pub returns : goal.returns
unfolding prices_part then
returns c =
    c.each.ensures (λ at j. past (processor_at c.args.s.now at j)) (λ next j r answers. search rules)
    ∙ each_past (processor_at c.args.s.now) c.args.c.at c.args.m
