-- Each call reads the minutes on the processor that is due.
use Rattle.std.proofs.Common.{◌∙◌, rules}
use Rattle.rules.specs.Reading.{then}
use Rattle.rules.specs.Records.{minutes_at}
use Rattle.parts.specs.Meaning.{past}
use Rattle.parts.proofs.Laws.{each_past}
use Rattle.parts.proofs.read_row.Goals as goal

pub returns : goal.returns
unfolding then
returns c =
    c.each.ensures (λ at j. past (minutes_at c.args.s.now at c.args.task j)) (λ next j r answers. search rules)
    ∙ each_past (λ at j. minutes_at c.args.s.now at c.args.task j) c.args.c.at c.args.m
