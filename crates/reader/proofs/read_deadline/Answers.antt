-- Where a `D` stands, the value that is read is the deadline.
use Rattle.std.proofs.Common.{rules}
use Rattle.rules.specs.Fields.{D_deadline}
use Rattle.rules.specs.Records.{read, deadline, deadline_at}
use Rattle.rules.specs.Reading.{then, optional, deadline_part}
use Rattle.reader.specs.Meaning.{meant_deadline}
use Rattle.reader.proofs.OptionalLaws.{deadline_found, value_read, meaning_of}
use Rattle.reader.proofs.read_deadline.Goals as goal

pub returns : goal.returns
unfolding deadline_part optional
returns c =
    let s = c.args.s.now in
    let at = c.args.c.at in
    meaning_of meant_deadline _ _ (deadline_at s at) at (D_deadline s at)
    (c.optional.ensures (then (deadline_at s at) (λ next _. read next (D_deadline s at)))
    (λ r answers. value_read deadline _ _ r (λ next x. deadline_found s at) (search rules)))
