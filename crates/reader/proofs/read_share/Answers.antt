-- Where a `K` stands, the value that is read is the share.
use Rattle.std.proofs.Common.{rules}
use Rattle.rules.specs.Fields.{K_share}
use Rattle.rules.specs.Records.{read, share, share_at}
use Rattle.rules.specs.Reading.{then, optional, share_part}
use Rattle.reader.specs.Meaning.{meant_share}
use Rattle.reader.proofs.OptionalLaws.{share_found, value_read, meaning_of}
use Rattle.reader.proofs.read_share.Goals as goal

pub returns : goal.returns
unfolding share_part optional
returns c =
    let s = c.args.s.now in
    let at = c.args.c.at in
    let budget = c.args.budget in
    meaning_of meant_share _ _ (share_at s budget at) at (K_share s at)
    (c.optional.ensures (then (share_at s budget at) (λ next _. read next (K_share s at)))
    (λ r answers. value_read share _ _ r (λ next x. share_found s budget at) (search rules)))
