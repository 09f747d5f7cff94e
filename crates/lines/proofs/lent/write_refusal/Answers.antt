-- The line is no longer than the text's capacity.
use Rattle.std.proofs.Common.{arith, rules}
use Rattle.lines.specs.Longest.{refused_at_most}
use Rattle.lines.proofs.lent.write_refusal.Goals as goal

pub put_refusal-requires : goal.put_refusal-requires
put_refusal-requires c =
    (search rules, rw c.new-text.ensures (omega (arith, refused_at_most c.args.number c.args.place (omega arith) (omega arith))))
