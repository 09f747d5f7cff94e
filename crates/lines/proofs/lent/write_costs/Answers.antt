-- The line is no longer than the text's capacity.
use Rattle.std.proofs.Common.{arith, rules}
use Rattle.lines.specs.Longest.{between_at_most}
use Rattle.lines.proofs.lent.write_costs.Goals as goal

pub put_range_line-requires : goal.put_range_line-requires
put_range_line-requires c =
    (search rules, rw c.new-text.ensures (omega (arith, between_at_most c.args.cheapest c.args.heft (omega arith) (omega arith))))
