-- The line is no longer than the text's capacity.
use Rattle.std.proofs.Common.{arith, rules}
use Rattle.lines.specs.Longest.{planned_at_most}
use Rattle.lines.proofs.lent.write_summary.Goals as goal

pub put_first_line-requires : goal.put_first_line-requires
put_first_line-requires c =
    let a = c.args in (
      search rules,
      rw c.new-text.ensures
          (omega (arith, planned_at_most a.n a.length a.cost a.left (omega arith) (omega arith) (omega arith) (omega arith))),
    )
