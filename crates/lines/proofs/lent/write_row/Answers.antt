-- The line is no longer than the text's capacity.
use Rattle.std.proofs.Common.{arith, rules}
use Rattle.rules.specs.Rows.{Row}
use Rattle.rules.specs.Text.{row_line}
use Rattle.lines.specs.Longest.{row_at_most}
use Rattle.lines.proofs.lent.write_row.Goals as goal

pub line-requires : goal.line-requires
unfolding row_line
line-requires c =
    let a = c.args in
    let row : Row = record { processor = a.processor; start = a.start; finish = a.finish; cost = a.cost } in
    (search rules, rw c.new-text.ensures (omega (arith, row_at_most a.name.now row c.requires.short (omega arith) (omega arith) (omega arith) (omega arith))))
