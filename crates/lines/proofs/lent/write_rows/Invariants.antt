-- After i turns the lines of the first i tasks are written.
use Rattle.std.proofs.Common.{◌≤◌}
use Rattle.rules.specs.Text.{lines}
use Rattle.lines.specs.Lines.{column_line}
use Rattle.decimals.specs.Wrote.{Wrote}
use Rattle.lines.proofs.lent.write_rows.Given as goal

abbrev pub invariant-loop-i : goal.invariant-loop-i
invariant-loop-i l =
    (l.n ≤ 64) × Wrote l.fn.out l.at (lines l.i (column_line l.r.bytes.now l.rows.processors l.rows.starts l.rows.finishes l.rows.costs)) l.out l.end
