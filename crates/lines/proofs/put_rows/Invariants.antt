use Rattle.std.proofs.Common.{◌≡◌, ◌≤◌, ◌++◌}
use Rattle.rules.specs.Text.{lines}
use Rattle.lines.specs.Lines.{column_line}
use Rattle.lines.proofs.put_rows.Given as goal

abbrev pub invariant-loop-i : goal.invariant-loop-i
invariant-loop-i g l =
    (l.n ≤ 64) × (l.text ≡ l.fn.text ++ lines l.i (column_line l.r.bytes.now l.rows.processors l.rows.starts l.rows.finishes l.rows.costs))
