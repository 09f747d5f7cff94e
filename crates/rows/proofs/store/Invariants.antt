-- After i turns the front of the lent rows is written over by the first i rows of the answer.
use Rattle.std.proofs.Common.{◌≡◌}
use Rattle.laws.specs.Overwritten.{overwritten}
use Rattle.rows.specs.Planned.{row_at}
use Rattle.rows.proofs.store.Given as goal

abbrev pub invariant-loop-i : goal.invariant-loop-i
invariant-loop-i l = l.row-items ≡ overwritten l.i (row_at l.columns) l.initial.row-items
