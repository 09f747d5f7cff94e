use Rattle.std.proofs.Common.{rules}
use Rattle.records.proofs.Laws.{checked_first}
use Rattle.records.proofs.Cursor.priced.Goals as goal

pub returns-in_err-check : goal.returns-in_err-check
returns-in_err-check c = search (rules, checked_first, c.in_err-check.ensures)
