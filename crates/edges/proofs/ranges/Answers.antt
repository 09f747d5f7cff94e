-- The check that fails is handed up.
use Rattle.std.proofs.Common.{rules, arith}
use Rattle.std.proofs.lemmas.Bool.Decides.{nat_tests}
use Rattle.rules.specs.Records.{edge_ranges}
use Rattle.records.proofs.Laws.{checked_first, checked_later}
use Rattle.edges.proofs.ranges.Goals as goal

pub returns-in_err-check : goal.returns-in_err-check
unfolding edge_ranges
returns-in_err-check c = search (rules, checked_first, c.in_err-check.ensures)

pub returns-in_err-check-2 : goal.returns-in_err-check-2
unfolding edge_ranges
returns-in_err-check-2 c =
    let (check, place) = c.in_err-check-2.ensures in
    checked_later _ _ _ _ c.in_ok-check.ensures
    (checked_first _ _ _ _ _ c.from_residual-in_err-check-2.ensures.1 (grind (arith, nat_tests, check)) place)
