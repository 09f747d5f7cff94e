-- Where the windows do not rise, that refusal is handed up.
use Rattle.std.proofs.Common.{arith}
use Rattle.rules.specs.Fields.{size, body}
use Rattle.rules.specs.Records.{follows, above}
use Rattle.records.proofs.Laws.{checked_first}
use Rattle.windows.proofs.order.Goals as goal

pub returns-in_err-rises : goal.returns-in_err-rises
unfolding follows above size body
returns-in_err-rises c =
    let (check, place) = c.in_err-rises.ensures in
    checked_first _ _ _ _ _ c.from_residual.ensures.1 (grind (arith, check, c.window_at-before.ensures, c.window_at-window.ensures, c.saturating_sub.ensures)) place
