use mathlib.Core.Path.{◌≡◌}
use Rattle.rules.specs.Workflow.{windows_on}
use Rattle.rules.specs.Why.{earliest_met}
use Rattle.reader.specs.Meaning.{meant_view}
use Rattle.reasons.specs.Meant.{meant_met}
use Rattle.reasons.proofs.window_met.Given as goal

abbrev pub invariant-loop-w : goal.invariant-loop-w
invariant-loop-w l = (meant_met l.met ≡ earliest_met (windows_on l.r.bytes.now (meant_view l.r.view) l.w l.processor) l.minutes l.start)
