use mathlib.Core.Path.{◌≡◌}
use Rattle.rules.specs.Workflow.{windows_on}
use Rattle.reader.specs.Meaning.{meant_view}
use Rattle.busy.specs.Kept.{Keeps}
use Rattle.downtime.specs.Windows.{kept_windows}
use Rattle.downtime.proofs.busy_at_first.Given as goal

abbrev pub invariant-loop-e : goal.invariant-loop-e
invariant-loop-e l =
    let r = meant_view l.r.view in
    Keeps (windows_on l.r.bytes.now r l.e) l.e l.busy × (l.busy ≡ kept_windows l.r.bytes.now r l.e)
