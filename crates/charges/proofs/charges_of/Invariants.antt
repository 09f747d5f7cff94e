use mathlib.Core.Path.{◌≡◌}
use Rattle.rules.specs.Workflow.{processor_place}
use Rattle.laws.specs.Filled.{Filled}
use Rattle.reader.specs.Meaning.{meant_view}
use Rattle.lookup.specs.Flow.{flow}
use Rattle.charges.proofs.charges_of.Given as goal

abbrev pub invariant-loop-j : goal.invariant-loop-j
invariant-loop-j l =
    (l.at ≡ processor_place l.r.bytes.now (meant_view l.r.view) l.j) × Filled l.j (flow l.r).price l.prices ×
    Filled l.j (flow l.r).minimum l.minimums
