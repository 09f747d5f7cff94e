use Prim.Native.Nat.{◌≤◌, ◌-◌}
use mathlib.Core.Path.{◌≡◌}
use Rattle.lookup.specs.Flow.{flow}
use Rattle.successors.specs.Held.{counted_down}
use Rattle.successors.proofs.release.Given as goal

abbrev pub invariant-loop-e : goal.invariant-loop-e
invariant-loop-e l = (l.e - l.begin ≤ l.end - l.begin) × (l.held ≡ counted_down (flow l.r) l.begin l.initial.held (l.e - l.begin))
