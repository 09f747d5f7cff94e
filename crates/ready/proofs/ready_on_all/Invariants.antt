use Prim.Native.Nat.{◌≤◌, ◌<◌, ◌-◌}
use mathlib.Core.Path.{◌≡◌}
use Rattle.lookup.specs.Flow.{flow}
use Rattle.laws.specs.Stores.{at}
use Rattle.ready.specs.ReadyLaws.{ReadyFrom}
use Rattle.ready.proofs.ready_on_all.Given as goal

abbrev pub invariant-loop-next : goal.invariant-loop-next
invariant-loop-next l =
    let W = flow l.r in
    (l.next ≤ l.r.view.edges) × (0 < l.next → W.to (l.next - 1) ≡ l.task) × ReadyFrom W (at l.sits) (at l.ends) l.task l.clock l.r.view.processors l.next l.all

abbrev pub decreases-loop-next : goal.decreases-loop-next
decreases-loop-next l = l.next
