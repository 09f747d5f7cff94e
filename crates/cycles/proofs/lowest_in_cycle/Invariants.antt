use mathlib.Core.Path.{◌≡◌}
use Prim.Native.Nat.{ℕ, ◌<◌}
use mathlib.Core.Bool.{true}
use Rattle.rules.specs.Cycle.{back_to_itself}
use Rattle.lookup.specs.Flow.{flow}
use Rattle.cycles.proofs.lowest_in_cycle.Given as goal

abbrev pub invariant-loop-task : goal.invariant-loop-task
invariant-loop-task l =
    (k : ℕ) → k < l.task → back_to_itself (flow l.r) k ≡ true → ⊥
