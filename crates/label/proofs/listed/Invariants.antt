use mathlib.Core.Path.{◌≡◌}
use Prim.Native.Nat.{ℕ, ◌≤◌, ◌<◌, ◌-◌}
use mathlib.Core.Bool.{Bool, true, false}
use lib.ListN.{get_or}
use Rattle.label.specs.Label.{the_list, Listed}
use Rattle.label.proofs.listed.Given as goal

-- t tells whether b is one of the first i bytes of the list.
pub record Told (b i : ℕ) (t : Bool) : Type 0 where
  pub within : i ≤ 64
  pub passes : t ≡ true → Listed b
  pub fails : t ≡ false → (k : ℕ) → k < i → get_or the_list k 0 ≡ b → ⊥

abbrev pub invariant-loop-i : goal.invariant-loop-i
invariant-loop-i l = Told l.b l.i l.found

abbrev pub decreases-loop-i : goal.decreases-loop-i
decreases-loop-i l = 64 - l.i
