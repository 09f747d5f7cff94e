use mathlib.Core.Path.{◌≡◌}
use mathlib.Core.Bool.{false}
use Prim.Native.Nat.{ℕ, ◌<◌}
use Rattle.rules.specs.Why.{meets_row}
use Rattle.laws.specs.Stores.{at}
use Rattle.reasons.proofs.row_met.Given as goal

abbrev pub invariant-loop-k : goal.invariant-loop-k
invariant-loop-k l = (j : ℕ) → j < l.k → meets_row (at l.sits) (at l.begins) (at l.ends) l.minutes l.task l.start j ≡ false
