use Prim.Native.Nat.{ℕ, ◌+◌, ◌≤◌, ◌<◌, ◌-◌}
use lib.ListN.{get_or}
use Rattle.label.specs.Label.{Listed}
use Rattle.label.proofs.run.Given as goal

abbrev pub invariant-loop-k : goal.invariant-loop-k
invariant-loop-k l = (l.k ≤ 8) × ((j : ℕ) → j < l.k → Listed (get_or l.s (l.at + j) 0))

abbrev pub decreases-loop-k : goal.decreases-loop-k
decreases-loop-k l = 8 - l.k
