use Prim.Native.Nat.{ℕ, ◌≤◌, ◌<◌}
use Rattle.lookup.specs.Flow.{flow}
use Rattle.successors.proofs.begin_of.Given as goal

abbrev pub invariant-loop-before : goal.invariant-loop-before
invariant-loop-before l = (e : ℕ) → l.before ≤ e → e < l.r.view.edges → l.task ≤ (flow l.r).from e
