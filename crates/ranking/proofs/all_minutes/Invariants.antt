use mathlib.Core.Path.{◌≡◌}
use Prim.Native.Nat.{◌*◌, ◌≤◌}
use Rattle.rules.specs.Folds.{sum}
use Rattle.lookup.specs.Flow.{flow}
use Rattle.ranking.proofs.all_minutes.Given as goal

abbrev pub invariant-loop-j : goal.invariant-loop-j
invariant-loop-j l =
    (l.minutes ≡ sum l.j ((flow l.r).minutes l.task)) × (l.minutes ≤ 2_000 * l.j)
