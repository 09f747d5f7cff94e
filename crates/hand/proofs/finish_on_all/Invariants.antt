use Rattle.std.specs.Prelude.{◌≤◌}
use Rattle.lookup.specs.Flow.{flow}
use Rattle.laws.specs.Stores.{at}
use Rattle.laws.specs.Filled.{Filled}
use Rattle.busy.specs.Kept.{kept_by}
use Rattle.hand.specs.Hand.{finish_by}
use Rattle.hand.proofs.finish_on_all.Given as goal

abbrev pub invariant-loop-j : goal.invariant-loop-j
invariant-loop-j l = (l.r.view.processors ≤ 16) × Filled l.j (finish_by (flow l.r) (at l.ready) (kept_by l.busy) l.task) l.all
