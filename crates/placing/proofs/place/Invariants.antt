use Prim.Native.Nat.{ℕ, ◌≤◌}
use mathlib.Core.List.{List}
use Rattle.rules.specs.Method.{method}
use Rattle.rules.specs.Placing.{place}
use Rattle.lookup.specs.Flow.{flow}
use Rattle.choosing.specs.Named.{meant_method}
use Rattle.busy.specs.declared.Processors.{Processors}
use Rattle.placing.specs.State.{State}
use Rattle.placing.specs.Kept.{Kept}
use Rattle.placing.specs.Begins.{handed}
use Rattle.placing.proofs.Turn.{SetUp}
use Rattle.placing.proofs.place.Given as goal

-- The locals of a turn.
abbrev pub kept_in : (sits starts ends costs held : List ℕ) → Processors → (rb spent rcb length : ℕ) → State
kept_in sits starts ends costs held busy rb spent rcb length =
    record {
      sits = sits;
      starts = starts;
      ends = ends;
      costs = costs;
      held = held;
      processors = busy;
      rb = rb;
      spent = spent;
      rcb = rcb;
      length = length;
    }

abbrev pub invariant-loop-k : goal.invariant-loop-k
invariant-loop-k l =
    let W = handed l.budget l.fn.outset l.clock (flow l.r) in
    (l.r.view.tasks ≤ 64) × SetUp W l.ranks l.edges_at
    × Kept W (place (method (meant_method l.method)) W l.k) l.k (kept_in l.sits l.starts l.ends l.costs l.held l.busy l.rb l.spent l.rcb l.length)
