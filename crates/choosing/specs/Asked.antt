-- The method's question as two arrays put it.
use Rattle.std.specs.Prelude.{ℕ, ◌≤◌, ◌<◌, List, get_or}
use Rattle.rules.specs.Method.{Question}
use Rattle.laws.specs.Bounds.{asked_finish_most, cost_most, total_most, budget_most}

-- m processors, the cost and the finish on each as the arrays have them, RB and RCB.
abbrev pub asked : ℕ → List ℕ → List ℕ → ℕ → ℕ → Question
asked m costs finishes rb rcb =
    record { processors = m; cost = λ j. get_or costs j 0; finish = λ j. get_or finishes j 0; RB = rb; RCB = rcb }

-- As of a good request.
pub record InRange (q : Question) : Type 0 where
  pub processors_least : 1 ≤ q.processors
  pub processors_most : q.processors ≤ 16
  pub costs : (j : ℕ) → j < q.processors → q.cost j ≤ cost_most
  pub finishes : (j : ℕ) → j < q.processors → q.finish j ≤ asked_finish_most
  pub RB : q.RB ≤ budget_most
  pub RCB : q.RCB ≤ total_most
