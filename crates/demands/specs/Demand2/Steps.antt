-- What holds at each step of placing, as a statement about the list of rows; and by each of the three methods each step is as the rules say.
use Rattle.std.specs.Prelude.{ℕ, ◌≤◌, ◌<◌, ◌≡◌, refl, List, [], ◌∷◌}
use Rattle.std.proofs.Math.Path.{subst}
use Rattle.rules.specs.Workflow.{Workflow}
use Rattle.rules.specs.Rows.{Placed, is_placed}
use Rattle.rules.specs.Method.{Method, Name, method}
use Rattle.rules.specs.Placing.{question, row_on}
use Rattle.laws.specs.NextTask.{MayBeNext}
use Rattle.demands.specs.Demand2.Order.{HighestLeft, next_task_highest}
use Rattle.demands.specs.Demand2.Built.{Next, placed_on, Built, at_first, one_more}
use Rattle.demands.specs.Demand2.Choices.{ChosenBy, FitsBy, chosen_so}

-- The newest row stands first, and before it those that were there.
abbrev pub EachStep : (List Placed → Placed → Type 0) → List Placed → Type 0
EachStep step [] = Unit {0}
EachStep step (p ∷ before) = step before p × EachStep step before

pub each_step :
    (M : Method) (W : Workflow) (step : List Placed → Placed → Type 0)
    → ((before : List Placed) (i j : ℕ) → Built M W before → Next M W before i j → step before (placed_on W before i j))
    → {rows : List Placed} → Built M W rows → EachStep step rows
each_step M W step each at_first = tt
each_step M W step each (one_more {before = before} {i = i} {j = j} built next) = (each before i j built next, each_step M W step each built)

-- The task is one that was left with all its predecessors placed, and of those it has the highest R; its processor is the one that the method takes; its row is
-- what follows from that.
pub record AsTheMethod (M : Name) (W : Workflow) (before : List Placed) (p : Placed) : Type 0 where
  pub task : p.task < W.tasks
  pub may_be_next : MayBeNext W (is_placed before) p.task
  pub highest_left : HighestLeft W (is_placed before) p.task
  pub chosen : ChosenBy M (question W before p.task) p.row.processor
  pub row : p.row ≡ row_on W before p.task p.row.processor

pub steps_as_the_method :
    (M : Name) (W : Workflow) → 1 ≤ W.processors → FitsBy M W → {rows : List Placed} → Built (method M) W rows → EachStep (AsTheMethod M W) rows
steps_as_the_method M W some fits =
    each_step (method M) W (AsTheMethod M W) (λ before i j built next.
    unfold row_on question in
    record {
      task = next.task;
      may_be_next = next.may;
      highest_left = subst (HighestLeft W (is_placed before)) next.is_next (next_task_highest W (is_placed before));
      chosen = subst (ChosenBy M (question W before i)) next.chosen (chosen_so M W some fits built i next.task next.may.left);
      row = refl;
    })
