-- Placing the tasks one after the other, by any method.
use Rattle.std.specs.Prelude.{ℕ, zero, suc, ◌+◌, ◌-◌, cond, ◌||◌, List, [], ◌∷◌, eqb}
use Rattle.rules.specs.Folds.{sum}
use Rattle.rules.specs.Workflow.{Workflow}
use Rattle.rules.specs.Ranks.{cost, lowest_cost, next_task}
use Rattle.rules.specs.Start.{ready, start_on}
use Rattle.rules.specs.Rows.{Row, Placed, row_of, is_placed, busy, spent}
use Rattle.rules.specs.Method.{Question, Method}

-- Ready, start and finish of task i on processor j.
unfoldable pub ready_for : Workflow → List Placed → ℕ → ℕ → ℕ
ready_for W so_far i j = ready W (λ p. (row_of so_far p).processor) (λ p. (row_of so_far p).finish) i j

unfoldable pub start_of : Workflow → List Placed → ℕ → ℕ → ℕ
start_of W so_far i j = start_on (busy W so_far j) (ready_for W so_far i j) (W.minutes i j)

-- "Finish = start + w."
unfoldable pub finish_of : Workflow → List Placed → ℕ → ℕ → ℕ
finish_of W so_far i j = start_of W so_far i j + W.minutes i j

-- "RB: budget less the costs already chosen." Once the cheapest total fits, these never come to more than the budget (`stays_affordable` in the
-- demands), so it is never below 0.
unfoldable pub RB : Workflow → List Placed → ℕ
RB W so_far = W.budget - spent so_far

-- "RCB: sum of lowest costs of the tasks still to come, the task in hand not counted."
unfoldable pub RCB : Workflow → List Placed → ℕ → ℕ
RCB W so_far i = sum W.tasks (λ k. cond (eqb i k || is_placed so_far k) 0 (lowest_cost W k))

-- What the method is asked for task i.
unfoldable pub question : Workflow → List Placed → ℕ → Question
question W so_far i =
    record {
      processors = W.processors;
      cost = cost W i;
      finish = finish_of W so_far i;
      RB = RB W so_far;
      RCB = RCB W so_far i;
    }

unfoldable pub row_on : Workflow → List Placed → ℕ → ℕ → Row
row_on W so_far i j =
    record {
      processor = j;
      start = start_of W so_far i j;
      finish = finish_of W so_far i j;
      cost = cost W i j;
    }

-- Task i is placed on the processor that the method takes; the newest stands first.
unfoldable pub place_task : Method → Workflow → List Placed → ℕ → List Placed
place_task M W so_far i = record { task = i; row = row_on W so_far i (M (question W so_far i)) } ∷ so_far

unfoldable pub place_next : Method → Workflow → List Placed → List Placed
place_next M W so_far = place_task M W so_far (next_task W (is_placed so_far))

-- The first k tasks of the placing order.
unfoldable pub place : Method → Workflow → ℕ → List Placed
place M W zero = []
place M W (suc k) = place_next M W (place M W k)
