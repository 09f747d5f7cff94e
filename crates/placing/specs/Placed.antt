-- What the code's placing says, in the rules' words.
use Rattle.std.specs.Prelude.{ℕ, suc, ◌-◌, ◌<◌, ◌≡◌, List, length}
use Rattle.rules.specs.Workflow.{Workflow}
use Rattle.rules.specs.Ranks.{R}
use Rattle.rules.specs.Rows.{Row, Placed, row_of, spent, length_of}
use Rattle.rules.specs.Method.{Name, method}
use Rattle.rules.specs.Placing.{place}
use Rattle.laws.specs.Stores.{at}
use Rattle.placing.specs.declared.Placing.{Placing}

-- The array holds the ranks of all tasks, each 1 more.
pub record RanksOf (W : Workflow) (ranks : List ℕ) : Type 0 where
  pub are : (i : ℕ) → i < W.tasks → at ranks i ≡ suc (R W i)

-- An array of 64 that holds one field of each task's row, and 0 for a task that has none.
pub record Column (field : Row → ℕ) (rows : List Placed) (xs : List ℕ) : Type 0 where
  pub size : length xs ≡ 64
  pub holds : (i : ℕ) → at xs i ≡ field (row_of rows i)

-- Four such arrays.
pub record Columns (rows : List Placed) (processors starts finishes costs : List ℕ) : Type 0 where
  pub processors_hold : Column (λ r. r.processor) rows processors
  pub starts_hold : Column (λ r. r.start) rows starts
  pub finishes_hold : Column (λ r. r.finish) rows finishes
  pub costs_hold : Column (λ r. r.cost) rows costs

-- The rows of all tasks by a method, as the rules place them.
abbrev pub all_rows : Name → Workflow → List Placed
all_rows M W = place (method M) W W.tasks

-- The arrays hold these rows, and the answer tells their length, what they cost, and the budget left.
pub record PlacedAs (M : Name) (W : Workflow) (processors starts finishes costs : List ℕ) (r : Placing) : Type 0 where
  pub length_is : r.length ≡ length_of (all_rows M W)
  pub cost_is : r.cost ≡ spent (all_rows M W)
  pub left_is : r.left ≡ W.budget - spent (all_rows M W)
  pub columns : Columns (all_rows M W) processors starts finishes costs
