-- What the code keeps once k tasks are placed: the rows so far, in arrays, and what these come to.
use Rattle.std.specs.Prelude.{ℕ, ◌+◌, ◌*◌, ◌-◌, ◌≤◌, ◌<◌, ◌≡◌, true, List}
use Rattle.rules.specs.Workflow.{Workflow}
use Rattle.rules.specs.Ranks.{lowest_cost}
use Rattle.rules.specs.Rows as rules
use Rattle.rules.specs.Rows.{Placed, is_placed, busy}
use Rattle.laws.specs.Bounds.{first_most, added_most, cost_most}
use Rattle.laws.specs.Unmarked.{sum_unmarked, count_unmarked}
use Rattle.laws.specs.Stores.{at}
use Rattle.busy.specs.Kept.{outset_most, Keeps}
use Rattle.successors.specs.Held.{Held}
use Rattle.placing.specs.Placed.{Columns}
use Rattle.placing.specs.State.{State}

-- How many intervals the processors are busy with.
abbrev pub intervals : State → ℕ
intervals state = at state.processors.first 16

-- The rows of k tasks, and what the code keeps of them.
pub record Kept (W : Workflow) (rows : List Placed) (k : ℕ) (state : State) : Type 0 where
  pub columns : Columns rows state.sits state.starts state.ends state.costs
  -- What holds each task back; and a task that has a row came after its predecessors.
  pub held : Held W (is_placed rows) state.held
  pub closed : (e : ℕ) → e < W.edges → is_placed rows (W.to e) ≡ true → is_placed rows (W.from e) ≡ true
  -- What the processors are busy with: so much at the outset, and those of the k rows that take minutes.
  pub processors : Keeps (busy W rows) (intervals state) state.processors
  pub few_intervals : intervals state ≤ outset_most + k
  pub rb_is : state.rb ≡ W.budget - rules.spent rows
  pub spent_is : state.spent ≡ rules.spent rows
  pub rcb_is : state.rcb ≡ sum_unmarked W.tasks (is_placed rows) (lowest_cost W)
  pub length_is : state.length ≡ rules.length_of rows
  -- k tasks have a row, and what each adds is bounded.
  pub count : count_unmarked W.tasks (is_placed rows) + k ≡ W.tasks
  pub length_most : rules.length_of rows ≤ first_most + added_most * k
  pub spent_most : state.spent ≤ cost_most * k
