-- Plan rows, and what the tasks placed so far say.
use Rattle.std.specs.Prelude.{ℕ, ◌+◌, max, Bool, false, cond, ◌||◌, List, [], ◌∷◌, eqb}
use Rattle.rules.specs.Workflow.{Interval, Workflow, busy_with}

-- "row i for task i: processor, start, finish, cost"
pub record Row : Type 0 where
  pub processor : ℕ
  pub start : ℕ
  pub finish : ℕ
  pub cost : ℕ

pub record Placed : Type 0 where
  pub task : ℕ
  pub row : Row

abbrev pub no_row : Row
no_row = record { processor = 0; start = 0; finish = 0; cost = 0 }

-- The row of task i among the tasks placed so far, of which the newest stands first.
unfoldable pub row_of : List Placed → ℕ → Row
row_of [] i = no_row
row_of (p ∷ so_far) i = cond (eqb p.task i) p.row (row_of so_far i)

unfoldable pub is_placed : List Placed → ℕ → Bool
is_placed [] i = false
is_placed (p ∷ so_far) i = eqb p.task i || is_placed so_far i

-- The minutes that a row takes up.
abbrev pub taken_up : Row → Interval
taken_up r = record { begin = r.start; end = r.finish }

-- "what j is busy with at first are its windows, and each row placed there is one interval more"
unfoldable pub busy : Workflow → List Placed → ℕ → List Interval
busy W [] = W.busy_at_first
busy W (p ∷ so_far) = busy_with p.row.processor (taken_up p.row) (busy W so_far)

-- "the costs already chosen"
unfoldable pub spent : List Placed → ℕ
spent [] = 0
spent (p ∷ so_far) = spent so_far + p.row.cost

-- "the length of a plan is the largest finish"
unfoldable pub length_of : List Placed → ℕ
length_of [] = 0
length_of (p ∷ so_far) = max (length_of so_far) p.row.finish
