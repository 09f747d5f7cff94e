-- The tasks that a task, the start, leads to, marked as far as they are found.
use Rattle.std.specs.Prelude.{ℕ, ◌<◌, ◌≡◌, Bool, true, false, ◌||◌, List, eqb, length, get_or}
use Rattle.rules.specs.Workflow.{Workflow}
use Rattle.rules.specs.Cycle.{Leads}
use Rattle.laws.specs.Unmarked.{count_unmarked}

abbrev pub marked : List Bool → ℕ → Bool
marked marks i = get_or marks i false

-- What is marked is led to, and `left` tasks are not marked.
pub record MarkedSoFar (W : Workflow) (start : ℕ) (marks : List Bool) (left : ℕ) : Type 0 where
  pub size : length marks ≡ 64
  pub count : left ≡ count_unmarked W.tasks (marked marks)
  pub leads : (i : ℕ) → marked marks i ≡ true → Leads W start i

-- Where edge e leads from the start or from a marked task, it leads to a marked one.
abbrev pub Followed : Workflow → ℕ → List Bool → ℕ → Type 0
Followed W start marks e = (eqb (W.from e) start || marked marks (W.from e)) ≡ true → marked marks (W.to e) ≡ true

-- That holds of every edge below `count`.
abbrev pub AllFollowed : Workflow → ℕ → ℕ → List Bool → Type 0
AllFollowed W start count marks = (e : ℕ) → e < count → Followed W start marks e
