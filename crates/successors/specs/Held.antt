-- What holds a task back from being the next: the edges into it from tasks that are not placed, counted in an array.
use Rattle.std.specs.Prelude.{ℕ, zero, suc, ◌+◌, ◌-◌, ◌≡◌, Bool, cond, List, eqb, length, set}
use Rattle.rules.specs.Workflow.{Workflow}
use Rattle.laws.specs.Stores.{at}
use Rattle.laws.specs.Unmarked.{sum_unmarked}

-- 1 for an edge into task i, else 0.
abbrev pub into : Workflow → ℕ → ℕ → ℕ
into W i e = cond (eqb (W.to e) i) 1 0

-- How many of the edges into task i come from a task that is not placed.
unfoldable pub waited_for : Workflow → (ℕ → Bool) → ℕ → ℕ
waited_for W placed i = sum_unmarked W.edges (λ e. placed (W.from e)) (into W i)

-- What holds task i back from being the next: the edges into it from tasks that are not placed; 1 once it is placed itself.
unfoldable pub held_back : Workflow → (ℕ → Bool) → ℕ → ℕ
held_back W placed i = cond (placed i) 1 (waited_for W placed i)

-- An array of 64 that holds this of each task, and 0 past the last.
pub record Held (W : Workflow) (placed : ℕ → Bool) (held : List ℕ) : Type 0 where
  pub size : length held ≡ 64
  pub holds : (i : ℕ) → at held i ≡ held_back W placed i

-- One less for each of k edges from `begin` on, at the task that it leads to.
unfoldable pub counted_down : Workflow → (begin : ℕ) → List ℕ → ℕ → List ℕ
counted_down W begin held zero = held
counted_down W begin held (suc k) =
    let before = counted_down W begin held k in
    set before (W.to (begin + k)) (at before (W.to (begin + k)) - 1)

-- The task is placed, and the tasks that its edges lead to, from `begin` on up to `end`, wait for it no more.
unfoldable pub released : Workflow → (begin end task : ℕ) → List ℕ → List ℕ
released W begin end task held = counted_down W begin (set held task 1) (end - begin)
