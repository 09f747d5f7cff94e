-- How placing goes where the edges have no cycle, by any method whose choices are processors: each task is the next, not placed before while all its
-- predecessors are, and on the processor that was chosen.
use Prim.Native.Nat.{ℕ, zero, suc, ◌+◌, ◌≤◌, ◌<◌}
use Rattle.std.specs.Prelude.{◌≡◌, refl, List, [], ◌∷◌, length}
use Rattle.std.proofs.Math.Path.{ap}
use Rattle.std.proofs.Common.{arith}
use Rattle.rules.specs.Workflow.{Workflow}
use Rattle.rules.specs.Cycle.{Leads}
use Rattle.rules.specs.Ranks.{next_task}
use Rattle.rules.specs.Rows.{Placed, is_placed}
use Rattle.rules.specs.Method.{Method}
use Rattle.rules.specs.Placing.{question, row_on, place_task, place_next, place}
use Rattle.laws.specs.Unmarked.{count_unmarked, sum_unmarked_less, count_unmarked_at_first}
use Rattle.laws.specs.NextTask.{MayBeNext, EdgesBegin, next_task_may}
use Rattle.demands.specs.Ground.MethodLaws.{ChoosesProcessors}

-- Task i is placed next, on processor j.
pub record Next (M : Method) (W : Workflow) (before : List Placed) (i j : ℕ) : Type 0 where
  pub is_next : next_task W (is_placed before) ≡ i
  pub task : i < W.tasks
  pub may : MayBeNext W (is_placed before) i
  pub chosen : M (question W before i) ≡ j
  pub processor : j < W.processors

abbrev pub placed_on : Workflow → List Placed → ℕ → ℕ → Placed
placed_on W before i j = record { task = i; row = row_on W before i j }

pub data Built (M : Method) (W : Workflow) : List Placed → Type 0 where
  at_first : Built M W []
  one_more : {before : List Placed} {i j : ℕ} → Built M W before → Next M W before i j → Built M W (placed_on W before i j ∷ before)

module _ (M : Method) (W : Workflow) where
  pub built_count : {rows : List Placed} → Built M W rows → count_unmarked W.tasks (is_placed rows) + length rows ≡ W.tasks
  unfolding is_placed
  built_count at_first = omega (arith, count_unmarked_at_first W.tasks)
  built_count (one_more {before = before} {i = i} built next) =
      omega (arith, built_count built, sum_unmarked_less (is_placed before) (λ k. 1) W.tasks i next.task next.may.left)

  module _ (begin : EdgesBegin W) (acyclic : (i : ℕ) → Leads W i i → ⊥) where
    -- While a task is left, the next is a task, not placed, and its predecessors are.
    pub next_may :
        (rows : List Placed) → Built M W rows → length rows < W.tasks
        → (next_task W (is_placed rows) < W.tasks) × MayBeNext W (is_placed rows) (next_task W (is_placed rows))
    next_may rows built l = next_task_may W (is_placed rows) begin acyclic (omega (arith, built_count built))

    -- The first k tasks are placed so.
    pub place_built :
        ChoosesProcessors M → 1 ≤ W.processors → (k : ℕ) → k ≤ W.tasks → Built M W (place M W k) × (length (place M W k) ≡ k)
    unfolding place place_next place_task question
    place_built chooses some zero l = (at_first, refl)
    place_built chooses some (suc k) l =
        let (built, count) = place_built chooses some k (omega arith) in
        let (task, may) = next_may (place M W k) built (omega arith) in (
          one_more built (record { is_next = refl; task = task; may = may; chosen = refl; processor = chooses _ some }),
          ap suc count,
        )
