-- Refusal 8: "the edges have a cycle", place "lowest task with a path back to itself".
use Rattle.std.specs.Prelude.{ℕ, zero, suc, ◌<◌, Bool, ◌&&◌, ◌||◌, eqb}
use Rattle.rules.specs.Folds.{any}
use Rattle.rules.specs.Orders.{tie, among, first}
use Rattle.rules.specs.Workflow.{Workflow}

-- A path: along one edge or more.
pub data Leads (W : Workflow) : ℕ → ℕ → Type 0 where
  edge : (e : ℕ) → e < W.edges → Leads W (W.from e) (W.to e)
  along : (e : ℕ) {k : ℕ} → e < W.edges → Leads W (W.to e) k → Leads W (W.from e) k

-- An edge from i to k.
unfoldable pub linked : Workflow → ℕ → ℕ → Bool
linked W i k = any W.edges (λ e. eqb (W.from e) i && eqb (W.to e) k)

-- A path from i to k on which every task in between is below `between`.
unfoldable pub leads_through : Workflow → ℕ → ℕ → ℕ → Bool
leads_through W zero i k = linked W i k
leads_through W (suc between) i k =
    leads_through W between i k || (leads_through W between i between && leads_through W between between k)

-- A path from task i back to itself.
unfoldable pub back_to_itself : Workflow → ℕ → Bool
back_to_itself W i = leads_through W W.tasks i i

-- The edges have a cycle.
unfoldable pub cyclic : Workflow → Bool
cyclic W = any W.tasks (back_to_itself W)

unfoldable pub lowest_in_cycle : Workflow → ℕ
lowest_in_cycle W = first W.tasks (among (back_to_itself W) tie)
