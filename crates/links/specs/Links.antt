-- Links from each task to the last edge into it, and from each edge to the one before it into the same task.
use Rattle.std.specs.Prelude.{ℕ, ◌+◌, ◌≤◌, ◌<◌, ◌≡◌, List, length}
use Rattle.laws.specs.Stores.{at}
use Rattle.rules.specs.Workflow.{Workflow}

-- r is 1 more than the last edge below k into task i; 0 where there is none.
pub record LastInto (W : Workflow) (i k r : ℕ) : Type 0 where
  pub within : r ≤ k
  pub leads : (e : ℕ) → r ≡ e + 1 → W.to e ≡ i
  pub none_after : (e : ℕ) → r ≤ e → e < k → W.to e ≡ i → ⊥

-- The links of the first k edges; 0 where there is no such task and no such edge.
pub record Linked (W : Workflow) (k : ℕ) (last before : List ℕ) : Type 0 where
  pub tasks : length last ≡ 64
  pub edges : length before ≡ 512
  pub last_into : (i : ℕ) → LastInto W i k (at last i)
  pub before_into : (e : ℕ) → e < k → LastInto W (W.to e) e (at before e)
  pub none_beyond : (e : ℕ) → k ≤ e → at before e ≡ 0

-- The links of all edges.
abbrev pub LinkedAll : Workflow → (last before : List ℕ) → Type 0
LinkedAll W last before = Linked W W.edges last before
