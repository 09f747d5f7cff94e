-- Ranks and placing order.
use Rattle.std.specs.Prelude.{ℕ, zero, suc, ◌+◌, ◌*◌, max, Bool, cond, not, ◌&&◌, eqb}
use Rattle.rules.specs.Folds.{sum, largest, lowest, any}
use Rattle.rules.specs.Orders.{tie, higher, among, first}
use Rattle.rules.specs.Workflow.{Workflow}

-- "cost(i,j) is the larger of minimum(j) and w(i,j) x price(j)"
unfoldable pub cost : Workflow → ℕ → ℕ → ℕ
cost W i j = max (W.minimum j) (W.minutes i j * W.price j)

-- The lowest cost of task i, and the cheapest total.
unfoldable pub lowest_cost : Workflow → ℕ → ℕ
lowest_cost W i = lowest W.processors (cost W i)

unfoldable pub cheapest_total : Workflow → ℕ
cheapest_total W = sum W.tasks (lowest_cost W)

-- "R(i) = sum over j of w(i,j), plus the largest over edges i to k of m x c(i,k) + R(k), or plus 0 without successors."
unfoldable pub rank_by : Workflow → (ℕ → ℕ) → ℕ → ℕ
rank_by W R i =
    sum W.processors (W.minutes i)
    + largest W.edges (λ e. cond (eqb (W.from e) i) (W.processors * W.transfer e + R (W.to e)) 0)

-- R of a task from which no path has more than `most` tasks. Without a cycle no path has more than n.
unfoldable pub rank_within : Workflow → ℕ → ℕ → ℕ
rank_within W zero = λ i. 0
rank_within W (suc most) = rank_by W (rank_within W most)

unfoldable pub R : Workflow → ℕ → ℕ
R W = rank_within W W.tasks

-- Task i waits for a predecessor that is not placed.
unfoldable pub waits : Workflow → (ℕ → Bool) → ℕ → Bool
waits W placed i = any W.edges (λ e. eqb (W.to e) i && not (placed (W.from e)))

-- "unplaced tasks whose predecessors are all placed"
unfoldable pub may_be_next : Workflow → (ℕ → Bool) → ℕ → Bool
may_be_next W placed i = not (placed i) && not (waits W placed i)

-- "The next task placed is the highest rank among unplaced tasks whose predecessors are all placed; ties to lower number."
unfoldable pub next_task : Workflow → (ℕ → Bool) → ℕ
next_task W placed = first W.tasks (among (may_be_next W placed) (higher (R W) tie))
