-- The placing order: the next task has the highest R of those whose predecessors are all placed, ties to the lower number.
use Rattle.std.specs.Prelude.{ℕ, ◌+◌, ◌*◌, ◌≤◌, ◌<◌, ◌≡◌, refl, Bool, true, cond, eqb}
use Rattle.std.proofs.Common.{sym, arith, eq-eqb}
use Rattle.rules.specs.Folds.{sum}
use Rattle.rules.specs.Orders.{tie, higher, among, first}
use Rattle.rules.specs.Workflow.{Workflow}
use Rattle.rules.specs.Cycle.{Leads}
use Rattle.rules.specs.Ranks.{rank_by, R, may_be_next, next_task}
use Rattle.laws.specs.Folds.{at_most_largest}
use Rattle.laws.specs.Orders.{higher_false}
use Rattle.laws.specs.Strict.{tie_strict, higher_strict, first_among_unbeaten, first_among_lowest}
use Rattle.laws.specs.NextTask.{MayBeNext, may_be_next_tested}
use Rattle.laws.specs.Ranks.{R_equation}
use Rattle.demands.specs.Ground.GoodWorkflow.{GoodWorkflow}

-- "the highest rank [..]; ties to lower number": of the tasks of a kind i has the highest R, and the lowest number of those with that R.
pub record Highest (W : Workflow) (Kind : ℕ → Type 0) (i : ℕ) : Type 0 where
  pub highest : (k : ℕ) → k < W.tasks → Kind k → R W k ≤ R W i
  pub then_lowest : (k : ℕ) → k < W.tasks → Kind k → R W k ≡ R W i → i ≤ k

-- The first of those that pass a test is so, where the kind passes it.
pub first_highest :
    (W : Workflow) (test : ℕ → Bool) (Kind : ℕ → Type 0) → ((k : ℕ) → Kind k → test k ≡ true)
    → Highest W Kind (first W.tasks (among test (higher (R W) tie)))
first_highest W test Kind passes =
    let strict = higher_strict (R W) tie_strict in
    record {
      highest = λ k below is. ((higher_false (R W) tie k _).0 (first_among_unbeaten test strict W.tasks k below (passes k is))).0;
      then_lowest = λ k below is same.
          first_among_lowest test strict W.tasks k below (passes k is) ((higher_false (R W) tie _ k).1 (omega arith, λ _. unfold tie in refl));
    }

-- There is one such task.
pub highest_settled :
    (W : Workflow) (Kind : ℕ → Type 0) (i i' : ℕ) → i < W.tasks → i' < W.tasks → Kind i → Kind i' → Highest W Kind i → Highest W Kind i' → i ≡ i'
highest_settled W Kind i i' task task' is is' h h' =
    let highest = h.highest i' task' is' in
    let highest' = h'.highest i task is in
    let rank_same : R W i ≡ R W i' = omega arith in
    let lowest = h.then_lowest i' task' is' (sym rank_same) in
    let lowest' = h'.then_lowest i task is rank_same in
    omega arith

-- "among unplaced tasks whose predecessors are all placed"
abbrev pub HighestLeft : Workflow → (ℕ → Bool) → ℕ → Type 0
HighestLeft W placed = Highest W (MayBeNext W placed)

pub next_task_highest : (W : Workflow) (placed : ℕ → Bool) → HighestLeft W placed (next_task W placed)
unfolding next_task
next_task_highest W placed = first_highest W (may_be_next W placed) (MayBeNext W placed) (may_be_next_tested W placed)

-- "R(i) = sum over j of w(i,j), plus the largest over edges i to k of m x c(i,k) + R(k)": so along an edge.
pub R_at_least :
    (W : Workflow) → GoodWorkflow W → ((i : ℕ) → Leads W i i → ⊥) → (e : ℕ) → e < W.edges
    → sum W.processors (W.minutes (W.from e)) + (W.processors * W.transfer e + R W (W.to e)) ≤ R W (W.from e)
unfolding rank_by
R_at_least W good acyclic e l =
    let i = W.from e in
    let along_edge : ℕ → ℕ = λ x. cond (eqb (W.from x) i) (W.processors * W.transfer x + R W (W.to x)) 0 in
    let on = rw (eq-eqb i i refl) at (at_most_largest W.edges along_edge e l) in
    omega (arith, R_equation W good.to acyclic i (good.from e l), on)
