-- The order in which a plan's tasks are placed: each once, by falling R, and each after its predecessors; of equal R the lower number first, unless it had to
-- wait for a predecessor. A task that is placed had the highest R of those that could come when a later one was still to come.
use Rattle.std.specs.Prelude.{ℕ, ◌≤◌, ◌<◌, ◌≡◌, refl, Bool, true, false, List, ◌⊎◌, leb}
use Rattle.std.proofs.Common.{sym, ◌∙◌, subst, inl, inr, arith, leb-true, le-leb}
use Rattle.std.proofs.lemmas.Bool.{false≢true}
use Rattle.rules.specs.Workflow.{Workflow}
use Rattle.rules.specs.Cycle.{Leads}
use Rattle.rules.specs.Ranks.{R, may_be_next}
use Rattle.rules.specs.Rows.{Placed, is_placed}
use Rattle.rules.specs.Method.{Name}
use Rattle.laws.specs.NextTask.{may_be_next_told, some_may_be_next, held_by_one}
use Rattle.demands.specs.Ground.GoodWorkflow.{GoodWorkflow}
use Rattle.demands.specs.Demand2.Order.{R_at_least}
use Rattle.demands.specs.Demand2.PlacedAt.{PlacedBefore, both_placed, PlacedAt, placed_at, only_tasks}
use Rattle.demands.specs.Demand2.WhatIsDue.{MethodsPlan}

-- "The next task placed is the highest rank among unplaced tasks whose predecessors are all placed; ties to lower number." "So tasks are placed by falling R,
-- each after its predecessors."
pub record PlacedInOrder (W : Workflow) (rows : List Placed) : Type 0 where
  pub each_placed : (i : ℕ) → i < W.tasks → is_placed rows i ≡ true
  pub only_tasks : (i : ℕ) → is_placed rows i ≡ true → i < W.tasks
  pub none_twice : (i : ℕ) → PlacedBefore rows i i → ⊥
  pub falling : (i k : ℕ) → PlacedBefore rows i k → R W k ≤ R W i
  -- Of equal R the lower number comes first, or it has a predecessor that does not come before the other.
  pub ties : (i k : ℕ) → PlacedBefore rows i k → R W k ≡ R W i
      → (i < k) ⊎ ((e : ℕ) × (e < W.edges) × (W.to e ≡ k) × (PlacedBefore rows (W.from e) i → ⊥))
  pub predecessors_first : (e : ℕ) → e < W.edges → PlacedBefore rows (W.from e) (W.to e)

-- A plan's tasks are placed so, by each of the three methods.
pub plan_in_order :
    {M : Name} (W : Workflow) → GoodWorkflow W → ((i : ℕ) → Leads W i i → ⊥) → {rows : List Placed} → MethodsPlan M W rows → PlacedInOrder W rows
plan_in_order {M} W good acyclic {rows} plan =
    record {
      each_placed = plan.all_placed;
      only_tasks = only_tasks M W rows plan.steps;
      none_twice = none_twice;
      falling = falling;
      ties = λ i k b same. go i k b same (may_be_next W (is_placed (first i k b).before) k) refl;
      predecessors_first = λ e l.
          let there = at_its_step (W.to e) (plan.all_placed (W.to e) (good.to e l)) in
          there.before_it (W.from e) (there.may.predecessors_placed e l refl);
    }
  where
    at_its_step : (i : ℕ) → is_placed rows i ≡ true → PlacedAt M W rows i
    at_its_step = placed_at M W rows plan.steps

    first : (i k : ℕ) → PlacedBefore rows i k → PlacedAt M W rows i
    first i k b = at_its_step i (both_placed rows i k b).0

    second_is_task : (i k : ℕ) → PlacedBefore rows i k → k < W.tasks
    second_is_task i k b = (at_its_step k (both_placed rows i k b).1).task

    none_twice : (i : ℕ) → PlacedBefore rows i i → ⊥
    none_twice i b = false≢true (sym ((first i i b).after_it i b) ∙ (first i i b).it_after i b)

    falling : (i k : ℕ) → PlacedBefore rows i k → R W k ≤ R W i
    falling i k b =
        let there = first i k b in
        let (x, below, above, may) =
        some_may_be_next W (is_placed there.before) good.from acyclic (λ y. leb (R W k) (R W y))
        (λ e l h. le-leb (R W k) (R W (W.from e)) (omega (arith, leb-true (R W k) (R W (W.to e)) h, R_at_least W good acyclic e l)))
        k (second_is_task i k b) (there.after_it k b) (le-leb (R W k) (R W k) (omega arith)) in
        omega (arith, leb-true (R W k) (R W x) above, there.highest_left.highest x below may)

    go : (i k : ℕ) (b : PlacedBefore rows i k) → R W k ≡ R W i → (t : Bool) → may_be_next W (is_placed (first i k b).before) k ≡ t
        → (i < k) ⊎ ((e : ℕ) × (e < W.edges) × (W.to e ≡ k) × (PlacedBefore rows (W.from e) i → ⊥))
    go i k b same true may =
        let there = first i k b in
        let lowest = there.highest_left.then_lowest k (second_is_task i k b) (may_be_next_told W _ k may) same in
        let differ : i ≡ k → ⊥ = λ q. none_twice i (subst (PlacedBefore rows i) (sym q) b) in
        inl (omega (arith, lowest, differ))
    go i k b same false held =
        let there = first i k b in
        let (e, l, to, free) = held_by_one W (is_placed there.before) k (there.after_it k b) held in
        inr (e, l, to, λ earlier. false≢true (sym free ∙ there.it_after (W.from e) earlier))
