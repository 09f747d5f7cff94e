-- The next task in the placing order: not placed, with all its predecessors placed. Where the edges have no cycle there is one while a task is not placed.
use Rattle.std.specs.Prelude.{ℕ, ◌≤◌, ◌<◌, ◌≡◌, Bool, true, false, eqb}
use Rattle.std.proofs.Math.Path.{refl, ap₂}
use Rattle.std.proofs.Common.{sym, ap, ◌∙◌, subst, arith}
use Rattle.std.proofs.Math.Bool.{not, ◌&&◌, false≢true}
use borrow.Author.Tests.{eqb-true, eq-eqb, not-true}
use Rattle.rules.specs.Folds.{any}
use Rattle.rules.specs.Workflow.{Workflow}
use Rattle.rules.specs.Cycle.{Leads, edge}
use Rattle.rules.specs.Ranks.{waits, may_be_next, next_task}
use Rattle.laws.specs.Tests.{and_both, false_unless_true, true_unless_false}
use Rattle.laws.specs.Any.{any_attained, any_holds}
use Rattle.laws.specs.First.{first_below, first_passes}
use Rattle.laws.specs.Leads.{leads_on}
use Rattle.laws.specs.Onward.{some_after_itself}
use Rattle.laws.specs.Unmarked.{count_unmarked, some_unmarked}

-- "unplaced tasks whose predecessors are all placed": i is one of them.
pub record MayBeNext (W : Workflow) (placed : ℕ → Bool) (i : ℕ) : Type 0 where
  pub left : placed i ≡ false
  pub predecessors_placed : (e : ℕ) → e < W.edges → W.to e ≡ i → placed (W.from e) ≡ true

-- Every edge comes from a task.
abbrev pub EdgesBegin : Workflow → Type 0
EdgesBegin W = (e : ℕ) → e < W.edges → W.from e < W.tasks

module _ (W : Workflow) (placed : ℕ → Bool) where
  abbrev waits_at : ℕ → ℕ → Bool
  waits_at i e = eqb (W.to e) i && not (placed (W.from e))

  -- The tests say what they are called after.
  waits_told : (i : ℕ) → waits W placed i ≡ true → (e : ℕ) × (e < W.edges) × (W.to e ≡ i) × (placed (W.from e) ≡ false)
  unfolding waits
  waits_told i h =
      let (e, l, both) = any_attained W.edges (waits_at i) h in
      let (to, left) = and_both (eqb (W.to e) i) (not (placed (W.from e))) both in
      (e, l, eqb-true (W.to e) i to, not-true _ left)

  pub may_be_next_told : (i : ℕ) → may_be_next W placed i ≡ true → MayBeNext W placed i
  unfolding may_be_next waits
  may_be_next_told i h =
      let (left, none) = and_both (not (placed i)) (not (waits W placed i)) h in
      record {
        left = not-true _ left;
        predecessors_placed = λ e l to.
            true_unless_false (placed (W.from e)) (λ free.
            false≢true (sym (not-true _ none) ∙ any_holds W.edges (waits_at i) e l (ap₂ ◌&&◌ (eq-eqb (W.to e) i to) (ap not free))));
      }

  pub may_be_next_tested : (i : ℕ) → MayBeNext W placed i → may_be_next W placed i ≡ true
  unfolding may_be_next
  may_be_next_tested i may =
      ap₂ ◌&&◌ (ap not may.left)
      (ap not (false_unless_true (waits W placed i) (λ h.
      let (e, l, to, free) = waits_told i h in
      false≢true (sym free ∙ may.predecessors_placed e l to))))

  -- A task that is not placed and is not one of those waits for a predecessor.
  pub held_by_one :
      (i : ℕ) → placed i ≡ false → may_be_next W placed i ≡ false → (e : ℕ) × (e < W.edges) × (W.to e ≡ i) × (placed (W.from e) ≡ false)
  unfolding may_be_next
  held_by_one i free none = waits_told i (true_unless_false (waits W placed i) (λ h. false≢true (sym none ∙ rw (free, h) refl)))

  module _ (begin : EdgesBegin W) (acyclic : (i : ℕ) → Leads W i i → ⊥) where
    -- One of a kind that goes back along every edge: going back from one that is not placed to a predecessor that is not, one comes to an end.
    module _ (kind : ℕ → Bool) (back : (e : ℕ) → e < W.edges → kind (W.to e) ≡ true → kind (W.from e) ≡ true) where
      abbrev Left : ℕ → Type 0
      Left i = (placed i ≡ false) × (kind i ≡ true)

      abbrev test : ℕ → Bool
      test i = kind i && may_be_next W placed i

      goes_on : any W.tasks test ≡ false → (i : ℕ) → i < W.tasks → Left i → (k : ℕ) × (k < W.tasks) × Leads W k i × Left k
      goes_on none i l (free, is) =
          let held : may_be_next W placed i ≡ false =
          false_unless_true (may_be_next W placed i) (λ may. false≢true (sym none ∙ any_holds W.tasks test i l (ap₂ ◌&&◌ is may))) in
          let (e, b, to, left) = held_by_one i free held in
          (W.from e, begin e b, subst (Leads W (W.from e)) to (edge e b), (left, back e b (rw to is)))

      pub some_may_be_next : (i : ℕ) → i < W.tasks → placed i ≡ false → kind i ≡ true → (k : ℕ) × (k < W.tasks) × (kind k ≡ true) × MayBeNext W placed k
      some_may_be_next i l free is =
          let found : any W.tasks test ≡ true =
          true_unless_false (any W.tasks test) (λ none.
          let (k, m, loop) = some_after_itself W.tasks (Leads W) (λ x y z p q. leads_on W q p) Left (goes_on none) i l (free, is) in
          acyclic k loop) in
          let (k, below, both) = any_attained W.tasks test found in
          let (kinds, may) = and_both (kind k) (may_be_next W placed k) both in
          (k, below, kinds, may_be_next_told k may)

    -- While a task is not placed, the next is a task, and one of those.
    pub next_task_may : 1 ≤ count_unmarked W.tasks placed → (next_task W placed < W.tasks) × MayBeNext W placed (next_task W placed)
    unfolding next_task
    next_task_may left =
        let (i, below, free) = some_unmarked placed W.tasks left in
        let (k, m, is, may) = some_may_be_next (λ k. true) (λ e l h. refl) i below free refl in
        (first_below W.tasks _ (omega arith), may_be_next_told _ (first_passes (may_be_next W placed) _ W.tasks k m (may_be_next_tested k may)))
