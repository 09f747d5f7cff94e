-- Where each task of a plan came to be placed: what was placed before it, and what stays of that; by each of the three methods.
use Rattle.std.specs.Prelude.{ℕ, ◌<◌, ◌≡◌, refl, Bool, true, false, ◌||◌, List, [], ◌∷◌, ◌⊎◌, eqb}
use Rattle.std.proofs.Common.{sym, ◌∙◌, subst, inl, inr, ⊎_elim, eqb-true, eq-eqb}
use Rattle.std.proofs.lemmas.Bool.{false≢true}
use Rattle.rules.specs.Workflow.{Workflow}
use Rattle.rules.specs.Rows.{Placed, row_of, is_placed}
use Rattle.rules.specs.Method.{Name}
use Rattle.rules.specs.Placing.{row_on}
use Rattle.laws.specs.Tests.{false_unless_true}
use Rattle.laws.specs.NextTask.{MayBeNext}
use Rattle.demands.specs.Demand2.Lookup.{none_placed, new_placed, old_placed, old_row}
use Rattle.demands.specs.Demand2.Order.{HighestLeft}
use Rattle.demands.specs.Demand2.Steps.{EachStep, AsTheMethod}

-- Task i is placed, and after it task k: in the list the newest stands first.
abbrev pub PlacedBefore : List Placed → ℕ → ℕ → Type 0
PlacedBefore [] i k = ⊥
PlacedBefore (p ∷ before) i k = ((p.task ≡ k) × (is_placed before i ≡ true)) ⊎ PlacedBefore before i k

-- What is placed is the new task or one of those before it.
placed_cases :
    (p : Placed) (before : List Placed) (i : ℕ) → is_placed (p ∷ before) i ≡ true → (p.task ≡ i) ⊎ (is_placed before i ≡ true)
unfolding is_placed
placed_cases p before i = go (eqb p.task i) refl
  where
    go : (t : Bool) → eqb p.task i ≡ t → (t || is_placed before i) ≡ true → (p.task ≡ i) ⊎ (is_placed before i ≡ true)
    go true e h = inl (eqb-true p.task i e)
    go false e h = inr h

-- The newest has its own row.
pub new_row : (p : Placed) (before : List Placed) → row_of (p ∷ before) p.task ≡ p.row
unfolding row_of
new_row p before = rw (eq-eqb p.task p.task refl) refl

-- Both are placed.
pub both_placed : (rows : List Placed) (i k : ℕ) → PlacedBefore rows i k → (is_placed rows i ≡ true) × (is_placed rows k ≡ true)
both_placed [] i k b = absurd b
both_placed (p ∷ before) i k (inl (is, placed)) = (old_placed p before i placed, subst (λ x. is_placed (p ∷ before) x ≡ true) is (new_placed p before))
both_placed (p ∷ before) i k (inr b) =
    let (one, other) = both_placed before i k b in
    (old_placed p before i one, old_placed p before k other)

-- Where task i came to be placed: what was placed before it is what the list has before it, and what it has after it was not. The rows before it were placed as the
-- method says, and stay; its own follows from them.
pub record PlacedAt (M : Name) (W : Workflow) (rows : List Placed) (i : ℕ) : Type 0 where
  pub before : List Placed
  pub task : i < W.tasks
  pub may : MayBeNext W (is_placed before) i
  pub highest_left : HighestLeft W (is_placed before) i
  pub before_it : (k : ℕ) → is_placed before k ≡ true → PlacedBefore rows k i
  pub it_after : (k : ℕ) → PlacedBefore rows k i → is_placed before k ≡ true
  pub after_it : (k : ℕ) → PlacedBefore rows i k → is_placed before k ≡ false
  pub steps_before : EachStep (AsTheMethod M W) before
  pub row : row_of rows i ≡ row_on W before i (row_of rows i).processor
  pub stay : (k : ℕ) → is_placed before k ≡ true → row_of rows k ≡ row_of before k

module _ (M : Name) (W : Workflow) where
  pub placed_at : (rows : List Placed) → EachStep (AsTheMethod M W) rows → (i : ℕ) → is_placed rows i ≡ true → PlacedAt M W rows i
  placed_at [] steps i placed = absurd (none_placed i placed)
  placed_at (p ∷ before) (step, steps) i placed =
      ⊎_elim (λ is. subst (PlacedAt M W (p ∷ before)) is newest) (λ h. older h (placed_at before steps i h)) (placed_cases p before i placed)
    where
      new : is_placed before p.task ≡ true → ⊥
      new h = false≢true (sym step.may_be_next.left ∙ h)

      newest : PlacedAt M W (p ∷ before) p.task
      newest =
          record {
            before = before;
            task = step.task;
            may = step.may_be_next;
            highest_left = step.highest_left;
            before_it = λ k h. inl (refl, h);
            it_after = λ k b. ⊎_elim (λ (h : (p.task ≡ p.task) × (is_placed before k ≡ true)). h.1) (λ b. absurd (new (both_placed before k p.task b).1)) b;
            after_it = λ k b.
                ⊎_elim (λ (h : (p.task ≡ k) × (is_placed before p.task ≡ true)). absurd (new h.1)) (λ b. absurd (new (both_placed before p.task k b).0)) b;
            steps_before = steps;
            row = rw (new_row p before) step.row;
            stay = old_row p before step.may_be_next.left;
          }

      older : is_placed before i ≡ true → PlacedAt M W before i → PlacedAt M W (p ∷ before) i
      older h there =
          record {
            before = there.before;
            task = there.task;
            may = there.may;
            highest_left = there.highest_left;
            before_it = λ k g. inr (there.before_it k g);
            it_after = λ k b.
                ⊎_elim (λ (g : (p.task ≡ i) × (is_placed before k ≡ true)). absurd (new (subst (λ x. is_placed before x ≡ true) (sym g.0) h))) (there.it_after k) b;
            after_it = λ k b.
                ⊎_elim
                (λ (g : (p.task ≡ k) × (is_placed before i ≡ true)).
                false_unless_true (is_placed there.before k) (λ old.
                new (subst (λ x. is_placed before x ≡ true) (sym g.0) (both_placed before k i (there.before_it k old)).0)))
                (there.after_it k) b;
            steps_before = there.steps_before;
            row = rw (old_row p before step.may_be_next.left i h) there.row;
            stay = λ k g.
                old_row p before step.may_be_next.left k (both_placed before k i (there.before_it k g)).0 ∙ there.stay k g;
          }

  pub only_tasks : (rows : List Placed) → EachStep (AsTheMethod M W) rows → (i : ℕ) → is_placed rows i ≡ true → i < W.tasks
  only_tasks rows steps i placed = (placed_at rows steps i placed).task
