-- What is marked stays right as one task more is marked; once every edge is followed, the start is marked exactly if it leads back to itself.
use Rattle.std.specs.Prelude.{ℕ, ◌+◌, ◌-◌, ◌≤◌, ◌<◌, ◌≡◌, refl, Bool, true, false, cond, ◌||◌, List, eqb, set, replicate}
use Rattle.std.proofs.Common.{sym, ap, ◌∙◌, subst, true≢false, inl, ⊎_elim, arith, length-set, eq-eqb, eqb-true}
use Rattle.std.proofs.lemmas.Bool.{false≢true}
use Rattle.rules.specs.Workflow.{Workflow}
use Rattle.rules.specs.Cycle.{Leads, edge, along, back_to_itself, cyclic, lowest_in_cycle}
use Rattle.good.specs.Ranges.{InRange}
use Rattle.laws.specs.Tests.{or_either, or_left, or_right, false_unless_true}
use Rattle.laws.specs.Folds.{sum_same}
use Rattle.laws.specs.Unmarked.{count_unmarked, and_marked, sum_unmarked_less, count_unmarked_at_first, none_unmarked}
use Rattle.laws.specs.Leads.{leads_on}
use Rattle.laws.specs.Cycles.{back_to_itself_iff, lowest_in_cycle_lowest}
use Rattle.laws.specs.Stores.{stored, repeated}
use Rattle.laws.specs.Turned.{Turned}
use Rattle.laws.specs.Numbers.{below_or_on}
use Rattle.cycles.specs.Marked.{marked, MarkedSoFar, Followed, AllFollowed}

module _ (W : Workflow) (range : InRange W) (start : ℕ) where
  -- At first nothing is marked.
  pub marked_none : MarkedSoFar W start (replicate 64 false) W.tasks
  marked_none =
      let none : (i : ℕ) → marked (replicate 64 false) i ≡ false = repeated 64 false in
      record {
        size = refl;
        count =
            sym
            (sum_same W.tasks (λ i. cond (marked (replicate 64 false) i) 0 1) (λ i. 1) (λ i l. rw (none i)) ∙ count_unmarked_at_first W.tasks);
        leads = λ i h. absurd (false≢true (sym (none i) ∙ h));
      }

  -- The end of an edge that leads on from what is reached is marked.
  module _ (marks : List Bool) (left e : ℕ) (so_far : MarkedSoFar W start marks left) (below : e < W.edges)
      (free : marked marks (W.to e) ≡ false) where
    marked_now : (k : ℕ) → marked (set marks (W.to e) true) k ≡ and_marked (W.to e) (marked marks) k
    marked_now k =
        stored marks (W.to e) true false k (omega (arith, so_far.size, range.to_below e below, range.tasks_in.to_high)) ∙ go (eqb (W.to e) k)
      where
        go : (t : Bool) → cond t true (marked marks k) ≡ (t || marked marks k)
        go true = refl
        go false = refl

    count_now : count_unmarked W.tasks (marked (set marks (W.to e) true)) + 1 ≡ left
    count_now =
        let same : count_unmarked W.tasks (marked (set marks (W.to e) true)) ≡ count_unmarked W.tasks (and_marked (W.to e) (marked marks)) =
        sum_same W.tasks (λ k. cond (marked (set marks (W.to e) true) k) 0 1) (λ k. cond (and_marked (W.to e) (marked marks) k) 0 1)
        (λ k l. ap (λ t. cond t 0 1) (marked_now k)) in
        omega (arith, sum_unmarked_less (marked marks) (λ k. 1) W.tasks (W.to e) (range.to_below e below) free, so_far.count)

    pub some_left : 1 ≤ left
    some_left = omega (arith, count_now)

    module _ (reached : (eqb (W.from e) start || marked marks (W.from e)) ≡ true) where
      leads_to_end : Leads W start (W.to e)
      leads_to_end =
          ⊎_elim (λ here. subst (λ i. Leads W i (W.to e)) (eqb-true (W.from e) start here) (edge e below))
          (λ there. leads_on W (so_far.leads (W.from e) there) (edge e below))
          (or_either (eqb (W.from e) start) (marked marks (W.from e)) reached)

      pub mark_turned : Turned (MarkedSoFar W start) (λ xs. Followed W start xs e) marks (set marks (W.to e) true) left (left - 1)
      mark_turned =
          record {
            kept =
                record {
                  size = length-set marks (W.to e) true ∙ so_far.size;
                  count = omega (arith, count_now);
                  leads =
                      λ k h.
                      ⊎_elim (λ q. subst (Leads W start) (eqb-true (W.to e) k q) leads_to_end) (λ p. so_far.leads k p)
                      (or_either (eqb (W.to e) k) (marked marks k) (sym (marked_now k) ∙ h));
                };
            fewer_or_still = inl (omega (arith, count_now));
          }

  -- One edge more is followed.
  pub followed_more :
      (e : ℕ) (marks : List Bool) → AllFollowed W start e marks → Followed W start marks e → AllFollowed W start (e + 1) marks
  followed_more e marks before here k l =
      ⊎_elim (λ (q : e ≤ k). let same : e ≡ k = omega arith in subst (Followed W start marks) same here) (λ (q : k + 1 ≤ e). before k (omega arith))
      (below_or_on e k)

  -- Once all are followed, whatever is led to is marked.
  module _ (marks : List Bool) (all : AllFollowed W start W.edges marks) where
    led_to_marked : {i k : ℕ} → Leads W i k → (eqb i start || marked marks i) ≡ true → marked marks k ≡ true
    led_to_marked (edge e l) reached = all e l reached
    led_to_marked (along e l p) reached =
        led_to_marked p (or_right (eqb (W.to e) start) (marked marks (W.to e)) (all e l reached))

    pub start_marked : (left : ℕ) → MarkedSoFar W start marks left → marked marks start ≡ back_to_itself W start
    start_marked left so_far = go (marked marks start) refl
      where
        go : (t : Bool) → marked marks start ≡ t → t ≡ back_to_itself W start
        go true h = sym ((back_to_itself_iff W range.to_below start).1 (so_far.leads start h))
        go false h =
            sym
            (false_unless_true (back_to_itself W start) (λ back.
            true≢false
            (sym
            (led_to_marked ((back_to_itself_iff W range.to_below start).0 back)
            (or_left (eqb start start) (marked marks start) (eq-eqb start start refl)))
            ∙ h)))

  -- All are marked, the start too.
  pub all_marked : (marks : List Bool) → start < W.tasks → MarkedSoFar W start marks 0 → true ≡ back_to_itself W start
  all_marked marks task so_far =
      sym
      ((back_to_itself_iff W range.to_below start).1
      (so_far.leads start (none_unmarked (marked marks) W.tasks (sym so_far.count) start task)))

-- The first that leads back to itself is the lowest that does, and there is one.
module _ (W : Workflow) (range : InRange W) (some : cyclic W ≡ true) (task : ℕ)
    (others : (k : ℕ) → k < task → back_to_itself W k ≡ true → ⊥) where
  not_below : task ≤ lowest_in_cycle W
  not_below =
      let low = lowest_in_cycle_lowest W range.to_below some in
      ⊎_elim (λ (q : task ≤ lowest_in_cycle W). q)
      (λ (q : lowest_in_cycle W + 1 ≤ task).
      absurd (others (lowest_in_cycle W) (omega arith) ((back_to_itself_iff W range.to_below (lowest_in_cycle W)).1 low.leads_back)))
      (below_or_on task (lowest_in_cycle W))

  pub first_is_lowest : true ≡ back_to_itself W task → task ≡ lowest_in_cycle W
  first_is_lowest back =
      let low = lowest_in_cycle_lowest W range.to_below some in
      omega (arith, not_below, low.lowest task ((back_to_itself_iff W range.to_below task).0 (sym back)))

  pub some_before_last : task < W.tasks
  some_before_last = omega (arith, not_below, (lowest_in_cycle_lowest W range.to_below some).task)
