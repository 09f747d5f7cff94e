-- The ranks known stay right as one more becomes known.
use Rattle.std.specs.Prelude.{ℕ, suc, ◌+◌, ◌*◌, ◌-◌, ◌≤◌, ◌<◌, ◌≡◌, refl, Bool, true, false, cond, ◌||◌, ◌⊎◌, List, ltb, eqb, set}
use Rattle.std.proofs.Common.{sym, ap, ◌∙◌, subst, inl, inr, ⊎_elim, arith, length-set, lt-ltb, eq-eqb, ne_eqb, eqb-true}
use Rattle.rules.specs.Workflow.{Workflow}
use Rattle.rules.specs.Cycle.{Leads, edge, along}
use Rattle.rules.specs.Ranks.{rank_by}
use Rattle.good.specs.Ranges.{InRange}
use Rattle.laws.specs.Bounds.{rank_added_most}
use Rattle.laws.specs.Folds.{sum_same}
use Rattle.laws.specs.Unmarked.{count_unmarked, and_marked, sum_unmarked_less}
use Rattle.laws.specs.Ranks.{rank_by_same}
use Rattle.laws.specs.Stores.{stored, at}
use Rattle.laws.specs.Turned.{Turned}
use Rattle.ranking.specs.Ranked.{has_rank, rank_in, RankedSoFar, Unknown, HeldUp}
use Rattle.ranking.specs.RankBounds.{rank_within_more}

module _ (W : Workflow) (range : InRange W) where
  -- One rank more is known.
  module _ (ranks : List ℕ) (left i r : ℕ) (so_far : RankedSoFar W ranks left) (task : i < W.tasks) (unknown : Unknown ranks i)
      (is : r ≡ suc (rank_by W (rank_in ranks) i)) (successors : (e : ℕ) → e < W.edges → W.from e ≡ i → 1 ≤ at ranks (W.to e)) where
    at_now : (k : ℕ) → at (set ranks i r) k ≡ cond (eqb i k) r (at ranks k)
    at_now k = stored ranks i r 0 k (omega (arith, so_far.size, range.tasks_in.to_high))

    at_least_one : 1 ≤ r
    at_least_one = omega (arith, is)

    known_stays : (k : ℕ) → 1 ≤ at ranks k → at (set ranks i r) k ≡ at ranks k
    known_stays k known = at_now k ∙ go (eqb i k) refl
      where
        go : (t : Bool) → eqb i k ≡ t → cond t r (at ranks k) ≡ at ranks k
        go true e = absurd (omega (arith, unknown, ap (at ranks) (eqb-true i k e)))
        go false e = refl

    same_at : (k : ℕ) → (i ≡ k) ⊎ (at (set ranks i r) k ≡ at ranks k)
    same_at k = go (eqb i k) refl
      where
        go : (t : Bool) → eqb i k ≡ t → (i ≡ k) ⊎ (at (set ranks i r) k ≡ at ranks k)
        go true e = inl (eqb-true i k e)
        go false e = inr (at_now k ∙ rw e)

    at_itself : at (set ranks i r) i ≡ r
    at_itself = at_now i ∙ rw (eq-eqb i i refl)

    count_now : count_unmarked W.tasks (has_rank (set ranks i r)) + 1 ≡ left
    count_now =
        let same : count_unmarked W.tasks (has_rank (set ranks i r)) ≡ count_unmarked W.tasks (and_marked i (has_rank ranks)) =
        sum_same W.tasks (λ k. cond (has_rank (set ranks i r) k) 0 1) (λ k. cond (and_marked i (has_rank ranks) k) 0 1)
        (λ k l. ap (λ t. cond t 0 1) (ap (ltb 0) (at_now k) ∙ go k (eqb i k))) in
        omega (arith, sum_unmarked_less (has_rank ranks) (λ k. 1) W.tasks i task (ap (ltb 0) unknown), so_far.count)
      where
        go : (k : ℕ) (t : Bool) → ltb 0 (cond t r (at ranks k)) ≡ (t || ltb 0 (at ranks k))
        go k true = lt-ltb 0 r at_least_one
        go k false = refl

    pub some_left : 1 ≤ left
    some_left = omega (arith, count_now)

    same_by :
        (k : ℕ) → ((e : ℕ) → e < W.edges → W.from e ≡ k → 1 ≤ at ranks (W.to e))
        → rank_by W (rank_in ranks) k ≡ rank_by W (rank_in (set ranks i r)) k
    same_by k known =
        rank_by_same W (rank_in ranks) (rank_in (set ranks i r)) k
        (λ e b from. ap (λ z. z - 1) (sym (known_stays (W.to e) (known e b from))))

    equation_now : (k : ℕ) → k < W.tasks → 1 ≤ at (set ranks i r) k → at (set ranks i r) k ≡ suc (rank_by W (rank_in (set ranks i r)) k)
    equation_now k l known =
        ⊎_elim
        (λ (q : i ≡ k).
        subst (λ x. at (set ranks i r) x ≡ suc (rank_by W (rank_in (set ranks i r)) x)) q
        (at_itself ∙ is ∙ ap suc (same_by i successors)))
        (λ (same : at (set ranks i r) k ≡ at ranks k).
        let known_before : 1 ≤ at ranks k = omega arith in
        same ∙ so_far.equation k l known_before ∙ ap suc (same_by k (λ e b from. so_far.successors e b (rw from known_before))))
        (same_at k)

    successors_now : (e : ℕ) → e < W.edges → 1 ≤ at (set ranks i r) (W.from e) → 1 ≤ at (set ranks i r) (W.to e)
    successors_now e l known =
        let known_before : 1 ≤ at ranks (W.to e) =
        ⊎_elim (λ (q : i ≡ W.from e). successors e l (sym q))
        (λ (same : at (set ranks i r) (W.from e) ≡ at ranks (W.from e)). so_far.successors e l (omega arith))
        (same_at (W.from e)) in
        omega (arith, known_stays (W.to e) known_before)

    -- Whatever a ranked task led to was ranked, and so was whatever i leads to. So i, which was not, does not lead back to itself.
    reached : {j k : ℕ} → Leads W j k → 1 ≤ at ranks j → 1 ≤ at ranks k
    reached (edge e l) known = so_far.successors e l known
    reached (along e l p) known = reached p (so_far.successors e l known)

    reached_from_here : {j k : ℕ} → Leads W j k → j ≡ i → 1 ≤ at ranks k
    reached_from_here (edge e l) here = successors e l here
    reached_from_here (along e l p) here = reached p (successors e l here)

    none_back_now : (k : ℕ) → 1 ≤ at (set ranks i r) k → Leads W k k → ⊥
    none_back_now k known back =
        ⊎_elim (λ (q : i ≡ k). omega (arith, reached_from_here back (sym q), ap (at ranks) q, unknown))
        (λ (same : at (set ranks i r) k ≡ at ranks k). so_far.none_back k (omega arith) back)
        (same_at k)

    at_most_now : (k : ℕ) → rank_in (set ranks i r) k + rank_added_most * (left - 1) ≤ rank_added_most * W.tasks
    at_most_now k =
        let some : 1 ≤ left = some_left in
        ⊎_elim
        (λ (q : i ≡ k).
        let most : rank_by W (rank_in ranks) i ≤ rank_added_most + (rank_added_most * W.tasks - rank_added_most * left) =
        rank_within_more W range (rank_in ranks) (rank_added_most * W.tasks - rank_added_most * left) (λ j. omega (arith, so_far.at_most j)) i in
        omega (arith, ap (at (set ranks i r)) q, at_itself, is, so_far.at_most i))
        (λ (same : at (set ranks i r) k ≡ at ranks k). omega (arith, so_far.at_most k))
        (same_at k)

    past_now : (k : ℕ) → W.tasks ≤ k → at (set ranks i r) k ≡ 0
    past_now k l = at_now k ∙ rw (ne_eqb i k (λ q. omega arith)) (so_far.past k l)

    ranked_more : RankedSoFar W (set ranks i r) (left - 1)
    ranked_more =
        record {
          size = length-set ranks i r ∙ so_far.size;
          count = omega (arith, count_now);
          equation = equation_now;
          successors = successors_now;
          none_back = none_back_now;
          past = past_now;
          at_most = at_most_now;
        }

    pub rank_turned : Turned (RankedSoFar W) (λ xs. HeldUp W xs i) ranks (set ranks i r) left (left - 1)
    rank_turned = record { kept = ranked_more; fewer_or_still = inl (omega (arith, count_now)) }
