-- At first no rank is known. Once all are known they are R, and there is no cycle; while some are not and each of those has a successor
-- that is not, there is one.
use Rattle.std.specs.Prelude.{ℕ, ◌+◌, ◌≤◌, ◌<◌, ◌≡◌, refl, true, false, cond, List, replicate}
use Rattle.std.proofs.Common.{sym, ◌∙◌, subst, true≢false, ⊎_elim, arith, ltb-true, ltb-false}
use Rattle.std.proofs.lemmas.Bool.{false≢true}
use Rattle.rules.specs.Workflow.{Workflow}
use Rattle.rules.specs.Cycle.{Leads, cyclic}
use Rattle.rules.specs.Ranks.{rank_by}
use Rattle.good.specs.Ranges.{InRange}
use Rattle.laws.specs.Bounds.{rank_most}
use Rattle.laws.specs.Tests.{false_unless_true}
use Rattle.laws.specs.Folds.{sum_same}
use Rattle.laws.specs.Unmarked.{count_unmarked_at_first, some_unmarked, none_unmarked}
use Rattle.laws.specs.Cycles.{cyclic_iff, leads_to_task}
use Rattle.laws.specs.Onward.{some_leads_back}
use Rattle.laws.specs.Ranks.{R_unique}
use Rattle.laws.specs.Stores.{repeated, at}
use Rattle.laws.specs.Numbers.{below_or_on}
use Rattle.ranking.specs.Ranked.{has_rank, rank_in, RankedSoFar, Unknown, HeldUp, AllHeldUp, RankedAs}

module _ (W : Workflow) (range : InRange W) where
  pub known_at_most : (ranks : List ℕ) (left : ℕ) → RankedSoFar W ranks left → (k : ℕ) → at ranks k ≤ 1 + rank_most
  known_at_most ranks left so_far k = omega (arith, so_far.at_most k, range.tasks_in.to_high)

  -- At first no rank is known.
  pub ranked_none : RankedSoFar W (replicate 64 0) W.tasks
  ranked_none =
      let none : (i : ℕ) → at (replicate 64 0) i ≡ 0 = repeated 64 0 in
      record {
        size = refl;
        count =
            sym
            (sum_same W.tasks (λ i. cond (has_rank (replicate 64 0) i) 0 1) (λ i. 1) (λ i l. rw (none i)) ∙ count_unmarked_at_first W.tasks);
        equation = λ i l known. absurd (omega (arith, none i));
        successors = λ e l known. absurd (omega (arith, none (W.from e)));
        none_back = λ i known. absurd (omega (arith, none i));
        past = λ i l. none i;
        at_most = λ i. omega (arith, none i);
      }

  -- All are known.
  module _ (ranks : List ℕ) (so_far : RankedSoFar W ranks 0) where
    all_known : (i : ℕ) → i < W.tasks → 1 ≤ at ranks i
    all_known i l = ltb-true 0 (at ranks i) (none_unmarked (has_rank ranks) W.tasks (sym so_far.count) i l)

    all_by : (i : ℕ) → i < W.tasks → rank_in ranks i ≡ rank_by W (rank_in ranks) i
    all_by i l = omega (arith, so_far.equation i l (all_known i l))

    none_leads_back : (i : ℕ) → Leads W i i → ⊥
    none_leads_back i back = so_far.none_back i (all_known i (leads_to_task W range.to_below back)) back

    not_cyclic : cyclic W ≡ false
    not_cyclic =
        false_unless_true (cyclic W) (λ h. let w = (cyclic_iff W range.to_below).0 h in none_leads_back w.0 w.2)

    pub ranked_all : RankedAs W ranks true
    ranked_all =
        record {
          all_unless_cyclic = rw not_cyclic;
          size = so_far.size;
          ranks_are =
              λ all i l. omega (arith, all_known i l, R_unique W range.to_below none_leads_back (rank_in ranks) all_by i l);
          past = so_far.past;
          none_with_cycle = λ not_all. absurd (true≢false not_all);
          at_most = known_at_most ranks 0 so_far;
        }

  -- Some are not known, and each of them is held up.
  module _ (ranks : List ℕ) (left : ℕ) (so_far : RankedSoFar W ranks left) (some : 1 ≤ left) (held_up : AllHeldUp W 0 ranks) where
    is_cyclic : cyclic W ≡ true
    is_cyclic =
        let (i, l, none) = some_unmarked (has_rank ranks) W.tasks (omega (arith, so_far.count)) in
        let unknown : Unknown ranks i = omega (arith, ltb-false 0 (at ranks i) none) in
        (cyclic_iff W range.to_below).1
        (some_leads_back W range.to_below (Unknown ranks) (λ k below. held_up k (omega arith) below) i l unknown)

    pub ranked_not_all : RankedAs W (replicate 64 0) false
    ranked_not_all =
        let none : (i : ℕ) → at (replicate 64 0) i ≡ 0 = repeated 64 0 in
        record {
          all_unless_cyclic = rw is_cyclic;
          size = refl;
          ranks_are = λ all. absurd (false≢true all);
          past = λ i l. none i;
          none_with_cycle = λ not_all. none;
          at_most = λ i. omega (arith, none i);
        }

-- One task more is seen to be held up, from the highest down.
pub held_up_from :
    (W : Workflow) (task : ℕ) (ranks : List ℕ) → AllHeldUp W (task + 1) ranks → HeldUp W ranks task → AllHeldUp W task ranks
held_up_from W task ranks onward here i l below =
    ⊎_elim (λ (q : i ≤ task). let same : task ≡ i = omega arith in subst (HeldUp W ranks) same here)
    (λ (q : task + 1 ≤ i). onward i q below) (below_or_on i task)
