-- The edges of a task, passed one after the other: what the largest over them comes to, while each leads to a task that has its rank.
use Prim.Native.Nat.{ℕ, suc, ◌+◌, ◌*◌, ◌-◌, ◌≤◌, ◌<◌, max}
use Rattle.std.specs.Prelude.{◌≡◌, List}
use Rattle.std.proofs.Common.{sym, ap, ◌∙◌, arith, eq-eqb, ne_eqb}
use Rattle.std.proofs.Math.Logic.{⊎_elim}
use Rattle.rules.specs.Folds.{sum, largest}
use Rattle.rules.specs.Workflow.{Workflow}
use Rattle.rules.specs.Ranks.{rank_by}
use Rattle.good.specs.Ranges.{InRange}
use Rattle.laws.specs.Bounds.{rank_most}
use Rattle.laws.specs.Folds.{largest_next, largest_of_none, largest_further}
use Rattle.laws.specs.Numbers.{below_or_on}
use Rattle.successors.specs.Begins.{Begins, from_between}
use Rattle.laws.specs.Stores.{at}
use Rattle.ranking.specs.Ranked.{rank_in, NextRank}
use Rattle.ranking.specs.RankBounds.{over_edge, transfer_within}

-- Those from `begin` to before e are passed, of those that end at `end`.
pub record Passed (W : Workflow) (ranks : List ℕ) (task begin end e most : ℕ) : Type 0 where
  pub from_begin : begin ≤ e
  pub to_end : e ≤ end
  pub largest_is : most ≡ largest e (over_edge W (rank_in ranks) task)
  pub known : (k : ℕ) → begin ≤ k → k < e → 1 ≤ at ranks (W.to k)
  pub at_most : most ≤ 16_000 + rank_most

module _ (W : Workflow) (range : InRange W) (ranks : List ℕ) (task begin end : ℕ)
    (first : Begins W task begin) (last : Begins W (task + 1) end) where
  pub passed_none : Passed W ranks task begin end begin 0
  passed_none =
      record {
        from_begin = omega arith;
        to_end =
            ⊎_elim (λ (q : begin ≤ end). q)
            (λ (q : end + 1 ≤ begin).
            omega (arith, first.before end (omega arith), last.onward end (omega arith) (omega (arith, first.within))))
            (below_or_on begin end);
        largest_is =
            sym
            (largest_of_none begin (over_edge W (rank_in ranks) task) (λ k l. rw (ne_eqb (W.from k) task (λ q. omega (arith, first.before k l)))));
        known = λ k l m. absurd (omega arith);
        at_most = omega arith;
      }

  module _ (e : ℕ) (below : e < end) where
    edge_below : e < W.edges
    edge_below = omega (arith, last.within)

    pub passed_more :
        {most onward next : ℕ} → Passed W ranks task begin end e most → onward ≡ at ranks (W.to e) → 1 ≤ onward → onward ≤ 1 + rank_most
        → next ≡ max most (W.processors * W.transfer e + (onward - 1)) → Passed W ranks task begin end (e + 1) next
    passed_more {most} {onward} {next} so_far there known few is =
        let from : W.from e ≡ task = from_between W range task begin end e first last so_far.from_begin below in
        let adds : W.processors * W.transfer e + (onward - 1) ≡ over_edge W (rank_in ranks) task e =
        ap (λ z. W.processors * W.transfer e + (z - 1)) there ∙ rw (eq-eqb (W.from e) task from) in
        record {
          from_begin = omega (arith, so_far.from_begin);
          to_end = omega arith;
          largest_is = largest_next e (over_edge W (rank_in ranks) task) so_far.largest_is (is ∙ ap (max most) adds);
          known =
              λ k l m.
              ⊎_elim (λ (q : e ≤ k). let same : k ≡ e = omega arith in rw same (omega arith)) (λ (q : k + 1 ≤ e). so_far.known k l (omega arith))
              (below_or_on e k);
          at_most = omega (arith, so_far.at_most, transfer_within W range e);
        }

    pub held_up_here : begin ≤ e → at ranks (W.to e) ≡ 0 → NextRank W ranks task 0
    held_up_here l unknown =
        record {
          due = λ known. absurd (omega arith);
          not_due = λ none. (e, edge_below, from_between W range task begin end e first last l below, unknown);
        }

  pub passed_all :
      {most r : ℕ} → Passed W ranks task begin end end most → r ≡ sum W.processors (W.minutes task) + most + 1
      → NextRank W ranks task r
  unfolding rank_by
  passed_all {most} {r} all is =
      let rest : largest W.edges (over_edge W (rank_in ranks) task) ≡ largest end (over_edge W (rank_in ranks) task) =
      largest_further end W.edges (over_edge W (rank_in ranks) task) last.within
      (λ k l m. rw (ne_eqb (W.from k) task (λ q. omega (arith, last.onward k l m)))) in
      let equation : r ≡ suc (rank_by W (rank_in ranks) task) = omega (arith, is, all.largest_is, rest) in
      record {
        due = λ known. (equation, λ e b from. all.known e (not_before e from) (not_after e b from));
        not_due = λ none. absurd (omega (arith, equation));
      }
    where
      not_before : (e : ℕ) → W.from e ≡ task → begin ≤ e
      not_before e from =
          ⊎_elim (λ (q : begin ≤ e). q) (λ (q : e + 1 ≤ begin). omega (arith, first.before e (omega arith))) (below_or_on begin e)

      not_after : (e : ℕ) → e < W.edges → W.from e ≡ task → e < end
      not_after e b from =
          ⊎_elim (λ (q : end ≤ e). omega (arith, last.onward e q b)) (λ (q : e + 1 ≤ end). omega arith) (below_or_on end e)
