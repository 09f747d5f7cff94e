-- Two answers of ranking that the contract allows are one answer: it settles whether all are ranked, and every number of the array.
use Rattle.std.specs.Prelude.{ℕ, ◌+◌, ◌≤◌, ◌≡◌, refl, Bool, true, false, List}
use Rattle.std.proofs.Common.{sym, ◌∙◌, ⊎_elim, arith, ext_get_or}
use Rattle.rules.specs.Workflow.{Workflow}
use Rattle.laws.specs.Numbers.{below_or_on}
use Rattle.laws.specs.Stores.{at}
use Rattle.ranking.specs.Ranked.{RankedAs}

module _ (W : Workflow) {ranks ranks' : List ℕ} {all all' : Bool} (one : RankedAs W ranks all) (other : RankedAs W ranks' all') where
  all_same : all ≡ all'
  all_same = one.all_unless_cyclic ∙ sym other.all_unless_cyclic

  rank_same : (i : ℕ) → at ranks i ≡ at ranks' i
  rank_same i = go all refl
    where
      go : (t : Bool) → all ≡ t → at ranks i ≡ at ranks' i
      go true ranked =
          ⊎_elim (λ (past : W.tasks ≤ i). one.past i past ∙ sym (other.past i past))
          (λ (below : i + 1 ≤ W.tasks).
          one.ranks_are ranked i (omega arith) ∙ sym (other.ranks_are (sym all_same ∙ ranked) i (omega arith)))
          (below_or_on W.tasks i)
      go false not_all = one.none_with_cycle not_all i ∙ sym (other.none_with_cycle (sym all_same ∙ not_all) i)

  pub ranked_settled : (ranks ≡ ranks') × (all ≡ all')
  ranked_settled = (ext_get_or 0 ranks ranks' (one.size ∙ sym other.size) (λ i l. rank_same i), all_same)
