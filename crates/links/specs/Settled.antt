-- Two exits of the arrays that the contract allows are one: the links are settled.
use Rattle.std.specs.Prelude.{ℕ, ◌≤◌, ◌-◌, ◌≡◌, List}
use Rattle.std.proofs.Common.{sym, ◌∙◌, arith, ext_get_or}
use Rattle.std.proofs.Math.Decide.{dec_le}
use Rattle.rules.specs.Workflow.{Workflow}
use Rattle.laws.specs.Stores.{at}
use Rattle.links.specs.Links.{LastInto, LinkedAll}

module _ (W : Workflow) where
  -- No edge is the last where a later one leads to the task.
  not_later : (i k r t : ℕ) → LastInto W i k r → LastInto W i k t → t ≤ r
  not_later i k r t a b = go (dec_le t r)
    where
      go : Dec (t ≤ r) → t ≤ r
      go (yes h) = h
      go (no h) =
          absurd (a.none_after (t - 1) (omega arith) (omega (arith, b.within)) (b.leads (t - 1) (omega arith)))

  last_into_settled : (i k r t : ℕ) → LastInto W i k r → LastInto W i k t → r ≡ t
  last_into_settled i k r t a b = omega (arith, not_later i k r t a b, not_later i k t r b a)

  module _ {last before last' before' : List ℕ} (one : LinkedAll W last before) (other : LinkedAll W last' before') where
    before_same : (e : ℕ) → Dec (W.edges ≤ e) → at before e ≡ at before' e
    before_same e (yes h) = one.none_beyond e h ∙ sym (other.none_beyond e h)
    before_same e (no h) = last_into_settled (W.to e) e _ _ (one.before_into e (omega arith)) (other.before_into e (omega arith))

    pub links_settled : (last ≡ last') × (before ≡ before')
    links_settled = (
      ext_get_or 0 last last' (one.tasks ∙ sym other.tasks) (λ i l. last_into_settled i W.edges _ _ (one.last_into i) (other.last_into i)),
      ext_get_or 0 before before' (one.edges ∙ sym other.edges) (λ e l. before_same e (dec_le W.edges e)),
    )
