-- The links of one edge more.
use Rattle.std.specs.Prelude.{ℕ, ◌+◌, ◌<◌, ◌≡◌, refl, cond, List, eqb, set, replicate}
use Rattle.std.proofs.Common.{sym, ap, subst, ◌∙◌, ⊎_elim, eq-or-lt_of_le, arith, length-set, eq-eqb, ne_eqb}
use Rattle.std.proofs.Math.Decide.{ℕ_discrete}
use Rattle.rules.specs.Workflow.{Workflow}
use Rattle.laws.specs.Stores.{stored, repeated, at}
use Rattle.links.specs.Links.{LastInto, Linked}

module _ (W : Workflow) where
  -- Of no edges none is the last.
  pub linked_first : Linked W 0 (replicate 64 0) (replicate 512 0)
  linked_first =
      record {
        tasks = refl;
        edges = refl;
        last_into = λ i. rw (repeated {A = ℕ} 64 0 i) (record { within = omega arith; leads = λ e h. absurd (omega arith); none_after = λ e h l. absurd (omega arith) });
        before_into = λ e l. absurd (omega arith);
        none_beyond = λ e h. repeated {A = ℕ} 512 0 e;
      }

  module _ (k : ℕ) (last before : List ℕ) (linked : Linked W k last before) (room : k < 512) (i : ℕ) (to : W.to k ≡ i) (below : i < 64) where
    -- The edge that is passed is now the last into its task, and for the other tasks nothing has changed.
    last_next : (t : ℕ) → Dec (i ≡ t) → LastInto W t (k + 1) (cond (eqb i t) (k + 1) (at last t))
    last_next t (yes e) =
        rw (eq-eqb i t e)
        (record { within = omega arith; leads = λ x h. ap W.to (omega arith) ∙ (to ∙ e); none_after = λ x h l. absurd (omega arith) })
    last_next t (no n) =
        let so_far = linked.last_into t in
        rw (ne_eqb i t n)
        (record {
          within = omega (arith, so_far.within);
          leads = so_far.leads;
          none_after = λ x h l q. ⊎_elim (λ (e : x ≡ k). n (sym to ∙ (ap W.to (sym e) ∙ q))) (λ (m : x < k). so_far.none_after x h m q) (eq-or-lt_of_le (omega arith));
        })

    pub linked_next : Linked W (k + 1) (set last i (k + 1)) (set before k (at last i))
    linked_next =
        record {
          tasks = length-set last i (k + 1) ∙ linked.tasks;
          edges = length-set before k (at last i) ∙ linked.edges;
          last_into = λ t. rw (stored last i (k + 1) 0 t (omega (arith, linked.tasks))) (last_next t (ℕ_discrete i t));
          before_into = λ e l. rw (stored before k (at last i) 0 e (omega (arith, linked.edges))) (before_next e l (ℕ_discrete k e));
          none_beyond = λ e h.
              stored before k (at last i) 0 e (omega (arith, linked.edges)) ∙ (rw (ne_eqb k e (λ q. omega arith)) (linked.none_beyond e (omega arith)));
        }
      where
        before_next : (e : ℕ) → e < k + 1 → Dec (k ≡ e) → LastInto W (W.to e) e (cond (eqb k e) (at last i) (at before e))
        before_next e l (yes q) = rw (eq-eqb k e q, ← q, to) (linked.last_into i)
        before_next e l (no n) = rw (ne_eqb k e n) (linked.before_into e (omega arith))

-- At last all edges are passed.
pub linked_all : (W : Workflow) (k : ℕ) (last before : List ℕ) → k ≡ W.edges → Linked W k last before → Linked W W.edges last before
linked_all W k last before e linked = subst (λ n. Linked W n last before) e linked
