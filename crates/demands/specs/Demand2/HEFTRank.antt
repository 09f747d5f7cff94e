-- "This is m times HEFT's rank, so nothing is rounded": R over m satisfies the equation of HEFT's rank as fractions, with the mean of the minutes as
-- their sum over m.
use Rattle.std.specs.Prelude.{ℕ, ◌+◌, ◌*◌, ◌<◌, ◌≡◌, refl, Bool, true, false, cond, ◌⊎◌, eqb}
use Rattle.std.proofs.Common.{sym, ap, ◌∙◌, inl, inr, ⊎_elim, mul-le-mul_right, arith, eqb-true, eq-eqb}
use Rattle.std.proofs.lemmas.Bool.{false≢true}
use Rattle.rules.specs.Folds.{sum, largest, any}
use Rattle.rules.specs.Workflow.{Workflow}
use Rattle.rules.specs.Cycle.{Leads}
use Rattle.rules.specs.Ranks.{rank_by, R}
use Rattle.laws.specs.Tests.{false_unless_true}
use Rattle.laws.specs.Any.{any_attained, any_holds}
use Rattle.laws.specs.Folds.{at_most_largest, largest_of_none, largest_attained}
use Rattle.laws.specs.Ranks.{R_equation}
use Rattle.demands.specs.Ground.GoodWorkflow.{GoodWorkflow}
use Rattle.demands.specs.Demand2.Order.{R_at_least}
use Rattle.demands.specs.Demand2.Worthiness.{Fraction, plus, AtMost}

abbrev pub Same : Fraction → Fraction → Type 0
Same x y = x.over * y.under ≡ y.over * x.under

module _ (W : Workflow) where
  abbrev pub mean : ℕ → Fraction
  mean i = record { over = sum W.processors (W.minutes i); under = W.processors }

  -- The mean, the transfer on edge e, and the rank of the task that it leads to.
  abbrev pub along : (ℕ → Fraction) → ℕ → Fraction
  along rank e = plus (mean (W.from e)) (plus (record { over = W.transfer e; under = 1 }) (rank (W.to e)))

  -- The one without successors, or else the other of an edge from i.
  abbrev pub Through : ℕ → Type 0 → (ℕ → Type 0) → Type 0
  Through i alone by_edge =
      (((e : ℕ) → e < W.edges → W.from e ≡ i → ⊥) × alone) ⊎ ((e : ℕ) × (e < W.edges) × (W.from e ≡ i) × by_edge e)

  -- rank(i) is the mean of w(i, j) plus the largest over edges i to k of c(i, k) + rank(k); the mean alone without successors.
  pub record HEFTRank (rank : ℕ → Fraction) : Type 0 where
    pub at_least : (e : ℕ) → e < W.edges → AtMost (along rank e) (rank (W.from e))
    pub attained : (i : ℕ) → i < W.tasks → Through i (Same (rank i) (mean i)) (λ e. Same (rank i) (along rank e))

  module _ (good : GoodWorkflow W) (acyclic : (i : ℕ) → Leads W i i → ⊥) where
    abbrev m : ℕ
    m = W.processors

    abbrev onward : ℕ → ℕ → ℕ
    onward i e = cond (eqb (W.from e) i) (m * W.transfer e + R W (W.to e)) 0

    equation : (i : ℕ) → i < W.tasks → R W i ≡ sum m (W.minutes i) + largest W.edges (onward i)
    unfolding rank_by
    equation = R_equation W good.to acyclic

    onward_of : (e : ℕ) → onward (W.from e) e ≡ m * W.transfer e + R W (W.to e)
    onward_of e = rw (eq-eqb (W.from e) (W.from e) refl)

    pub R_attained :
        (i : ℕ) → i < W.tasks
        → Through i (R W i ≡ sum m (W.minutes i)) (λ e. R W i ≡ sum m (W.minutes (W.from e)) + (m * W.transfer e + R W (W.to e)))
    R_attained i l = go (any W.edges (λ e. eqb (W.from e) i)) refl
      where
        Attained : Type 0
        Attained = Through i (R W i ≡ sum m (W.minutes i)) (λ e. R W i ≡ sum m (W.minutes (W.from e)) + (m * W.transfer e + R W (W.to e)))

        -- Along an edge of i that has the largest.
        by_edge : (e : ℕ) → e < W.edges → W.from e ≡ i → onward i e ≡ largest W.edges (onward i) → Attained
        by_edge e k from_i largest_is =
            inr (e, k, from_i, rw from_i (omega (arith, equation i l, rw (eq-eqb (W.from e) i from_i) at largest_is)))

        -- The largest is that of an edge of i, or 0: then it is that of every edge of i.
        go : (t : Bool) → any W.edges (λ e. eqb (W.from e) i) ≡ t → Attained
        go false none =
            let of_others : (e : ℕ) → e < W.edges → eqb (W.from e) i ≡ false = λ e k.
            false_unless_true (eqb (W.from e) i) (λ h. false≢true (sym none ∙ any_holds W.edges (λ e. eqb (W.from e) i) e k h)) in
            inl (
              λ e k from_i. false≢true (sym (of_others e k) ∙ eq-eqb (W.from e) i from_i),
              omega (arith, equation i l, largest_of_none W.edges (onward i) (λ e k. rw (of_others e k))),
            )
        go true some =
            let (e, k, from_i) = any_attained W.edges (λ e. eqb (W.from e) i) some in
            let (e', k', largest_is) = largest_attained W.edges (onward i) (omega arith) in
            either e k (eqb-true (W.from e) i from_i) e' k' largest_is (eqb (W.from e') i) refl
          where
            either :
                (e : ℕ) → e < W.edges → W.from e ≡ i → (e' : ℕ) → e' < W.edges → onward i e' ≡ largest W.edges (onward i)
                → (t : Bool) → eqb (W.from e') i ≡ t → Attained
            either e k from_i e' k' largest_is true from_i' = by_edge e' k' (eqb-true (W.from e') i from_i') largest_is
            either e k from_i e' k' largest_is false other =
                by_edge e k from_i (omega (arith, rw other at largest_is, at_most_largest W.edges (onward i) e k))

    -- R over m is HEFT's rank.
    pub R_is_m_times_HEFTs : HEFTRank (λ i. record { over = R W i; under = m })
    R_is_m_times_HEFTs =
        record {
          at_least = λ e l. omega (arith, mul-le-mul_right (m * m) (R_at_least W good acyclic e l));
          attained = λ i l.
              ⊎_elim (λ w. inl (w.0, ap (λ x. x * m) w.1))
              (λ w. inr (w.0, w.1, w.2, omega (arith, ap (λ x. x * (m * m)) w.3))) (R_attained i l);
        }
