-- HEFT's rank is settled: whatever fractions satisfy its equation are R over m. From the successors of each task to the task.
use Rattle.std.specs.Prelude.{ℕ, ◌+◌, ◌*◌, ◌≤◌, ◌<◌, ◌≡◌}
use Rattle.std.proofs.Common.{sym, ap, ◌∙◌, subst, inl, inr, mul-le-mul_right, le_of_mul-le-mul_right, arith}
use Rattle.rules.specs.Folds.{sum}
use Rattle.rules.specs.Workflow.{Workflow}
use Rattle.rules.specs.Cycle.{Leads}
use Rattle.rules.specs.Ranks.{R}
use Rattle.laws.specs.Onward.{holds_at_last}
use Rattle.demands.specs.Ground.GoodWorkflow.{GoodWorkflow}
use Rattle.demands.specs.Demand2.Order.{R_at_least}
use Rattle.demands.specs.Demand2.Worthiness.{Fraction, plus, AtMost}
use Rattle.demands.specs.Demand2.HEFTRank.{Same, mean, along, Through, HEFTRank, R_attained}

-- The fraction p / u against the mean s / m, the transfer c and the next rank n / v, which is r / m.
module _ (m s c p u n v r : ℕ) (some : 1 ≤ v) (next : n * m ≡ r * v) where
  abbrev sum_along : Fraction
  sum_along = plus (record { over = s; under = m }) (plus (record { over = c; under = 1 }) (record { over = n; under = v }))

  at_most_along : AtMost (record { over = p; under = u }) sum_along → p * m ≤ (s + (m * c + r)) * u
  at_most_along h = le_of_mul-le-mul_right {k = v} (omega (arith, h, ap (λ x. x * u) next)) some

  at_least_along : AtMost sum_along (record { over = p; under = u }) → (s + (m * c + r)) * u ≤ p * m
  at_least_along h = le_of_mul-le-mul_right {k = v} (omega (arith, h, ap (λ x. x * u) next)) some

module _ (W : Workflow) (good : GoodWorkflow W) (acyclic : (i : ℕ) → Leads W i i → ⊥) (rank : ℕ → Fraction)
    (positive : (i : ℕ) → i < W.tasks → 1 ≤ (rank i).under) (heft : HEFTRank W rank) where
  abbrev m : ℕ
  m = W.processors

  abbrev IsR : ℕ → Type 0
  IsR i = (rank i).over * m ≡ R W i * (rank i).under

  module _ (e : ℕ) (l : e < W.edges) (next : IsR (W.to e)) where
    some : 1 ≤ (rank (W.to e)).under
    some = positive (W.to e) (good.to e l)

    -- The rank of the edge's first task, if it is attained along e, is at most R over m; and it is at least what R is along e.
    attained_at_most : Same (rank (W.from e)) (along W rank e) → (rank (W.from e)).over * m ≤ R W (W.from e) * (rank (W.from e)).under
    attained_at_most same =
        let u = (rank (W.from e)).under in
        let at_most : AtMost (rank (W.from e)) (along W rank e) = omega (arith, same) in
        let here = at_most_along m _ (W.transfer e) (rank (W.from e)).over u _ _ (R W (W.to e)) some next at_most in
        omega (arith, here, mul-le-mul_right u (R_at_least W good acyclic e l))

    at_least_attained :
        R W (W.from e) ≡ sum m (W.minutes (W.from e)) + (m * W.transfer e + R W (W.to e))
        → R W (W.from e) * (rank (W.from e)).under ≤ (rank (W.from e)).over * m
    at_least_attained is =
        let u = (rank (W.from e)).under in
        let here = at_least_along m _ (W.transfer e) (rank (W.from e)).over u _ _ (R W (W.to e)) some next (heft.at_least e l) in
        omega (arith, here, ap (λ x. x * u) is)

  is_R : (i : ℕ) → i < W.tasks → ((e : ℕ) → e < W.edges → W.from e ≡ i → IsR (W.to e)) → IsR i
  is_R i l onward = go onward (heft.attained i l) (R_attained W good acyclic i l)
    where
      go :
          ((e : ℕ) → e < W.edges → W.from e ≡ i → IsR (W.to e))
          → Through W i (Same (rank i) (mean W i)) (λ e. Same (rank i) (along W rank e))
          → Through W i (R W i ≡ sum m (W.minutes i)) (λ e. R W i ≡ sum m (W.minutes (W.from e)) + (m * W.transfer e + R W (W.to e)))
          → IsR i
      go next (inl (none, same)) (inl (none', is)) = rw is same
      go next (inl (none, same)) (inr (e, k, from_i, is)) = absurd (none e k from_i)
      go next (inr (e, k, from_i, same)) (inl (none, is)) = absurd (none e k from_i)
      go next (inr (e, k, from_i, same)) (inr (e', k', from_i', is)) =
          let most_is = attained_at_most e k (next e k from_i) (subst (λ x. Same (rank x) (along W rank e)) (sym from_i) same) in
          let least_is = at_least_attained e' k' (next e' k' from_i') (ap (R W) from_i' ∙ is) in
          omega (arith, rw from_i at most_is, rw from_i' at least_is)

  -- HEFT's rank is R over m.
  pub HEFTs_rank_is_R_over_m : (i : ℕ) → i < W.tasks → Same (rank i) (record { over = R W i; under = W.processors })
  HEFTs_rank_is_R_over_m = holds_at_last W good.to acyclic (λ n. IsR) (λ n. is_R)
