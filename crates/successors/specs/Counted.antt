-- How many edges lead to each task, with one edge more counted at a time.
use Rattle.std.specs.Prelude.{ℕ, ◌+◌, ◌≤◌, ◌<◌, ◌≡◌, refl, cond, List, eqb, length, set, replicate}
use Rattle.std.proofs.Common.{sym, ap, ◌∙◌, arith, length-set, eq-eqb, ne_eqb}
use Rattle.std.proofs.Math.Decide.{ℕ_discrete}
use Rattle.rules.specs.Folds.{sum}
use Rattle.rules.specs.Workflow.{Workflow}
use Rattle.laws.specs.Folds.{sum_next, sum_at_most_each}
use Rattle.laws.specs.Stores.{at, stored_holds, repeated}
use Rattle.laws.specs.Tests.{cond_either}
use Rattle.successors.specs.Held.{into}

-- An array of 64 that holds, for each task, how many of the first k edges lead to it.
pub record Counted (W : Workflow) (k : ℕ) (held : List ℕ) : Type 0 where
  pub size : length held ≡ 64
  pub counts : (i : ℕ) → at held i ≡ sum k (into W i)

module _ (W : Workflow) where
  pub counted_none : Counted W 0 (replicate 64 0)
  unfolding sum
  counted_none = record { size = refl; counts = repeated {A = ℕ} 64 0 }

  module _ (k : ℕ) (held : List ℕ) (counted : Counted W k held) where
    -- One edge more, which leads to `to`.
    pub counted_next : (to : ℕ) → W.to k ≡ to → to < 64 → Counted W (k + 1) (set held to (at held to + 1))
    counted_next to leads below =
        record {
          size = length-set held to _ ∙ counted.size;
          counts =
              stored_holds held (λ i. sum k (into W i)) _ to _ 0 (omega (arith, counted.size)) counted.counts
              (λ i. sum_next k (into W i) refl (go i (ℕ_discrete to i) ∙ ap (λ t. sum k (into W i) + cond (eqb t i) 1 0) (sym leads)));
        }
      where
        go : (i : ℕ) → Dec (to ≡ i) → cond (eqb to i) (at held to + 1) (sum k (into W i)) ≡ sum k (into W i) + cond (eqb to i) 1 0
        go i (yes e) = rw (eq-eqb to i e, ← e, counted.counts to)
        go i (no n) = rw (ne_eqb to i n) (omega arith)

    pub counted_most : (i : ℕ) → at held i ≤ k
    counted_most i =
        omega (
          arith,
          counted.counts i,
          sum_at_most_each k (into W i) 1 (λ e l. cond_either (λ n. n ≤ 1) (eqb (W.to e) i) 1 0 (λ h. omega arith) (λ h. omega arith)),
        )
