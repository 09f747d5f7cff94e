-- Without a cycle R is document 01's: it satisfies the equation, and nothing else does. After as many steps as there are tasks nothing that the first step
-- was given matters any more.
use Rattle.std.specs.Prelude.{ℕ, suc, ◌+◌, ◌*◌, ◌<◌, ◌≡◌, refl, eqb}
use Rattle.std.proofs.Common.{sym, ap, ◌∙◌, eqb-true}
use Rattle.rules.specs.Folds.{sum}
use Rattle.rules.specs.Workflow.{Workflow}
use Rattle.rules.specs.Cycle.{Leads}
use Rattle.rules.specs.Ranks.{rank_by, rank_within, R}
use Rattle.laws.specs.Tests.{cond_same}
use Rattle.laws.specs.Folds.{largest_same}
use Rattle.laws.specs.Onward.{holds_at_last}
use Rattle.laws.specs.Cycles.{EdgesEnd}

-- The equation for i reads only the successors of i.
pub rank_by_same :
    (W : Workflow) (f g : ℕ → ℕ) (i : ℕ) → ((e : ℕ) → e < W.edges → W.from e ≡ i → f (W.to e) ≡ g (W.to e)) → rank_by W f i ≡ rank_by W g i
unfolding rank_by
rank_by_same W f g i same =
    ap (λ z. sum W.processors (W.minutes i) + z) (largest_same W.edges _ _ (λ e l.
    cond_same (eqb (W.from e) i) 0 (λ from. ap (λ z. W.processors * W.transfer e + z) (same e l (eqb-true (W.from e) i from)))))

module _ (W : Workflow) (ends : EdgesEnd W) (acyclic : (i : ℕ) → Leads W i i → ⊥) where
  -- Two ranks in steps agree at last.
  agree :
      (f g : ℕ → ℕ → ℕ) → ((n i : ℕ) → i < W.tasks → f (suc n) i ≡ rank_by W (f n) i) → ((n i : ℕ) → i < W.tasks → g (suc n) i ≡ rank_by W (g n) i)
      → (i : ℕ) → i < W.tasks → f W.tasks i ≡ g W.tasks i
  agree f g f_steps g_steps =
      holds_at_last W ends acyclic (λ n i. f n i ≡ g n i) (λ n i l same. f_steps n i l ∙ rank_by_same W (f n) (g n) i same ∙ sym (g_steps n i l))

  -- "R(i) = sum over j of w(i,j), plus the largest over edges i to k of m x c(i,k) + R(k), or plus 0 without successors."
  pub R_equation : (i : ℕ) → i < W.tasks → R W i ≡ rank_by W (R W) i
  unfolding R rank_within
  R_equation = agree (rank_within W) (λ n. rank_within W (suc n)) (λ n i l. refl) (λ n i l. refl)

  -- Whatever satisfies the equation is R.
  pub R_unique : (f : ℕ → ℕ) → ((i : ℕ) → i < W.tasks → f i ≡ rank_by W f i) → (i : ℕ) → i < W.tasks → f i ≡ R W i
  unfolding R rank_within
  R_unique f equation = agree (λ n. f) (rank_within W) (λ n. equation) (λ n i l. refl)
