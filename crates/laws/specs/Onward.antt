-- Going on and on: where each number of a kind has one of that kind after it, one of them comes after itself, since there are finitely many. So where each
-- task of a kind has an edge to one of that kind, one leads back to itself; and where none does, what goes from the successors of each task to the task holds
-- of all tasks, in no more steps than there are tasks.
use Rattle.std.specs.Prelude.{ℕ, zero, suc, ◌≤◌, ◌<◌, ◌≡◌, refl, Bool, true, false, eqb}
use Rattle.std.proofs.Common.{sym, subst, ⊎_elim, arith, eqb-true}
use Rattle.std.proofs.lemmas.Bool.{false≢true}
use Rattle.rules.specs.Workflow.{Workflow}
use Rattle.rules.specs.Cycle.{Leads, edge}
use Rattle.laws.specs.Tests.{or_either, false_unless_true, true_unless_false}
use Rattle.laws.specs.Unmarked.{count_unmarked, and_marked, sum_unmarked_less, count_unmarked_at_first}
use Rattle.laws.specs.Leads.{leads_on}
use Rattle.laws.specs.Cycles.{EdgesEnd}

-- `After k i`: one comes from i to k, in steps.
module _ (below : ℕ) (After : ℕ → ℕ → Type 0) (on : (i j k : ℕ) → After j i → After k j → After k i) (Kind : ℕ → Type 0)
    (next : (i : ℕ) → i < below → Kind i → (k : ℕ) × (k < below) × After k i × Kind k) where
  abbrev SomeAfterItself : Type 0
  SomeAfterItself = (k : ℕ) × (k < below) × After k k

  -- From i on, with what was passed on the way to i.
  goes_back :
      (n : ℕ) (passed : ℕ → Bool) (i : ℕ) → i < below → Kind i → ((k : ℕ) → passed k ≡ true → After i k)
      → count_unmarked below passed ≤ n → SomeAfterItself
  goes_back zero passed i l kind after few =
      let again : passed i ≡ true =
      true_unless_false (passed i) (λ free. omega (arith, sum_unmarked_less passed (λ k. 1) below i l free)) in
      (i, l, after i again)
  goes_back (suc n) passed i l kind after few =
      let (k, m, step, onward) = next i l kind in
      either (passed i) refl
      (λ fewer.
      goes_back n (and_marked i passed) k m onward
      (λ x h.
      ⊎_elim (λ q. subst (After k) (eqb-true i x q) step) (λ p. on x i k (after x p) step) (or_either (eqb i x) (passed x) h))
      fewer)
    where
      either : (t : Bool) → passed i ≡ t → (count_unmarked below (and_marked i passed) ≤ n → SomeAfterItself) → SomeAfterItself
      either true again onward = (i, l, after i again)
      either false free onward = onward (omega (arith, sum_unmarked_less passed (λ k. 1) below i l free))

  pub some_after_itself : (i : ℕ) → i < below → Kind i → SomeAfterItself
  some_after_itself i l kind =
      goes_back below (λ k. false) i l kind (λ k h. absurd (false≢true h)) (omega (arith, count_unmarked_at_first below))

-- An edge from i to a task of the kind.
abbrev pub HasNext : Workflow → (ℕ → Type 0) → ℕ → Type 0
HasNext W Kind i = (e : ℕ) × (e < W.edges) × (W.from e ≡ i) × Kind (W.to e)

pub some_leads_back :
    (W : Workflow) → EdgesEnd W → (Kind : ℕ → Type 0) → ((i : ℕ) → i < W.tasks → Kind i → HasNext W Kind i)
    → (i : ℕ) → i < W.tasks → Kind i → (k : ℕ) × (k < W.tasks) × Leads W k k
some_leads_back W ends Kind next =
    some_after_itself W.tasks (λ k i. Leads W i k) (λ i j k. leads_on W) Kind (λ i l kind.
    let (e, b, from, onward) = next i l kind in
    (W.to e, ends e b, subst (λ k. Leads W k (W.to e)) from (edge e b), onward))

-- A path passes no task twice, so after as many steps as there are tasks nothing is left to ask.
module _ (W : Workflow) (ends : EdgesEnd W) (acyclic : (i : ℕ) → Leads W i i → ⊥) (Holds : (steps i : ℕ) → Type 0)
    (step : (n i : ℕ) → i < W.tasks → ((e : ℕ) → e < W.edges → W.from e ≡ i → Holds n (W.to e)) → Holds (suc n) i) where
  -- At i, where the steps are no fewer than the tasks that no path to i has passed.
  holds_from :
      (n : ℕ) (passed : ℕ → Bool) (i : ℕ) → i < W.tasks → passed i ≡ false → ((k : ℕ) → passed k ≡ true → Leads W k i)
      → count_unmarked W.tasks passed ≤ n → Holds n i
  holds_from zero passed i l free lead few = absurd (omega (arith, sum_unmarked_less passed (λ k. 1) W.tasks i l free))
  holds_from (suc n) passed i l free lead few =
      step n i l (λ e b from.
      let onward : Leads W i (W.to e) = subst (λ k. Leads W k (W.to e)) from (edge e b) in
      holds_from n (and_marked i passed) (W.to e) (ends e b)
      (false_unless_true (and_marked i passed (W.to e)) (λ h.
      ⊎_elim (λ q. acyclic i (subst (Leads W i) (sym (eqb-true i (W.to e) q)) onward)) (λ p. acyclic i (leads_on W onward (lead (W.to e) p)))
      (or_either (eqb i (W.to e)) (passed (W.to e)) h)))
      (λ k h.
      ⊎_elim (λ q. subst (λ x. Leads W x (W.to e)) (eqb-true i k q) onward) (λ p. leads_on W (lead k p) onward)
      (or_either (eqb i k) (passed k) h))
      (omega (arith, sum_unmarked_less passed (λ k. 1) W.tasks i l free)))

  pub holds_at_last : (i : ℕ) → i < W.tasks → Holds W.tasks i
  holds_at_last i l =
      holds_from W.tasks (λ k. false) i l refl (λ k h. absurd (false≢true h)) (omega (arith, count_unmarked_at_first W.tasks))
