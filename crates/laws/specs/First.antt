-- The laws of `first`: it is below the count, it is one of those that pass the test where one does, and one turn of a loop goes on from it.
use Rattle.std.specs.Prelude.{ℕ, zero, suc, ◌+◌, ◌≤◌, ◌<◌, ◌≡◌, refl, Bool, true, false, cond, not, ◌&&◌, ◌||◌, ◌⊎◌}
use Rattle.std.proofs.Common.{sym, ap, ap₂, ◌∙◌, true≢false, inl, inr, ⊎_elim, add-one, arith}
use Rattle.rules.specs.Orders.{Order, among, first}
use Rattle.laws.specs.Tests.{cond_either}
use Rattle.laws.specs.Numbers.{below_next}

pub first_at_most : (k : ℕ) (beats : Order) → first k beats ≤ k
unfolding first
first_at_most zero beats = omega arith
first_at_most (suc k) beats =
    let h : first k beats ≤ k = first_at_most k beats in
    cond_either (λ z. z ≤ suc k) (beats k (first k beats)) k (first k beats) (λ e. omega arith) (λ e. omega arith)

pub first_below : (k : ℕ) (beats : Order) → 1 ≤ k → first k beats < k
unfolding first
first_below zero beats pos = absurd (omega arith)
first_below (suc k) beats pos =
    let h : first k beats ≤ k = first_at_most k beats in
    cond_either (λ z. z < suc k) (beats k (first k beats)) k (first k beats) (λ e. omega arith) (λ e. omega arith)

-- One turn of a loop.
pub first_next : (k : ℕ) (beats : Order) {x r : ℕ} → x ≡ first k beats → r ≡ cond (beats k x) k x → r ≡ first (k + 1) beats
unfolding first
first_next k beats e h = h ∙ ap (λ y. cond (beats k y) k y) e ∙ ap (λ n. first n beats) (sym (add-one k))

-- Orders that are the same below the count.
pub first_same : (k : ℕ) (f g : Order) → ((i j : ℕ) → i < k → j < k → f i j ≡ g i j) → first k f ≡ first k g
unfolding first
first_same zero f g same = refl
first_same (suc k) f g same =
    let before : first k f ≡ first k g = first_same k f g (λ i j l m. same i j (omega arith) (omega arith)) in
    ap₂ (λ t z. cond t k z) (same k (first k f) (omega arith) (omega (arith, first_at_most k f)) ∙ ap (g k) before) before

-- Where one below k passes the test, the first among those that pass does.
pub first_passes : (test : ℕ → Bool) (next : Order) (k i : ℕ) → i < k → test i ≡ true → test (first k (among test next)) ≡ true
unfolding first among
first_passes test next zero i l h = absurd (omega arith)
first_passes test next (suc k) i l h =
    let b = first k (among test next) in
    go b (test k) (test b) refl refl
    (below_next (λ n. test n ≡ true → (test k ≡ true) ⊎ (test b ≡ true)) k inl (λ n m e. inr (first_passes test next k n m e)) i l h)
  where
    go :
        (b : ℕ) (s t : Bool) → test k ≡ s → test b ≡ t → (test k ≡ true) ⊎ (test b ≡ true)
        → test (cond (test k && (not (test b) || next k b)) k b) ≡ true
    go b true true at_k at_b some =
        cond_either (λ z. test z ≡ true) (test k && (not (test b) || next k b)) k b (λ e. at_k) (λ e. at_b)
    go b true false at_k at_b some = rw (at_k, at_b) at_k
    go b false true at_k at_b some = rw at_k at_b
    go b false false at_k at_b some = absurd (⊎_elim (λ e. true≢false (sym e ∙ at_k)) (λ e. true≢false (sym e ∙ at_b)) some)
