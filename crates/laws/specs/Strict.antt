-- The orders of the rules are strict, and the first by a strict order is beaten by none and beats each lower number.
use Prim.Native.Nat.{ℕ, zero, suc, ◌≤◌, ◌<◌}
use Rattle.std.specs.Prelude.{◌≡◌, Bool, not, ◌&&◌, ◌||◌}
use Rattle.std.proofs.Math.Path.{refl, fun_ext}
use Rattle.std.proofs.Common.{sym, ◌∙◌, subst, ⊎_elim, arith}
use Rattle.std.proofs.Math.Bool.{true, false, true≢false}
use Rattle.std.proofs.lemmas.Bool.{false≢true}
use Rattle.std.proofs.Math.Decide.{dec_le}
use Rattle.rules.specs.Orders.{Order, tie, lower, higher, among, first}
use Rattle.laws.specs.Tests.{cond_either, or_neither, false_unless_true, true_unless_false}
use Rattle.laws.specs.Numbers.{below_next}
use Rattle.laws.specs.Orders.{flipped, higher_lower, lower_true, lower_false}

pub record Strict (beats : Order) : Type 0 where
  pub asymmetric : (i j : ℕ) → beats i j ≡ true → beats j i ≡ false
  pub transitive : (i j k : ℕ) → beats i j ≡ false → beats j k ≡ false → beats i k ≡ false

pub tie_strict : Strict tie
unfolding tie
tie_strict = record { asymmetric = λ i j h. refl; transitive = λ i j k h g. refl }

flipped_strict : {beats : Order} → Strict beats → Strict (flipped beats)
flipped_strict s = record { asymmetric = λ i j. s.asymmetric j i; transitive = λ i j k h g. s.transitive k j i g h }

module _ (f : ℕ → ℕ) {next : Order} (s : Strict next) where
  pub lower_strict : Strict (lower f next)
  lower_strict =
      record {
        asymmetric = λ i j h.
            ⊎_elim (λ (l : f i < f j). (lower_false f next j i).1 (omega arith, λ q. absurd (omega arith)))
            (λ (w : (f i ≡ f j) × (next i j ≡ true)). (lower_false f next j i).1 (omega arith, λ q. s.asymmetric i j w.1))
            (lower_true f next i j h);
        transitive = λ i j k h g.
            let (l, p) = (lower_false f next i j).0 h in
            let (m, q) = (lower_false f next j k).0 g in
            (lower_false f next i k).1 (omega arith, λ e. s.transitive i j k (p (omega arith)) (q (omega arith)));
      }

pub higher_strict : (f : ℕ → ℕ) {next : Order} → Strict next → Strict (higher f next)
higher_strict f {next} s =
    subst Strict (fun_ext (λ i. fun_ext (λ j. sym (higher_lower f next i j)))) (flipped_strict (lower_strict f (flipped_strict s)))

module _ (test : ℕ → Bool) {next : Order} (s : Strict next) where
  pub among_strict : Strict (among test next)
  unfolding among
  among_strict =
      record {
        asymmetric = λ i j. asymmetric i j (test i) (test j);
        transitive = λ i j k. transitive i j k (test i) (test j) (test k);
      }
    where
      asymmetric : (i j : ℕ) (p q : Bool) → (p && (not q || next i j)) ≡ true → (q && (not p || next j i)) ≡ false
      asymmetric i j true true h = s.asymmetric i j h
      asymmetric i j true false h = refl
      asymmetric i j false q h = absurd (false≢true h)

      transitive :
          (i j k : ℕ) (p q r : Bool) → (p && (not q || next i j)) ≡ false → (q && (not r || next j k)) ≡ false
          → (p && (not r || next i k)) ≡ false
      transitive i j k true true true h g = s.transitive i j k h g
      transitive i j k true true false h g = absurd (true≢false g)
      transitive i j k true false r h g = absurd (true≢false h)
      transitive i j k false q r h g = refl

module _ {beats : Order} (s : Strict beats) where
  pub irreflexive : (i : ℕ) → beats i i ≡ false
  irreflexive i = false_unless_true (beats i i) (λ h. true≢false (sym h ∙ s.asymmetric i i h))

  -- None below k beats the first.
  pub first_unbeaten : (k i : ℕ) → i < k → beats i (first k beats) ≡ false
  unfolding first
  first_unbeaten zero i l = absurd (omega arith)
  first_unbeaten (suc k) i l =
      let b = first k beats in
      cond_either (λ z. beats i z ≡ false) (beats k b) k b
      (λ e.
      below_next (λ n. beats n k ≡ false) k (irreflexive k) (λ n m. s.transitive n b k (first_unbeaten k n m) (s.asymmetric k b e)) i l)
      (λ e. below_next (λ n. beats n b ≡ false) k e (λ n m. first_unbeaten k n m) i l)

  -- It beats each lower number.
  pub first_beats_lower : (k i : ℕ) → i < first k beats → beats (first k beats) i ≡ true
  unfolding first
  first_beats_lower zero i l = absurd (omega arith)
  first_beats_lower (suc k) i l =
      let b = first k beats in
      cond_either (λ z. i < z → beats z i ≡ true) (beats k b) k b
      (λ e m. true_unless_false (beats k i) (λ g. true≢false (sym e ∙ s.transitive k i b g (first_unbeaten k i m))))
      (λ e m. first_beats_lower k i m)
      l

module _ (test : ℕ → Bool) {next : Order} (s : Strict next) (k i : ℕ) (below : i < k) (passes : test i ≡ true) where
  -- None that passes the test beats the first of those.
  pub first_among_unbeaten : next i (first k (among test next)) ≡ false
  first_among_unbeaten = go (first k (among test next)) (first_unbeaten (among_strict test s) k i below)
    where
      go : (b : ℕ) → among test next i b ≡ false → next i b ≡ false
      go b h = (or_neither (not (test b)) (next i b) (unfold among in rw passes at h)).1

  -- One that passes and ties with it does not stand before it.
  pub first_among_lowest : next (first k (among test next)) i ≡ false → first k (among test next) ≤ i
  first_among_lowest h = go (dec_le (first k (among test next)) i)
    where
      not_before : (b : ℕ) (t : Bool) → test b ≡ t → next b i ≡ false → among test next b i ≡ false
      not_before b true at_b e = unfold among in rw (at_b, passes) e
      not_before b false at_b e = unfold among in rw at_b

      go : Dec (first k (among test next) ≤ i) → first k (among test next) ≤ i
      go (yes l) = l
      go (no l) =
          absurd (true≢false
          (sym (first_beats_lower (among_strict test s) k i (omega arith)) ∙ not_before (first k (among test next)) (test (first k (among test next))) refl h))
