-- The first of those with the highest figure: it has the largest figure, and no lower number has; so a loop may keep the two side by side.
use Rattle.std.specs.Prelude.{ℕ, zero, suc, ◌+◌, ◌≤◌, ◌<◌, ◌≡◌, refl, cond, ltb}
use Rattle.std.proofs.Common.{sym, ap, ◌∙◌, ⊎_elim, arith}
use Rattle.std.proofs.Math.Bool.{false≢true}
use Rattle.std.proofs.Math.Decide.{dec_le}
use Rattle.rules.specs.Folds.{largest}
use Rattle.rules.specs.Orders.{tie, higher, first}
use Rattle.laws.specs.Tests.{cond_either}
use Rattle.laws.specs.Folds.{at_most_largest, largest_at_most}
use Rattle.laws.specs.Orders.{higher_true, higher_false, higher_tie}
use Rattle.laws.specs.First.{first_below, first_next}
use Rattle.laws.specs.Strict.{Strict, tie_strict, higher_strict, first_unbeaten, first_beats_lower}

pub largest_of_some : (k : ℕ) (f : ℕ → ℕ) → 0 < largest k f → 1 ≤ k
unfolding largest
largest_of_some zero f above = absurd (omega arith)
largest_of_some (suc k) f above = omega arith

module _ (k : ℕ) (f : ℕ → ℕ) (some : 1 ≤ k) where
  abbrev the_highest : ℕ
  the_highest = first k (higher f tie)

  strict : Strict (higher f tie)
  strict = higher_strict f tie_strict

  pub highest_below : the_highest < k
  highest_below = first_below k (higher f tie) some

  pub highest_is_largest : f the_highest ≡ largest k f
  highest_is_largest =
      let each : (e : ℕ) → e < k → f e ≤ f the_highest = λ e l. ((higher_false f tie e the_highest).0 (first_unbeaten strict k e l)).0 in
      omega (arith, largest_at_most k f (f the_highest) each, at_most_largest k f the_highest highest_below)

  pub highest_is_first : (e : ℕ) → f e ≡ f the_highest → the_highest ≤ e
  unfolding tie
  highest_is_first e same = go (dec_le the_highest e)
    where
      go : Dec (the_highest ≤ e) → the_highest ≤ e
      go (yes l) = l
      go (no lower) =
          absurd (⊎_elim (λ (h : f e < f the_highest). omega arith) (λ h. false≢true h.1)
          (higher_true f tie the_highest e (first_beats_lower strict k e (omega arith))))

-- One turn of a loop that keeps the largest figure and where it stands.
pub highest_next :
    (f : ℕ → ℕ) (k : ℕ) {x m r : ℕ} → x ≡ first k (higher f tie) → m ≡ largest k f → r ≡ cond (ltb m (f k)) k x → r ≡ first (k + 1) (higher f tie)
unfolding first
highest_next f zero {x} {m} e h is =
    is ∙ cond_either (λ z. z ≡ 0) (ltb m (f 0)) 0 x (λ t. refl) (λ t. e) ∙ sym (cond_either (λ z. z ≡ 0) (higher f tie 0 0) 0 0 (λ t. refl) (λ t. refl))
highest_next f (suc k) {x} {m} e h is =
    let figure : f x ≡ m = ap f e ∙ highest_is_largest (suc k) f (omega arith) ∙ sym h in
    first_next (suc k) (higher f tie) e (rw (higher_tie f (suc k) x, figure) is)
