-- Each of the three methods keeps choices. HBCS: the same processor is best, the same may be taken, and the scores grow alike, so that the same one is preferred.
-- Where RCB is above RB no processor may be taken in either question, and there the scores do not matter.
use Prim.Native.Nat.{ℕ, ◌+◌, ◌*◌, ◌-◌, ◌≤◌, ◌<◌}
use Rattle.std.specs.Prelude.{◌≡◌, false}
use Rattle.std.proofs.Math.Path.{refl, sym, ap₂}
use Rattle.std.proofs.Common.{ap, ◌∙◌, arith}
use Rattle.std.proofs.Math.Bool.{◌&&◌, and-false}
use Rattle.std.proofs.Math.Decide.{dec_le}
use Rattle.std.proofs.Math.Nat.{mul-add, mul-sub}
use Rattle.std.proofs.Math.Dec.{leb}
use Rattle.std.proofs.lemmas.Bool.{lt-leb}
use Rattle.rules.specs.Orders.{tie, among}
use Rattle.rules.specs.Method.{Question, best, may_be_taken, latest_finish, B, F, score, preferred, HBCS, Cheapest, HEFT, Name, by_HBCS, by_cheapest, by_HEFT, method}
use Rattle.laws.specs.Tests.{leb_multiplied}
use Rattle.laws.specs.Folds.{largest_multiplied, lowest_multiplied}
use Rattle.laws.specs.Orders.{lower_multiplied, higher_multiplied, among_same}
use Rattle.laws.specs.First.{first_same}
use Rattle.demands.specs.Ground.MethodLaws.{multiplied_question, KeepsChoices}
use Rattle.demands.specs.Ground.Best.{best_below}
use Rattle.demands.specs.Demand3.ZeroRanges.{none_earlier, none_dearer}
use Rattle.demands.specs.Demand3.ScoreMultiplied.{growth, growth_positive, score_grows}

module _ (a c : ℕ) (pa : 1 ≤ a) (pc : 1 ≤ c) (q : Question) where
  best_multiplied : best (multiplied_question a c q) ≡ best q
  unfolding best multiplied_question
  best_multiplied =
      first_same q.processors _ _ (λ i j l m.
      lower_multiplied a pa _ q.finish _ _ i j refl refl (lower_multiplied c pc _ q.cost tie tie i j refl refl refl))

  may_be_taken_multiplied : (j : ℕ) → may_be_taken (multiplied_question a c q) j ≡ may_be_taken q j
  unfolding may_be_taken multiplied_question
  may_be_taken_multiplied j =
      ap₂ ◌&&◌ (ap (λ k. leb (c * q.cost j) (c * q.cost k)) best_multiplied ∙ leb_multiplied c pc (q.cost j) (q.cost (best q)))
      (rw (← mul-add c) (leb_multiplied c pc (q.cost j + q.RCB) q.RB))

  latest_finish_multiplied : latest_finish (multiplied_question a c q) ≡ a * latest_finish q
  unfolding latest_finish multiplied_question
  latest_finish_multiplied = largest_multiplied a q.processors q.finish

  F_multiplied : F (multiplied_question a c q) ≡ a * F q
  unfolding F multiplied_question
  F_multiplied = ap₂ ◌-◌ latest_finish_multiplied (lowest_multiplied a q.processors q.finish) ∙ sym (mul-sub a _ _)

  B_multiplied : B (multiplied_question a c q) ≡ c * B q
  unfolding B multiplied_question
  B_multiplied =
      ap₂ ◌-◌ (largest_multiplied c q.processors q.cost) (lowest_multiplied c q.processors q.cost) ∙ sym (mul-sub c _ _)

  score_multiplied :
      q.RCB ≤ q.RB → (j : ℕ) → j < q.processors
      → score (multiplied_question a c q) j ≡ growth a c (F q) (B q) q.RB * score q j
  unfolding score multiplied_question
  score_multiplied fits j l =
      rw (best_multiplied, F_multiplied, latest_finish_multiplied, B_multiplied, ← mul-sub c, ← mul-sub a)
      (score_grows a c pa pc (F q) (B q) q.RB (q.cost (best q) - q.cost j) q.RCB (latest_finish q - q.finish j) (none_earlier q j l)
      (none_dearer q (best q) j (best_below q j l) l)
      (λ h. omega arith))

  module _ (i j : ℕ) where
    preferred_within : q.RCB ≤ q.RB → i < q.processors → j < q.processors → preferred (multiplied_question a c q) i j ≡ preferred q i j
    unfolding preferred multiplied_question
    preferred_within fits k l =
        among_same _ (may_be_taken q) _ _ i j (may_be_taken_multiplied i) (may_be_taken_multiplied j)
        (higher_multiplied (growth a c (F q) (B q) q.RB) (growth_positive a c pa pc (F q) (B q) q.RB) _ (score q) _ _ i j (score_multiplied fits i k)
        (score_multiplied fits j l)
        (lower_multiplied a pa _ q.finish tie tie i j refl refl refl))

    none_may_be_taken : q.RB < q.RCB → may_be_taken q i ≡ false
    unfolding may_be_taken
    none_may_be_taken over =
        rw (lt-leb (q.cost i + q.RCB) q.RB (omega arith)) (and-false (leb (q.cost i) (q.cost (best q))))

    preferred_past : q.RB < q.RCB → preferred (multiplied_question a c q) i j ≡ preferred q i j
    unfolding preferred among
    preferred_past over = rw (may_be_taken_multiplied i, none_may_be_taken over)

    preferred_multiplied : i < q.processors → j < q.processors → preferred (multiplied_question a c q) i j ≡ preferred q i j
    preferred_multiplied k l = go (dec_le q.RCB q.RB)
      where
        go : Dec (q.RCB ≤ q.RB) → preferred (multiplied_question a c q) i j ≡ preferred q i j
        go (yes fits) = preferred_within fits k l
        go (no over) = preferred_past (omega arith)

  HBCS_multiplied : HBCS (multiplied_question a c q) ≡ HBCS q
  unfolding HBCS multiplied_question
  HBCS_multiplied =
      first_same q.processors (preferred (multiplied_question a c q)) (preferred q) preferred_multiplied

  cheapest_multiplied : Cheapest (multiplied_question a c q) ≡ Cheapest q
  unfolding Cheapest multiplied_question
  cheapest_multiplied =
      first_same q.processors _ _ (λ i j l m.
      lower_multiplied c pc _ q.cost _ _ i j refl refl (lower_multiplied a pa _ q.finish tie tie i j refl refl refl))

pub HBCS_keeps_choices : KeepsChoices HBCS
HBCS_keeps_choices = HBCS_multiplied

pub HEFT_keeps_choices : KeepsChoices HEFT
unfolding HEFT
HEFT_keeps_choices = best_multiplied

pub method_keeps_choices : (M : Name) → KeepsChoices (method M)
unfolding method
method_keeps_choices by_HBCS = HBCS_keeps_choices
method_keeps_choices by_cheapest = cheapest_multiplied
method_keeps_choices by_HEFT = HEFT_keeps_choices
