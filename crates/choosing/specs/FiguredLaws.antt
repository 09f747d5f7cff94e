-- The figures of the processors passed, one processor after the other, and what may be taken, the score and the standing by the figures of all.
use Prim.Native.Nat.{ℕ, zero, suc, ◌+◌, ◌*◌, ◌-◌, ◌≤◌, ◌<◌}
use Rattle.std.specs.Prelude.{◌≡◌, refl, true}
use Rattle.std.proofs.Common.{sym, ap, ◌∙◌, ⊎_elim, eq-or-lt_of_le, mul-le-mul, mul_assoc, arith}
use Rattle.std.proofs.Math.Path.{ap₂}
use Rattle.std.proofs.Math.Bool.{cond}
use Rattle.rules.specs.Folds.{largest, lowest}
use Rattle.rules.specs.Orders.{tie, lower, first}
use Rattle.rules.specs.Method.{Question, or_one, best, may_be_taken, latest_finish, B, F, score}
use Rattle.laws.specs.Bounds.{asked_finish_most, cost_most, budget_most, saved_most, early_most}
use Rattle.laws.specs.Tests.{cond_either}
use Rattle.laws.specs.Folds.{largest_next, lowest_next, largest_at_most}
use Rattle.laws.specs.Orders.{lower_true, lower_false}
use Rattle.laws.specs.First.{first_next, first_below}
use Rattle.laws.specs.Method.{first_is_lowest}
use Rattle.choosing.specs.Asked.{InRange}
use Rattle.choosing.specs.Figured.{sooner, FiguresOf, BestCost, Passed, FiguresInRange, Weighed, may_by, score_by, standing_by, standing}
use Rattle.choosing.specs.declared.figures.Figures.{Figures}
use Rattle.choosing.specs.declared.figures.Weights.{Weights}

pub or_one_at_most : (x b : ℕ) → 1 ≤ b → x ≤ b → or_one x ≤ b
unfolding or_one
or_one_at_most zero b some h = some
or_one_at_most (suc x) b some h = h

-- No product of a score wraps.
module _ (g : Figures) (h : FiguresInRange g) where
  pub saved_at_most : {f : ℕ} → f ≡ or_one (g.latest - g.earliest) → g.rcb * f ≤ saved_most
  saved_at_most e = rw e (mul-le-mul h.rcb (or_one_at_most (g.latest - g.earliest) asked_finish_most (omega arith) (omega arith)))

  pub early_at_most : {b rb : ℕ} → b ≡ or_one (g.highest - g.lowest) → rb ≡ or_one g.rb → b * rb ≤ early_most
  early_at_most e d =
      rw (e, d)
      (mul-le-mul (or_one_at_most (g.highest - g.lowest) cost_most (omega arith) (omega arith))
      (or_one_at_most g.rb budget_most (omega arith) h.rb))

module _ (g : Figures) (w : Weights) (weighed : Weighed g w) where
  pub saved_part_at_most : (x : ℕ) → x ≤ cost_most → x * w.saved ≤ cost_most * saved_most
  saved_part_at_most x h = mul-le-mul h weighed.saved_most

  pub early_part_at_most : (x : ℕ) → x ≤ asked_finish_most → x * w.early ≤ asked_finish_most * early_most
  early_part_at_most x h = mul-le-mul h weighed.early_most

  pub score_weighed : (cost finish : ℕ) {x y : ℕ} → x ≡ g.best - cost → y ≡ g.latest - finish → x * w.saved + y * w.early ≡ score_by g cost finish
  unfolding score_by
  score_weighed cost finish at_x at_y =
      rw (at_x, at_y, weighed.saved, weighed.early)
      (ap₂ ◌+◌ (sym (mul_assoc (g.best - cost) g.rcb _)) (sym (mul_assoc (g.latest - finish) _ (or_one g.rb))))

module _ (q : Question) where
  -- The first processor alone.
  pub figures_first : (g : Figures) → g.rb ≡ q.RB → g.rcb ≡ q.RCB → g.best ≡ q.cost 0 → g.earliest ≡ q.finish 0
      → g.latest ≡ q.finish 0 → g.lowest ≡ q.cost 0 → g.highest ≡ q.cost 0 → FiguresOf q 1 g
  unfolding first largest lowest
  figures_first g rb rcb best earliest latest low high =
      record {
        RB = rb;
        RCB = rcb;
        best = cond_either (λ z. g.best ≡ q.cost z) (sooner q 0 0) 0 0 (λ _. best) (λ _. best);
        earliest = omega arith;
        latest = omega arith;
        lowest = omega arith;
        highest = omega arith;
      }

  module _ (k : ℕ) (g : Figures) where
    -- The better of the best so far, b, and k.
    best_next : (b r : ℕ) → g.best ≡ q.cost b → g.earliest ≡ q.finish b → BestCost g (q.cost k) (q.finish k) r
        → r ≡ q.cost (cond (sooner q k b) k b)
    best_next b r cost finish better =
        cond_either (λ z. r ≡ q.cost z) (sooner q k b) k b
        (λ e.
        ⊎_elim (λ (l : q.finish k < q.finish b). better.earlier (omega arith))
        (λ (w : (q.finish k ≡ q.finish b) × (lower q.cost tie k b ≡ true)).
        let together = better.together (omega arith) in
        ⊎_elim (λ (l : q.cost k < q.cost b). omega arith)
        (λ (v : (q.cost k ≡ q.cost b) × (tie k b ≡ true)). omega arith)
        (lower_true q.cost tie k b w.1))
        (lower_true q.finish (lower q.cost tie) k b e))
        (λ e.
        let (not_Earlier, tied) = (lower_false q.finish (lower q.cost tie) k b).0 e in
        ⊎_elim (λ (s : q.finish b ≡ q.finish k).
        let together = better.together (omega arith) in
        let not_lower = ((lower_false q.cost tie k b).0 (tied (sym s))).0 in
        omega arith)
        (λ (l : q.finish b < q.finish k). better.later (omega arith) ∙ cost)
        (eq-or-lt_of_le not_Earlier))

    -- One turn of the pass.
    pub figures_next : FiguresOf q k g → {r : Figures} → Passed g (q.cost k) (q.finish k) r → FiguresOf q (k + 1) r
    figures_next so_far {r} passed =
        record {
          RB = passed.rb ∙ so_far.RB;
          RCB = passed.rcb ∙ so_far.RCB;
          best = best_next (first k (sooner q)) r.best so_far.best
              (so_far.earliest ∙ sym (first_is_lowest q.finish (lower q.cost tie) k))
              passed.best
              ∙ ap q.cost (first_next k (sooner q) refl refl);
          earliest = lowest_next k q.finish so_far.earliest passed.earliest;
          latest = largest_next k q.finish so_far.latest passed.latest;
          lowest = lowest_next k q.cost so_far.lowest passed.lowest;
          highest = largest_next k q.cost so_far.highest passed.highest;
        }

  module _ (g : Figures) (all : FiguresOf q q.processors g) where
    pub figures_in_range : InRange q → FiguresInRange g
    figures_in_range h =
        record {
          best = rw all.best (h.costs (first q.processors (sooner q)) (first_below q.processors (sooner q) h.processors_least));
          latest = rw all.latest (largest_at_most q.processors q.finish asked_finish_most h.finishes);
          highest = rw all.highest (largest_at_most q.processors q.cost cost_most h.costs);
          rb = rw all.RB h.RB;
          rcb = rw all.RCB h.RCB;
        }

    may_is : (j : ℕ) → may_by g (q.cost j) ≡ may_be_taken q j
    unfolding may_by may_be_taken best
    may_is j = rw (all.best, all.RB, all.RCB)

    score_is : (j : ℕ) → score_by g (q.cost j) (q.finish j) ≡ score q j
    unfolding score_by score best B F latest_finish
    score_is j = rw (all.best, all.RB, all.RCB, all.earliest, all.latest, all.lowest, all.highest)

    pub standing_is : (j : ℕ) → standing_by g (q.cost j) (q.finish j) ≡ standing q j
    unfolding standing_by standing
    standing_is j = ap₂ (λ t x. cond t (x + 1) 0) (may_is j) (score_is j)
