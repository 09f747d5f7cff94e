-- When two intervals overlap, when a task can start, and when all that is busy has ended: what the rules' tests and numbers say of these.
use Rattle.std.specs.Prelude.{ℕ, ◌+◌, ◌≤◌, ◌<◌, max, min, ◌≡◌, refl, Bool, true, false, not, ◌&&◌, ◌⊎◌, ltb}
use Rattle.std.proofs.Common.{ap, subst, true≢false, inl, inr, ⊎_elim, arith, ltb-true, ltb-false, le-ltb}
use mathlib.Core.List.Memᴰ
use mathlib.Core.List.{List, [], ◌∷◌, Memᴰ}
use Rattle.std.proofs.lemmas.Bool.{not-true}
use Rattle.rules.specs.Workflow.{Interval}
use Rattle.rules.specs.Start.{minutes_from, Overlap, Free, overlap, free, latest_end}
use Rattle.laws.specs.Tests.{and_both}
use Rattle.laws.specs.Numbers.{below_or_on}

-- To overlap is to have a minute in common.
pub record Common (u v : Interval) (t : ℕ) : Type 0 where
  pub in_one : (u.begin ≤ t) × (t < u.end)
  pub in_other : (v.begin ≤ t) × (t < v.end)

pub overlap_has_common : (u v : Interval) → Overlap u v → Common u v (max u.begin v.begin)
overlap_has_common u v o = record { in_one = omega arith; in_other = omega arith }

pub common_overlaps : (u v : Interval) {t : ℕ} → Common u v t → Overlap u v
common_overlaps u v both = omega (arith, both.in_one, both.in_other)

pub overlap_turned : (u v : Interval) → Overlap u v → Overlap v u
overlap_turned u v o = omega arith

-- Of two that have minutes and do not overlap, one ends before the other begins.
pub one_ends_before :
    (u v : Interval) → u.begin < u.end → v.begin < v.end → (Overlap u v → ⊥) → (v.end ≤ u.begin) ⊎ (u.end ≤ v.begin)
one_ends_before u v some some' none =
    ⊎_elim inl
    (λ (h : u.begin + 1 ≤ v.end).
    ⊎_elim inr (λ (h' : v.begin + 1 ≤ u.end). absurd (none (omega arith))) (below_or_on u.end v.begin))
    (below_or_on v.end u.begin)

-- The tests say what they are called after.
pub free_told : (busy : List Interval) (minutes t : ℕ) → free busy minutes t ≡ true → Free busy minutes t
unfolding free overlap
free_told [] minutes t e u m o = Memᴰ.not-nil m
free_told (v ∷ busy) minutes t e u m o =
    let (clear, rest) = and_both (not (overlap (minutes_from t minutes) v)) (free busy minutes t) e in
    ⊎_elim
    (λ (q : u ≡ v).
    let at_v = subst (Overlap (minutes_from t minutes)) q o in
    omega (arith, at_v, ltb-false (max t v.begin) (min (t + minutes) v.end) (not-true _ clear)))
    (λ m'. free_told busy minutes t rest u m' o)
    (Memᴰ.cases_cons m)

pub free_tested : (busy : List Interval) (minutes t : ℕ) → Free busy minutes t → free busy minutes t ≡ true
unfolding free overlap
free_tested [] minutes t f = refl
free_tested (v ∷ busy) minutes t f =
    rw (le-ltb (max t v.begin) (min (t + minutes) v.end) (omega (arith, f v (Memᴰ.head refl))))
    (free_tested busy minutes t (λ u m. f u (Memᴰ.tail m)))

-- Where a task can't start, something that is busy is in its way.
abbrev pub InTheWay : List Interval → (minutes t : ℕ) → Type 0
InTheWay busy minutes t = (v : Interval) × Memᴰ v busy × Overlap (minutes_from t minutes) v

pub met_unless_free : (busy : List Interval) (minutes t : ℕ) → free busy minutes t ≡ false → InTheWay busy minutes t
unfolding free overlap
met_unless_free [] minutes t = λ e. absurd (true≢false e)
met_unless_free (v ∷ busy) minutes t = go (ltb (max t v.begin) (min (t + minutes) v.end)) refl (met_unless_free busy minutes t)
  where
    go :
        (meets : Bool) → ltb (max t v.begin) (min (t + minutes) v.end) ≡ meets → (free busy minutes t ≡ false → InTheWay busy minutes t)
        → (not meets && free busy minutes t) ≡ false → InTheWay (v ∷ busy) minutes t
    go true meets rest e = (v, Memᴰ.head refl, ltb-true (max t v.begin) (min (t + minutes) v.end) meets)
    go false meets rest e = let (u, m, o) = rest e in (u, Memᴰ.tail m, o)

pub latest_end_bounds : (vs : List Interval) {v : Interval} → Memᴰ v vs → v.end ≤ latest_end vs
unfolding latest_end
latest_end_bounds [] m = absurd (Memᴰ.not-nil m)
latest_end_bounds (u ∷ vs) {v} m =
    ⊎_elim (λ (e : v ≡ u). omega (arith, ap (λ (w : Interval). w.end) e)) (λ m'. omega (arith, latest_end_bounds vs m')) (Memᴰ.cases_cons m)

pub latest_end_at_most : (c : ℕ) (vs : List Interval) → ((v : Interval) → Memᴰ v vs → v.end ≤ c) → latest_end vs ≤ c
unfolding latest_end
latest_end_at_most c [] each = omega arith
latest_end_at_most c (v ∷ vs) each =
    omega (arith, latest_end_at_most c vs (λ u m. each u (Memᴰ.tail m)), each v (Memᴰ.head refl))
