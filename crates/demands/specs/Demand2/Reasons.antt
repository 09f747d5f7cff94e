-- What the three searches for a reason find: the edge whose data is the last to arrive, the earliest interval that a task would overlap, and the lowest task whose
-- row it would overlap. Of a workflow, with no word of a plan.
use Rattle.std.specs.Prelude.{ℕ, ◌+◌, ◌≤◌, ◌<◌, max, min, ◌≡◌, Bool, cond, not, ◌≢◌, eqb}
use Rattle.std.proofs.Math.Path.{refl}
use Rattle.std.proofs.Common.{sym, subst, ⊎_elim, arith}
use Rattle.std.proofs.Math.Bool.{true, false}
use mathlib.Core.List.Memᴰ
use mathlib.Core.List.{List, [], ◌∷◌, Memᴰ}
use Rattle.std.proofs.Math.Dec.{ltb}
use borrow.Author.Tests.{ltb-true, ltb-false, lt-ltb, eqb-true, eqb-false, eq-eqb, ne_eqb, not-true}
use Rattle.rules.specs.Folds.{largest}
use Rattle.rules.specs.Orders.{tie, higher, among, first}
use Rattle.rules.specs.Workflow.{Interval, Workflow}
use Rattle.rules.specs.Start.{arrival, awaited, arrived, minutes_from, Overlap, overlap}
use Rattle.rules.specs.Why.{last_to_arrive, Met, none, met, earlier, earliest_met, meets_row, lowest_met}
use Rattle.laws.specs.Tests.{and_both}
use Rattle.laws.specs.First.{first_below, first_passes}
use Rattle.laws.specs.Strict.{tie_strict, first_among_lowest}
use Rattle.laws.specs.Highest.{largest_of_some, highest_below, highest_is_largest, highest_is_first}

-- The edge whose data is the last to arrive.
pub record LastToArrive (W : Workflow) (sits ends : ℕ → ℕ) (i j e : ℕ) : Type 0 where
  pub edge : e < W.edges
  pub leads : W.to e ≡ i
  pub last : arrival W sits ends j e ≡ arrived W sits ends i j
  pub lowest : (e' : ℕ) → W.to e' ≡ i → arrival W sits ends j e' ≡ arrival W sits ends j e → e ≤ e'

pub last_is_last :
    (W : Workflow) (sits ends : ℕ → ℕ) (i j : ℕ) → 0 < arrived W sits ends i j → LastToArrive W sits ends i j (last_to_arrive W sits ends i j)
unfolding last_to_arrive arrived
last_is_last W sits ends i j above = go (eqb (W.to e) i) refl (highest_is_largest W.edges f some)
  where
    f : ℕ → ℕ
    f = awaited W sits ends i j

    some : 1 ≤ W.edges
    some = largest_of_some W.edges (awaited W sits ends i j) above

    e : ℕ
    e = first W.edges (higher f tie)

    go : (b : Bool) → eqb (W.to e) i ≡ b → cond b (arrival W sits ends j e) 0 ≡ largest W.edges f → LastToArrive W sits ends i j e
    go true to is =
        record {
          edge = highest_below W.edges f some;
          leads = eqb-true (W.to e) i to;
          last = is;
          lowest = λ e' to' same. highest_is_first W.edges f some e' (rw (to, eq-eqb (W.to e') i to') same);
        }
    go false to is = absurd (omega (arith, is))

-- What is met of these intervals: none of them is, or this one, and none that begins before it.
abbrev pub EarliestMet : List Interval → (minutes t : ℕ) → Met → Type 0
EarliestMet busy minutes t none = (u : Interval) → Memᴰ u busy → Overlap (minutes_from t minutes) u → ⊥
EarliestMet busy minutes t (met v) =
    Memᴰ v busy × Overlap (minutes_from t minutes) v
    × ((u : Interval) → Memᴰ u busy → Overlap (minutes_from t minutes) u → v.begin ≤ u.begin)

module _ (minutes t : ℕ) where
  -- What is so of the new one and of the others is so of all.
  each_of :
      {P : Interval → Type 0} (v : Interval) (busy : List Interval) → P v → ((u : Interval) → Memᴰ u busy → P u)
      → (u : Interval) → Memᴰ u (v ∷ busy) → P u
  each_of {P} v busy one others u m = ⊎_elim (λ (q : u ≡ v). subst P (sym q) one) (others u) (Memᴰ.cases_cons m)

  one_more_met :
      (v : Interval) (busy : List Interval) → Overlap (minutes_from t minutes) v → (rest : Met) → EarliestMet busy minutes t rest
      → EarliestMet (v ∷ busy) minutes t (met (earlier v rest))
  unfolding earlier
  one_more_met v busy meets none free =
      (Memᴰ.head refl, meets, each_of {P = λ u. Overlap (minutes_from t minutes) u → v.begin ≤ u.begin} v busy (λ o. omega arith) (λ u m o. absurd (free u m o)))
  one_more_met v busy meets (met w) (m, meets_w, first_of) = go (ltb v.begin w.begin) refl
    where
      go : (b : Bool) → ltb v.begin w.begin ≡ b → EarliestMet (v ∷ busy) minutes t (met (cond b v w))
      go true e =
          let before = ltb-true v.begin w.begin e in
          (Memᴰ.head refl, meets, each_of {P = λ u. Overlap (minutes_from t minutes) u → v.begin ≤ u.begin} v busy (λ o. omega arith) (λ u n o. omega (arith, first_of u n o, before)))
      go false e =
          let not_before = ltb-false v.begin w.begin e in
          (Memᴰ.tail m, meets_w, each_of {P = λ u. Overlap (minutes_from t minutes) u → w.begin ≤ u.begin} v busy (λ o. not_before) first_of)

  pub earliest_met_is : (busy : List Interval) → EarliestMet busy minutes t (earliest_met busy minutes t)
  unfolding earliest_met overlap
  earliest_met_is [] = λ u m o. Memᴰ.not-nil m
  earliest_met_is (v ∷ busy) = go (ltb (max t v.begin) (min (t + minutes) v.end)) refl (earliest_met busy minutes t) (earliest_met_is busy)
    where
      go :
          (b : Bool) → ltb (max t v.begin) (min (t + minutes) v.end) ≡ b → (rest : Met) → EarliestMet busy minutes t rest
          → EarliestMet (v ∷ busy) minutes t (cond b (met (earlier v rest)) rest)
      go true e rest is = one_more_met v busy (ltb-true (max t v.begin) (min (t + minutes) v.end) e) rest is
      go false e none is = each_of {P = λ u. Overlap (minutes_from t minutes) u → ⊥} v busy (λ o. omega (arith, ltb-false (max t v.begin) (min (t + minutes) v.end) e)) is
      go false e (met w) (m, meets, first_of) = (
        Memᴰ.tail m,
        meets,
        each_of {P = λ u. Overlap (minutes_from t minutes) u → w.begin ≤ u.begin} v busy
            (λ o. absurd (omega (arith, ltb-false (max t v.begin) (min (t + minutes) v.end) e))) first_of,
      )

-- Another task on the same processor, whose row the task would overlap.
module _ (sits begins ends : ℕ → ℕ) (minutes i t : ℕ) where
  pub record OverlapsRow (k : ℕ) : Type 0 where
    pub other : k ≢ i
    pub same_processor : sits k ≡ sits i
    pub overlaps : Overlap (minutes_from t minutes) (record { begin = begins k; end = ends k })

  row_told : (k : ℕ) → meets_row sits begins ends minutes i t k ≡ true → OverlapsRow k
  unfolding meets_row overlap
  row_told k h =
      let (differ, rest) = and_both (not (eqb k i)) _ h in
      let (same, meets) = and_both (eqb (sits k) (sits i)) _ rest in
      record { other = eqb-false k i (not-true _ differ); same_processor = eqb-true (sits k) (sits i) same; overlaps = ltb-true _ _ meets }

  row_tested : (k : ℕ) → OverlapsRow k → meets_row sits begins ends minutes i t k ≡ true
  unfolding meets_row overlap
  row_tested k o =
      rw (ne_eqb k i o.other, eq-eqb (sits k) (sits i) o.same_processor)
      (lt-ltb (max t (begins k)) (min (t + minutes) (ends k)) o.overlaps)

  -- Where there is one the lowest is found.
  pub lowest_met_is :
      (n k : ℕ) → k < n → OverlapsRow k →
      let lowest = lowest_met n sits begins ends minutes i t in
      (lowest < n) × OverlapsRow lowest × ((k' : ℕ) → k' < n → OverlapsRow k' → lowest ≤ k')
  unfolding lowest_met
  lowest_met_is n k below o =
      let test = meets_row sits begins ends minutes i t in (
        first_below n (among test tie) (omega arith),
        row_told _ (first_passes test tie n k below (row_tested k o)),
        λ k' l o'. first_among_lowest test tie_strict n k' l (row_tested k' o') (unfold tie in refl),
      )
