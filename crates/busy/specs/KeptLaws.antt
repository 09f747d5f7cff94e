-- Where the intervals of a processor stand, and when a task can start there, said of places in the arrays; and the arrays at first.
use Rattle.std.specs.Prelude.{ℕ, zero, suc, ◌+◌, ◌-◌, ◌≤◌, ◌<◌, ◌≡◌, replicate}
use Rattle.std.proofs.Common.{subst}
use mathlib.Core.List.{List, [], Memᴰ}
use Rattle.std.proofs.Math.Decide.{dec_le, dec_lt}
use native.Mathlib.Omega.{arith}
use Rattle.std.proofs.Math.ListN.{get_or-eq_default}
use Rattle.rules.specs.Folds.{listing}
use Rattle.rules.specs.Workflow.{Interval}
use Rattle.rules.specs.Start.{minutes_from, Overlap, Free}
use Rattle.laws.specs.Listing.{stands_in_listing, in_listing}
use Rattle.laws.specs.Stores.{at, repeated}
use Rattle.laws.specs.Filled.{AtMost}
use Rattle.busy.specs.Kept.{room_most, span, kept_busy, InOrder}

module _ (begins ends first : List ℕ) (j : ℕ) where
  pub kept_at : (k : ℕ) → at first j ≤ k → k < at first (j + 1) → Memᴰ (span begins ends k) (kept_busy begins ends first j)
  unfolding kept_busy
  kept_at k from to =
      let e : at first j + (k - at first j) ≡ k = omega arith in
      rw e at (stands_in_listing (λ i. span begins ends (at first j + i)) (at first (j + 1) - at first j) (k - at first j) (omega arith))

  pub kept_from :
      {v : Interval} → Memᴰ v (kept_busy begins ends first j)
      → (k : ℕ) × (at first j ≤ k) × (k < at first (j + 1)) × (v ≡ span begins ends k)
  unfolding kept_busy
  kept_from m =
      let (i, l, e) = in_listing (λ i. span begins ends (at first j + i)) (at first (j + 1) - at first j) m in
      (at first j + i, omega arith, omega arith, e)

module _ {begins ends first : List ℕ} (order : InOrder begins ends first) where
  first_up : (more j : ℕ) → j + more ≤ 16 → at first j ≤ at first (j + more)
  first_up zero j l = let e : j + 0 ≡ j = omega arith in rw e (omega arith)
  first_up (suc more) j l =
      let e : j + suc more ≡ j + more + 1 = omega arith in
      rw e (omega (arith, first_up more j (omega arith), order.first_rises (j + more) (omega arith)))

  -- Those of an earlier processor stand before those of a later one.
  pub first_in_order : (i j : ℕ) → i ≤ j → j ≤ 16 → at first i ≤ at first j
  first_in_order i j l m = let e : i + (j - i) ≡ j = omega arith in rw e at (first_up (j - i) i (omega arith))

  pub first_at_most : AtMost room_most first
  first_at_most i = go (dec_le i 16)
    where
      go : Dec (i ≤ 16) → at first i ≤ room_most
      go (yes l) = omega (arith, first_in_order i 16 l (omega arith), order.few)
      go (no l) = rw (get_or-eq_default first 0 {n = i} (omega (arith, order.first_size))) (omega arith)

  -- Only the 16 are busy.
  pub kept_below : {j : ℕ} {v : Interval} → Memᴰ v (kept_busy begins ends first j) → j < 16
  kept_below {j} m = go (dec_lt j 16)
    where
      go : Dec (j < 16) → j < 16
      go (yes l) = l
      go (no past) =
          let (k, from, to, e) = kept_from begins ends first j m in
          absurd (omega (arith, get_or-eq_default first 0 {n = j + 1} (omega (arith, order.first_size))))

  pub kept_has_minutes : {j : ℕ} → j < 16 → {v : Interval} → Memᴰ v (kept_busy begins ends first j) → v.begin < v.end
  kept_has_minutes {j} below {v} m =
      let (k, from, to, e) = kept_from begins ends first j m in
      rw e (order.have_minutes k (omega (arith, first_in_order (j + 1) 16 (omega arith) (omega arith))))

-- A task can start at t: none that is kept from `from` on, up to `to`, is in the way.
abbrev pub FreeOf : (begins ends : List ℕ) (from to minutes t : ℕ) → Type 0
FreeOf begins ends from to minutes t = (k : ℕ) → from ≤ k → k < to → Overlap (minutes_from t minutes) (span begins ends k) → ⊥

module _ (begins ends first : List ℕ) (j : ℕ) where
  pub free_of_all :
      (minutes t : ℕ) → FreeOf begins ends (at first j) (at first (j + 1)) minutes t → Free (kept_busy begins ends first j) minutes t
  free_of_all minutes t f v m o =
      let (k, from, to, e) = kept_from begins ends first j m in
      f k from to (subst (Overlap (minutes_from t minutes)) e o)

  pub free_at_each :
      (minutes t : ℕ) → Free (kept_busy begins ends first j) minutes t → FreeOf begins ends (at first j) (at first (j + 1)) minutes t
  free_at_each minutes t f k from to = f (span begins ends k) (kept_at begins ends first j k from to)

-- At first there is none.
pub none_busy : (j : ℕ) → kept_busy (replicate 128 0) (replicate 128 0) (replicate 17 0) j ≡ []
unfolding kept_busy listing
none_busy j = rw (repeated {A = ℕ} 17 0 j, repeated {A = ℕ} 17 0 (j + 1))
