-- The laws of the start on a processor, which are all that is used of it, with those of `SameStart`. It is the least minute from ready on at which the
-- task overlaps nothing that the processor is busy with, and no other minute is; it is at most any bound of ready and of what is busy; and it is
-- multiplied with its arguments.
use Prim.Native.Nat.{ℕ, zero, suc, ◌+◌, ◌*◌, ◌-◌, ◌≤◌, max, min}
use Rattle.std.specs.Prelude.{◌≡◌, true, false, ◌&&◌, ◌⊎◌}
use Rattle.std.proofs.Math.Path.{refl, ap₂}
use Rattle.std.proofs.Common.{sym, ap, ◌∙◌, inl, inr, mul-zero}
use Rattle.std.proofs.Math.Bool.{not, true≢false}
use mathlib.Core.List.Memᴰ
use mathlib.Core.List.{List, [], ◌∷◌, map, Memᴰ}
use Rattle.std.proofs.Math.Logic.{⊎_elim}
use Rattle.std.proofs.Math.Decide.{ℕ_discrete}
use Rattle.std.proofs.Math.Nat.{mul-add}
use native.Mathlib.Omega.{arith}
use Rattle.rules.specs.Workflow.{Interval}
use Rattle.rules.specs.Start.{minutes_from, Free, Starts, overlap, free, latest_end, if_free, least_end, start_on}
use Rattle.rules.specs.Multiplied.{multiplied_interval}
use Rattle.laws.specs.Tests.{cond_either, cond_mapped, ltb_multiplied}
use Rattle.laws.specs.Numbers.{min_either, max_multiplied, min_multiplied}
use Rattle.laws.specs.Free.{free_told, free_tested, latest_end_bounds, latest_end_at_most}

module _ (busy : List Interval) (ready minutes : ℕ) where
  -- A minute at which the task can start.
  record Possible (t : ℕ) : Type 0 where
    from_ready : ready ≤ t
    at_it : Free busy minutes t

  module _ (t otherwise : ℕ) where
    if_free_either :
        (P : ℕ → Type 0) → (Free busy minutes t → P (min t otherwise)) → ((Free busy minutes t → ⊥) → P otherwise)
        → P (if_free busy minutes t otherwise)
    unfolding if_free
    if_free_either P one other =
        cond_either P (free busy minutes t) _ _ (λ e. one (free_told busy minutes t e))
        (λ e. other (λ f. true≢false (sym (free_tested busy minutes t f) ∙ e)))

    if_free_possible : ready ≤ t → Possible otherwise → Possible (if_free busy minutes t otherwise)
    if_free_possible from_ready other =
        if_free_either Possible
        (λ f. ⊎_elim (λ q. rw q (record { from_ready = from_ready; at_it = f })) (λ q. rw q other) (min_either t otherwise))
        (λ _. other)

    if_free_at_most : if_free busy minutes t otherwise ≤ otherwise
    if_free_at_most = if_free_either (λ x. x ≤ otherwise) (λ f. omega arith) (λ _. omega arith)

    if_free_least : Free busy minutes t → if_free busy minutes t otherwise ≤ t
    if_free_least f = if_free_either (λ x. x ≤ t) (λ _. omega arith) (λ none. absurd (none f))

  least_end_possible : (some : List Interval) → Possible (least_end busy ready minutes some)
  unfolding least_end
  least_end_possible [] = record { from_ready = omega arith; at_it = λ v m o. omega (arith, latest_end_bounds busy m) }
  least_end_possible (v ∷ some) = if_free_possible (max ready v.end) (least_end busy ready minutes some) (omega arith) (least_end_possible some)

  least_end_at_most : (some : List Interval) → least_end busy ready minutes some ≤ max ready (latest_end busy)
  unfolding least_end
  least_end_at_most [] = omega arith
  least_end_at_most (v ∷ some) =
      omega (arith, if_free_at_most (max ready v.end) (least_end busy ready minutes some), least_end_at_most some)

  least_end_least :
      (some : List Interval) {v : Interval} → Memᴰ v some → Free busy minutes (max ready v.end)
      → least_end busy ready minutes some ≤ max ready v.end
  unfolding least_end
  least_end_least [] m f = absurd (Memᴰ.not-nil m)
  least_end_least (u ∷ some) {v} m f =
      ⊎_elim
      (λ (q : v ≡ u). rw q (if_free_least (max ready u.end) (least_end busy ready minutes some) (rw q at f)))
      (λ m'. omega (arith, if_free_at_most (max ready u.end) (least_end busy ready minutes some), least_end_least some m' f))
      (Memᴰ.cases_cons m)

  start_possible : Possible (start_on busy ready minutes)
  unfolding start_on
  start_possible = if_free_possible ready (least_end busy ready minutes busy) (omega arith) (least_end_possible busy)

  -- Something of what is busy ends at u, or nothing does.
  ends_at : (vs : List Interval) (u : ℕ) → ((v : Interval) × Memᴰ v vs × (v.end ≡ u)) ⊎ ((v : Interval) → Memᴰ v vs → v.end ≡ u → ⊥)
  ends_at [] u = inr (λ v m e. Memᴰ.not-nil m)
  ends_at (w ∷ vs) u = go (ℕ_discrete w.end u) (ends_at vs u)
    where
      go :
          Dec (w.end ≡ u) → ((v : Interval) × Memᴰ v vs × (v.end ≡ u)) ⊎ ((v : Interval) → Memᴰ v vs → v.end ≡ u → ⊥)
          → ((v : Interval) × Memᴰ v (w ∷ vs) × (v.end ≡ u)) ⊎ ((v : Interval) → Memᴰ v (w ∷ vs) → v.end ≡ u → ⊥)
      go (yes e) rest = inl (w, Memᴰ.head refl, e)
      go (no n) (inl (v, m, e)) = inl (v, Memᴰ.tail m, e)
      go (no n) (inr none) =
          inr (λ v m e.
          ⊎_elim (λ (q : v ≡ w). n (sym (ap (λ (x : Interval). x.end) q) ∙ e)) (λ m'. none v m' e) (Memᴰ.cases_cons m))

  -- Where nothing ends at a minute at which the task can start, it can start a minute before.
  free_before : (u : ℕ) → ((v : Interval) → Memᴰ v busy → v.end ≡ u + 1 → ⊥) → Free busy minutes (u + 1) → Free busy minutes u
  free_before u none f v m o = f v m (omega (arith, none v m))

  start_least : (later u : ℕ) → u ≡ ready + later → Free busy minutes u → start_on busy ready minutes ≤ u
  unfolding start_on
  start_least zero u e f = let at_ready : u ≡ ready = omega arith in rw at_ready (if_free_least ready (least_end busy ready minutes busy) (rw at_ready at f))
  start_least (suc later) u e f = ⊎_elim at_an_end (before (start_least later (ready + later) refl)) (ends_at busy u)
    where
      at_an_end : (v : Interval) × Memᴰ v busy × (v.end ≡ u) → start_on busy ready minutes ≤ u
      at_an_end (v, m, ends) =
          let there : max ready v.end ≡ u = omega arith in
          omega (arith, if_free_at_most ready (least_end busy ready minutes busy), least_end_least busy m (rw there f))

      before :
          (Free busy minutes (ready + later) → start_on busy ready minutes ≤ ready + later)
          → ((v : Interval) → Memᴰ v busy → v.end ≡ u → ⊥) → start_on busy ready minutes ≤ u
      before earlier none =
          let next : u ≡ ready + later + 1 = omega arith in
          omega (arith, earlier (free_before (ready + later) (rw next at none) (rw next at f)))

  -- The minute that is computed is the one that the rules speak of, and no other is.
  pub start_is : Starts busy ready minutes (start_on busy ready minutes)
  start_is =
      record {
        not_before_ready = start_possible.from_ready;
        overlaps_nothing = start_possible.at_it;
        none_earlier = λ u from_ready f. start_least (u - ready) u (omega arith) f;
      }

  pub start_not_before_ready : ready ≤ start_on busy ready minutes
  start_not_before_ready = start_is.not_before_ready

  pub starts_there : {t : ℕ} → Starts busy ready minutes t → t ≡ start_on busy ready minutes
  starts_there {t} there =
      omega (
        arith,
        there.none_earlier _ start_is.not_before_ready start_is.overlaps_nothing,
        start_is.none_earlier t there.not_before_ready there.overlaps_nothing,
      )

  pub start_at_most : (c : ℕ) → ready ≤ c → ((v : Interval) → Memᴰ v busy → v.end ≤ c) → start_on busy ready minutes ≤ c
  unfolding start_on
  start_at_most c h each =
      omega (
        arith,
        if_free_at_most ready (least_end busy ready minutes busy),
        least_end_at_most busy,
        latest_end_at_most c busy each,
      )

-- All times multiplied by a number of at least 1.
latest_end_multiplied : (a : ℕ) (vs : List Interval) → latest_end (map (multiplied_interval a) vs) ≡ a * latest_end vs
unfolding latest_end multiplied_interval
latest_end_multiplied a [] = sym (mul-zero a)
latest_end_multiplied a (v ∷ vs) = rw (latest_end_multiplied a vs) (max_multiplied a (latest_end vs) v.end)

module _ (a : ℕ) (pa : 1 ≤ a) (minutes : ℕ) where
  overlap_multiplied :
      (t : ℕ) (v : Interval) → overlap (minutes_from (a * t) (a * minutes)) (multiplied_interval a v) ≡ overlap (minutes_from t minutes) v
  unfolding overlap multiplied_interval
  overlap_multiplied t v =
      rw (← mul-add a t minutes, max_multiplied a t v.begin, min_multiplied a (t + minutes) v.end)
      (ltb_multiplied a pa (max t v.begin) (min (t + minutes) v.end))

  free_multiplied : (t : ℕ) (busy : List Interval) → free (map (multiplied_interval a) busy) (a * minutes) (a * t) ≡ free busy minutes t
  unfolding free
  free_multiplied t [] = refl
  free_multiplied t (v ∷ busy) = ap₂ (λ meets rest. not meets && rest) (overlap_multiplied t v) (free_multiplied t busy)

  if_free_multiplied :
      (busy : List Interval) (t otherwise : ℕ)
      → if_free (map (multiplied_interval a) busy) (a * minutes) (a * t) (a * otherwise) ≡ a * if_free busy minutes t otherwise
  unfolding if_free
  if_free_multiplied busy t otherwise =
      rw (free_multiplied t busy, min_multiplied a t otherwise) (sym (cond_mapped (λ x. a * x) (free busy minutes t) (min t otherwise) otherwise))

  least_end_multiplied :
      (busy : List Interval) (ready : ℕ) (some : List Interval)
      → least_end (map (multiplied_interval a) busy) (a * ready) (a * minutes) (map (multiplied_interval a) some) ≡ a * least_end busy ready minutes some
  unfolding least_end multiplied_interval
  least_end_multiplied busy ready [] = rw (latest_end_multiplied a busy) (max_multiplied a ready (latest_end busy))
  least_end_multiplied busy ready (v ∷ some) =
      rw (max_multiplied a ready v.end, least_end_multiplied busy ready some)
      (if_free_multiplied busy (max ready v.end) (least_end busy ready minutes some))

pub start_on_multiplied :
    (vs : List Interval) (ready minutes a : ℕ) → 1 ≤ a
    → start_on (map (multiplied_interval a) vs) (a * ready) (a * minutes) ≡ a * start_on vs ready minutes
unfolding start_on
start_on_multiplied vs ready minutes a pa =
    rw (least_end_multiplied a pa minutes vs ready vs) (if_free_multiplied a pa minutes vs ready (least_end vs ready minutes vs))

-- At 0 nothing overlaps any more, so that what was not free is: a task of 2 minutes from minute 0 on, beside a row of 2. The start is 0 on both sides all the
-- same, since a task of no minutes can start at once; so the law would hold there too, but not for its reason.
pub free_at_0_alone :
    let row : Interval = record { begin = 0; end = 2 } in
    (free (row ∷ []) 2 0 ≡ false) × (free (multiplied_interval 0 row ∷ []) (0 * 2) (0 * 0) ≡ true)
unfolding free overlap multiplied_interval
free_at_0_alone = (refl, refl)

pub start_multiplied_by_0 :
    (vs : List Interval) (ready minutes : ℕ) → start_on (map (multiplied_interval 0) vs) (0 * ready) (0 * minutes) ≡ 0 * start_on vs ready minutes
start_multiplied_by_0 vs ready minutes =
    sym (starts_there (map (multiplied_interval 0) vs) (0 * ready) (0 * minutes)
    (record { not_before_ready = omega arith; overlaps_nothing = λ v m o. omega arith; none_earlier = λ u h f. omega arith }))

-- A task of no minutes overlaps nothing: it starts when its data is ready, inside what is busy too.
pub start_of_none : (busy : List Interval) (ready : ℕ) → start_on busy ready 0 ≡ ready
start_of_none busy ready =
    let start = start_is busy ready 0 in
    let free : Free busy 0 ready = λ v m o. omega arith in
    omega (arith, start.not_before_ready, start.none_earlier ready (omega arith) free)
