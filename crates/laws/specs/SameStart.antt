-- What a processor may be busy with for the same starts: only when a task can start counts, and so only which intervals there are.
use Rattle.std.specs.Prelude.{ℕ, ◌+◌, ◌-◌, ◌≤◌, ◌<◌, max, ◌≡◌}
use Rattle.std.proofs.Common.{sym, ◌∙◌, subst, ⊎_elim, arith}
use mathlib.Core.List.Memᴰ
use mathlib.Core.List.{List, ◌∷◌, Memᴰ}
use Rattle.rules.specs.Workflow.{Interval}
use Rattle.rules.specs.Start.{minutes_from, Overlap, Free, start_on}
use Rattle.laws.specs.Numbers.{below_or_on}
use Rattle.laws.specs.StartLaws.{start_is, starts_there, start_at_most}

-- For every ready minute and minutes a task starts at the same minute.
abbrev pub SameStart : List Interval → List Interval → Type 0
SameStart one other = (ready minutes : ℕ) → start_on one ready minutes ≡ start_on other ready minutes

-- Where a task can start on the one just when it can start on the other, it starts at the same minute; and the other way round.
module _ (one other : List Interval) where
  pub same_free_same_start :
      ((minutes t : ℕ) → Free one minutes t → Free other minutes t) → ((minutes t : ℕ) → Free other minutes t → Free one minutes t) → SameStart one other
  same_free_same_start to from ready minutes =
      let start = start_is one ready minutes in
      starts_there other ready minutes
      (record {
        not_before_ready = start.not_before_ready;
        overlaps_nothing = to minutes _ start.overlaps_nothing;
        none_earlier = λ u h f. start.none_earlier u h (from minutes u f);
      })

  pub same_start_same_free : SameStart one other → (minutes t : ℕ) → Free one minutes t → Free other minutes t
  same_start_same_free same minutes t f =
      let at_t = starts_there one t minutes (record { not_before_ready = omega arith; overlaps_nothing = f; none_earlier = λ u h _. h }) in
      rw (← (at_t ∙ same t minutes)) at (start_is other t minutes).overlaps_nothing

-- Only which intervals there are counts.
pub same_intervals_same_start :
    (one other : List Interval) → ((v : Interval) → Memᴰ v one → Memᴰ v other) → ((v : Interval) → Memᴰ v other → Memᴰ v one)
    → SameStart one other
same_intervals_same_start one other to from =
    same_free_same_start one other (λ minutes t f v m. f v (from v m)) (λ minutes t f v m. f v (to v m))

-- One more of both.
more_free :
    (v : Interval) (one other : List Interval) → ((minutes t : ℕ) → Free one minutes t → Free other minutes t)
    → (minutes t : ℕ) → Free (v ∷ one) minutes t → Free (v ∷ other) minutes t
more_free v one other to minutes t f u m =
    ⊎_elim (λ (q : u ≡ v). f u (Memᴰ.head q)) (to minutes t (λ w h. f w (Memᴰ.tail h)) u) (Memᴰ.cases_cons m)

pub same_start_more : (v : Interval) (one other : List Interval) → SameStart one other → SameStart (v ∷ one) (v ∷ other)
same_start_more v one other same =
    same_free_same_start (v ∷ one) (v ∷ other)
    (more_free v one other (same_start_same_free one other same))
    (more_free v other one (same_start_same_free other one (λ ready minutes. sym (same ready minutes))))

-- One that has no minutes changes nothing.
pub same_start_none : (v : Interval) (busy : List Interval) → v.end ≤ v.begin → SameStart busy (v ∷ busy)
same_start_none v busy none =
    same_free_same_start busy (v ∷ busy)
    (λ minutes t f u m o.
    ⊎_elim (λ (q : u ≡ v). let over = subst (Overlap (minutes_from t minutes)) q o in omega arith) (λ h. f u h o) (Memᴰ.cases_cons m))
    (λ minutes t f u m. f u (Memᴰ.tail m))

-- Each that has minutes ends by when all of the other end: a task of one minute can't start in its last.
pub same_start_ends :
    (one other : List Interval) → SameStart one other → (c : ℕ) → ((v : Interval) → Memᴰ v other → v.end ≤ c)
    → (v : Interval) → Memᴰ v one → v.begin < v.end → v.end ≤ c
same_start_ends one other same c each v m some = go (v.end - 1) (omega arith)
  where
    go : (last : ℕ) → v.end ≡ last + 1 → v.end ≤ c
    go last e =
        ⊎_elim
        (λ (h : start_on one last 1 ≤ last).
        absurd ((start_is one last 1).overlaps_nothing v m (omega (arith, (start_is one last 1).not_before_ready))))
        (λ (h : last + 1 ≤ start_on one last 1).
        omega (arith, same last 1, start_at_most other last 1 (max last c) (omega arith) (λ u n. omega (arith, each u n))))
        (below_or_on (start_on one last 1) last)
