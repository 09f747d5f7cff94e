-- No task of a plan runs while its machine is down, by the windows that stand in the request: its row has no minute in common with a window of its
-- processor. Stated of the rows that the caller holds, in lent rows or in four buffers.
use Rattle.std.specs.Prelude.{ℕ, zero, suc, ◌≤◌, ◌<◌, ◌≡◌, refl, Bool, true, false, cond, eqb}
use Rattle.std.proofs.Common.{sym, ap, subst, ⊎_elim, eq-or-lt_of_le, le_of_suc-le-suc, arith, eqb-true, eq-eqb}
use mathlib.Core.List.Memᴰ
use mathlib.Core.List.{List, ◌∷◌, Memᴰ}
use Rattle.rules.specs.Fields.{M_processor, M_begin, M_end}
use Rattle.rules.specs.Reading.{Request}
use Rattle.rules.specs.Workflow.{Interval, window_place, busy_with, window_of, windows_on, workflow}
use Rattle.rules.specs.Rows.{Row, taken_up}
use Rattle.rules.specs.Method.{Name, by_HBCS, by_cheapest, by_HEFT}
use Rattle.rules.specs.Budget.{in_force, unbound, held_to, workflow_for}
use Rattle.laws.specs.Free.{common_overlaps}
use Rattle.demands.specs.Demand2.{PlanGot}

-- A processor is busy at first with each of its windows.
pub window_listed :
    (s : List ℕ) (r : Request) (k e j : ℕ) → e < k → M_processor s (window_place r e) ≡ j
    → Memᴰ (window_of s (window_place r e)) (windows_on s r k j)
unfolding windows_on busy_with
window_listed s r zero e j l on = absurd (omega arith)
window_listed s r (suc k) e j l on =
    ⊎_elim
    (λ last.
    rw (eq-eqb (M_processor s (window_place r k)) j (subst (λ x. M_processor s (window_place r x) ≡ j) last on))
    (Memᴰ.head (ap (λ x. window_of s (window_place r x)) last)))
    (λ less. later (eqb (M_processor s (window_place r k)) j) (window_listed s r k e j less on))
    (eq-or-lt_of_le (le_of_suc-le-suc l))
  where
    later :
        (t : Bool) → Memᴰ (window_of s (window_place r e)) (windows_on s r k j)
        → Memᴰ (window_of s (window_place r e)) (cond t (window_of s (window_place r k) ∷ windows_on s r k j) (windows_on s r k j))
    later true m = Memᴰ.tail m
    later false m = m

-- And with nothing else: each of what it is busy with at first is one of the first k windows, and of that processor.
abbrev pub WindowThere : List ℕ → Request → (k j : ℕ) → Interval → Type 0
WindowThere s r k j v = (e : ℕ) × (e < k) × (M_processor s (window_place r e) ≡ j) × (v ≡ window_of s (window_place r e))

pub listed_window : (s : List ℕ) (r : Request) (k j : ℕ) {v : Interval} → Memᴰ v (windows_on s r k j) → WindowThere s r k j v
unfolding windows_on busy_with
listed_window s r zero j = λ m. absurd (Memᴰ.not-nil m)
listed_window s r (suc k) j {v} = go (eqb (M_processor s (window_place r k)) j) refl (listed_window s r k j)
  where
    before : WindowThere s r k j v → WindowThere s r (suc k) j v
    before (e, l, on, is) = (e, omega arith, on, is)

    go :
        (t : Bool) → eqb (M_processor s (window_place r k)) j ≡ t → (Memᴰ v (windows_on s r k j) → WindowThere s r k j v)
        → Memᴰ v (cond t (window_of s (window_place r k) ∷ windows_on s r k j) (windows_on s r k j))
        → WindowThere s r (suc k) j v
    go true on rest m =
        ⊎_elim (λ is. (k, omega arith, eqb-true (M_processor s (window_place r k)) j on, is)) (λ m'. before (rest m')) (Memᴰ.cases_cons m)
    go false on rest m = before (rest m)

-- Whatever is in force, they are what it is busy with at first.
pub windows_held : (M : Name) (s : List ℕ) (r : Request) → (workflow_for M s r).busy_at_first ≡ windows_on s r r.windows
unfolding workflow held_to unbound in_force
windows_held by_HBCS s r = refl
windows_held by_cheapest s r = refl
windows_held by_HEFT s r = refl

-- "`M` is a maintenance window: the processor is down from begin on, up to end." A minute t of a row is none of them.
pub no_row_in_a_window :
    {N : Name} {s : List ℕ} {lent n l c left : ℕ} {row : ℕ → Row} (got : PlanGot N s lent n l c left row) (i e : ℕ) → i < n → e < got.request.windows
    → let window = window_place got.request e in
    M_processor s window ≡ (row i).processor
    → (t : ℕ) → (row i).start ≤ t → t < (row i).finish → M_begin s window ≤ t → t < M_end s window → ⊥
unfolding window_of
no_row_in_a_window {N} {s} {row = row} got i e task below on t started unfinished down until =
    let r = got.request in
    let window = window_of s (window_place r e) in
    got.held.while_up i task window
    (subst (λ busy. Memᴰ window (busy (row i).processor)) (sym (windows_held N s r)) (window_listed s r r.windows e (row i).processor below on))
    (common_overlaps (taken_up (row i)) window (record { in_one = (started, unfinished); in_other = (down, until) }))
