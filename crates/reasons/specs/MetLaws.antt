-- The earliest window and the lowest row that a task would overlap, as windows and rows are passed.
use Rattle.std.specs.Prelude.{ℕ, zero, suc, ◌+◌, ◌≤◌, ◌<◌, ◌≡◌, refl, Bool, true, false, cond, not, ◌&&◌, ◌||◌, List, ◌∷◌, eqb}
use Rattle.std.proofs.Common.{arith, add-one}
use Rattle.rules.specs.Fields.{M_processor}
use Rattle.rules.specs.Reading.{Request}
use Rattle.rules.specs.Workflow.{Interval, window_place, window_of, windows_on, busy_with}
use Rattle.rules.specs.Start.{overlap, minutes_from}
use Rattle.rules.specs.Orders.{tie, among, first}
use Rattle.rules.specs.Why.{Met, none, met, earlier, earliest_met, meets_row, lowest_met}
use Rattle.laws.specs.First.{first_next, first_below}

-- What is met on processor j with one interval more, which processor `on` is busy with.
unfoldable pub met_with : (on : ℕ) → Interval → (j : ℕ) → Interval → Met → Met
met_with on v j task so_far = cond (eqb on j) (cond (overlap task v) (met (earlier v so_far)) so_far) so_far

pub earliest_met_none : (s : List ℕ) (r : Request) (j minutes t : ℕ) → none ≡ earliest_met (windows_on s r 0 j) minutes t
unfolding windows_on earliest_met
earliest_met_none s r j minutes t = refl

-- One turn of a loop.
pub earliest_met_next :
    (s : List ℕ) (r : Request) (k j minutes t : ℕ) {x y : Met} → x ≡ earliest_met (windows_on s r k j) minutes t
    → y ≡ met_with (M_processor s (window_place r k)) (window_of s (window_place r k)) j (minutes_from t minutes) x
    → y ≡ earliest_met (windows_on s r (k + 1) j) minutes t
unfolding windows_on busy_with earliest_met met_with
earliest_met_next s r k j minutes t e h = rw (h, e, add-one k) (go (eqb (M_processor s (window_place r k)) j))
  where
    busy : List Interval
    busy = windows_on s r k j

    v : Interval
    v = window_of s (window_place r k)

    so_far : Met
    so_far = earliest_met busy minutes t

    go :
        (b : Bool) → cond b (cond (overlap (minutes_from t minutes) v) (met (earlier v so_far)) so_far) so_far ≡ earliest_met (cond b (v ∷ busy) busy) minutes t
    go true = refl
    go false = refl

pub lowest_met_next :
    (sits begins ends : ℕ → ℕ) (minutes i t k : ℕ) {x r : ℕ} → x ≡ lowest_met k sits begins ends minutes i t
    → r ≡ cond (meets_row sits begins ends minutes i t k && not (meets_row sits begins ends minutes i t x)) k x
    → r ≡ lowest_met (k + 1) sits begins ends minutes i t
unfolding lowest_met among tie
lowest_met_next sits begins ends minutes i t k {x} e h = first_next k (among test tie) e (rw (← go (test k) (test x)) at h)
  where
    test : ℕ → Bool
    test = meets_row sits begins ends minutes i t

    go : (a b : Bool) → (a && (not b || false)) ≡ (a && not b)
    go false b = refl
    go true false = refl
    go true true = refl

-- Where none is met it is task 0, so that it is below 64 whether there are rows or not.
pub lowest_met_below :
    (sits begins ends : ℕ → ℕ) (minutes i t k : ℕ) {x : ℕ} → x ≡ lowest_met k sits begins ends minutes i t → k ≤ 64 → x < 64
unfolding lowest_met first
lowest_met_below sits begins ends minutes i t zero e few = omega arith
lowest_met_below sits begins ends minutes i t (suc k) e few = omega (arith, e, first_below (suc k) (among (meets_row sits begins ends minutes i t) tie) (omega arith))
