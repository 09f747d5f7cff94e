-- A good request means a workflow in range, and has at most `request_most` bytes.
use Rattle.std.specs.Prelude.{◌≡◌, refl, ℕ, zero, suc, ◌+◌, ◌*◌, ◌<◌, ◌≤◌, Bool, true, false, cond, length, eqb}
use Rattle.std.proofs.Common.{sym, subst, mul-le-mul, arith, ⊎_elim, lt-ltb, ltb-true, ne_eqb}
use Rattle.std.proofs.Math.Bool.{and-eq-true_iff}
use mathlib.Core.List.Memᴰ
use mathlib.Core.List.{List, [], ◌∷◌, Memᴰ}
use Rattle.rules.specs.Fields.{M_processor, T, W, size, body}
use Rattle.rules.specs.Reading.{Request}
use Rattle.rules.specs.Workflow.{Interval, workflow, busy_with, window_of, windows_on, processor_place, window_place, task_place, edge_place}
use Rattle.good.specs.Good.{Good}
use Rattle.good.specs.Ranges.{InRange, request_most}
use Rattle.good.specs.Processors.{past_processors_most}

-- What is 0 out of range is at most what it is in range.
or_zero_at_most : {x most : ℕ} (t : Bool) → (t ≡ true → x ≤ most) → cond t x 0 ≤ most
or_zero_at_most true h = h refl
or_zero_at_most false h = omega arith

-- What holds of every window holds of all that processors are busy with at first.
first_of_windows : (s : List ℕ) (r : Request) (P : Interval → Type 0) (k : ℕ) → ((e : ℕ) → e < k → P (window_of s (window_place r e))) →
    (j : ℕ) (v : Interval) → Memᴰ v (windows_on s r k j) → P v
unfolding windows_on busy_with
first_of_windows s r P zero each j v m = absurd (Memᴰ.not-nil m)
first_of_windows s r P (suc k) each j v m =
    go (eqb (M_processor s (window_place r k)) j) (first_of_windows s r P k (λ e h. each e (omega arith)) j v) m
  where
    go : (t : Bool) → (Memᴰ v (windows_on s r k j) → P v) →
        Memᴰ v (cond t (window_of s (window_place r k) ∷ windows_on s r k j) (windows_on s r k j)) → P v
    go true before m = ⊎_elim (λ e. subst P (sym e) (each k (omega arith))) before (Memᴰ.cases_cons m)
    go false before m = before m

pub good_in_range : (s : List ℕ) (r : Request) → Good s r → InRange (workflow s r)
unfolding workflow window_of
good_in_range s r g =
    record {
      tasks_in = g.tasks_in;
      processors_in = g.processors_in;
      budget_in = g.budget_in;
      deadline_in = g.deadline_in;
      edges_in = g.edges_in;
      price_in = λ j. or_zero_at_most _ (λ below. g.price_in j (ltb-true _ _ below));
      minimum_in = λ j. or_zero_at_most _ (λ below. g.minimum_in j (ltb-true _ _ below));
      first_minutes = first_of_windows s r (λ v. v.begin < v.end) r.windows (λ e h. (g.window_in e h).has_minutes);
      first_end_in = first_of_windows s r (λ v. v.end ≤ 20_000) r.windows (λ e h. (g.window_in e h).end_in);
      clock_in = omega arith;
      minutes_most =
          λ i j.
          or_zero_at_most _
          (λ below.
          let (i_below, j_below) = (and-eq-true_iff _ _).0 below in
          g.minutes_in i j (ltb-true _ _ i_below) (ltb-true _ _ j_below));
      from_below = λ e h. rw (lt-ltb e _ h) (g.edge_in e h).from_below;
      to_below = λ e h. rw (lt-ltb e _ h) (g.edge_in e h).to_below;
      unequal = λ e h. rw (lt-ltb e _ h) (g.edge_in e h).unequal;
      transfer_in = λ e. or_zero_at_most _ (λ below. (g.edge_in e (ltb-true _ _ below)).transfer_in);
      from_rises = λ e h. rw (lt-ltb e _ (before h), lt-ltb (e + 1) _ h) (g.rises e h).by_first;
      to_rises = λ e h. rw (lt-ltb e _ (before h), lt-ltb (e + 1) _ h) (g.rises e h).then_second;
    }
  where
    before : {e : ℕ} → e + 1 < r.edges → e < r.edges
    before h = omega arith

-- A processor that no window is of is busy with none.
none_on : (s : List ℕ) (r : Request) (j k : ℕ) → ((e : ℕ) → e < k → M_processor s (window_place r e) ≡ j → ⊥) → windows_on s r k j ≡ []
unfolding windows_on busy_with
none_on s r j zero other = refl
none_on s r j (suc k) other =
    rw (ne_eqb (M_processor s (window_place r k)) j (other k (omega arith))) (none_on s r j k (λ e h. other e (omega arith)))

-- Past the last processor none is busy with a window.
pub no_windows_beyond : (s : List ℕ) (r : Request) → Good s r → (j : ℕ) → r.processors ≤ j → (workflow s r).busy_at_first j ≡ []
unfolding workflow
no_windows_beyond s r g j past = none_on s r j r.windows (λ e h same. omega (arith, (g.window_in e h).processor_below))

-- The records of all tasks take at most 64 times 90 bytes.
pub tasks_at_most : {n m : ℕ} → n ≤ 64 → m ≤ 16 → n * (size T + m * size W) ≤ 5_760
unfolding size body
tasks_at_most {m} few narrow =
    let a_task : 10 + m * 5 ≤ 90 = omega arith in
    mul-le-mul few a_task

-- "So a good request, one not refused with 1 to 6, has at most 9,056 bytes."
pub good_length : (s : List ℕ) (r : Request) → Good s r → length s ≤ request_most
unfolding processor_place window_place task_place edge_place size body
good_length s r g =
    omega (
      arith,
      tasks_at_most g.tasks_in.to_high g.processors_in.to_high,
      past_processors_most s r.prices_at r.processors,
      g.windows_begin,
      g.windows_in,
      g.tasks_begin,
    )
