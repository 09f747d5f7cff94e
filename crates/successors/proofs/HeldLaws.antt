-- What holds each task back: once all edges are counted, and after one more task is placed; and where it is 0 the task may be the next.
use Prim.Native.Nat.{ℕ, zero, suc, ◌+◌, ◌-◌, ◌≤◌, ◌<◌}
use Rattle.std.specs.Prelude.{◌≡◌, Bool, not, ◌&&◌, ◌||◌, List, eqb, length, set}
use Rattle.std.proofs.Math.Path.{refl, ap}
use Rattle.std.proofs.Common.{sym, ◌∙◌, eqb-true, eq-eqb, ne_eqb}
use Rattle.std.proofs.Math.Bool.{true, false, cond}
use Rattle.std.proofs.lemmas.Bool.{false≢true, eqb-false}
use Rattle.std.proofs.Math.Decide.{ℕ_discrete, dec_le, dec_lt}
use native.Mathlib.Omega.{arith}
use Rattle.std.proofs.Math.ListN.{length-set}
use Rattle.rules.specs.Folds.{sum, any}
use Rattle.rules.specs.Workflow.{Workflow}
use Rattle.rules.specs.Ranks.{waits, may_be_next}
use Rattle.good.specs.Ranges.{InRange}
use Rattle.laws.specs.Folds.{sum_same}
use Rattle.laws.specs.Stores.{at, stored_holds}
use Rattle.laws.specs.Tests.{false_unless_true}
use Rattle.laws.specs.Unmarked.{sum_unmarked, and_marked, sum_unmarked_less}
use Rattle.successors.specs.Begins.{Begins, from_between}
use Rattle.successors.specs.Held.{into, waited_for, held_back, Held, counted_down, released}
use Rattle.successors.specs.Counted.{Counted}
use Rattle.successors.specs.MarkedOn.{marked_on, marked_among, marked_as_before}

-- All edges are counted, and no task is placed.
pub held_at_first : (W : Workflow) (k : ℕ) (held : List ℕ) → k ≡ W.edges → Counted W k held → Held W (λ i. false) held
unfolding held_back waited_for
held_at_first W k held all counted =
    record { size = counted.size; holds = λ i. counted.counts i ∙ ap (λ n. sum n (into W i)) all }

-- Of tests that say which values are not 0: the sum is 0 where none passes.
sum_none : (k : ℕ) (f : ℕ → ℕ) (test : ℕ → Bool) → ((i : ℕ) → eqb (f i) 0 ≡ not (test i)) → eqb (sum k f) 0 ≡ not (any k test)
unfolding sum any
sum_none zero f test each = refl
sum_none (suc k) f test each = go (any k test) (test k) (sum k f) (f k) (sum_none k f test each) (each k)
  where
    go : (s t : Bool) (x y : ℕ) → eqb x 0 ≡ not s → eqb y 0 ≡ not t → eqb (x + y) 0 ≡ not (s || t)
    go true t x y some other = ne_eqb (x + y) 0 (λ q. eqb-false x 0 some (omega arith))
    go false true x y none some = ne_eqb (x + y) 0 (λ q. eqb-false y 0 some (omega arith))
    go false false x y none other = eq-eqb (x + y) 0 (omega (arith, eqb-true x 0 none, eqb-true y 0 other))

-- A task may be the next where nothing holds it back.
pub held_back_next : (W : Workflow) (placed : ℕ → Bool) (i : ℕ) → eqb (held_back W placed i) 0 ≡ may_be_next W placed i
unfolding held_back waited_for may_be_next waits
held_back_next W placed i =
    go (placed i) (waited_for W placed i) (waits W placed i)
    (sum_none W.edges _ _ (λ e. each (placed (W.from e)) (eqb (W.to e) i)))
  where
    each : (from to : Bool) → eqb (cond from 0 (cond to 1 0)) 0 ≡ not (to && not from)
    each true true = refl
    each true false = refl
    each false true = refl
    each false false = refl

    go : (t : Bool) (n : ℕ) (w : Bool) → eqb n 0 ≡ not w → eqb (cond t 1 n) 0 ≡ (not t && not w)
    go true n w h = refl
    go false n w h = h

module _ (W : Workflow) (begin : ℕ) (held : List ℕ) where
  length_counted_down : (k : ℕ) → length (counted_down W begin held k) ≡ length held
  unfolding counted_down
  length_counted_down zero = refl
  length_counted_down (suc k) = length-set (counted_down W begin held k) _ _ ∙ length_counted_down k

  -- One edge more, which leads to `to`.
  pub counted_down_next :
      (e to r : ℕ) (xs : List ℕ) → begin ≤ e → xs ≡ counted_down W begin held (e - begin) → to ≡ W.to e → r ≡ at xs to - 1
      → set xs to r ≡ counted_down W begin held (e + 1 - begin)
  unfolding counted_down
  counted_down_next e to r xs l so_far leads less =
      let next : e + 1 - begin ≡ suc (e - begin) = omega arith in
      let place : begin + (e - begin) ≡ e = omega arith in
      rw (next, place, less, leads, so_far)

-- A task is placed, whose edges stand from `begin` on up to `end`.
module _ (W : Workflow) (range : InRange W) (placed : ℕ → Bool)
    (begin end task : ℕ) (first : Begins W task begin) (last : Begins W (task + 1) end) where
  -- The edges from the tasks that were placed before, and k of this one's.
  abbrev passed : ℕ → ℕ → Bool
  passed k = marked_on begin (λ e. placed (W.from e)) k

  -- All of this one's: then these are the edges from the tasks that are placed now.
  passed_all : (e : ℕ) → e < W.edges → passed (end - begin) e ≡ and_marked task placed (W.from e)
  passed_all e there = go (dec_le begin e) (dec_lt e end)
    where
      go : Dec (begin ≤ e) → Dec (e < end) → passed (end - begin) e ≡ and_marked task placed (W.from e)
      go (yes l) (yes m) =
          rw (eq-eqb task (W.from e) (sym (from_between W range task begin end e first last l m)))
          (marked_among begin _ (end - begin) e l (omega arith))
      go (yes l) (no n) =
          rw (ne_eqb task (W.from e) (λ q. omega (arith, last.onward e (omega arith) there)))
          (marked_as_before begin _ (end - begin) e (λ j b q. omega arith))
      go (no n) m =
          rw (ne_eqb task (W.from e) (λ q. omega (arith, first.before e (omega arith))))
          (marked_as_before begin _ (end - begin) e (λ j b q. omega arith))

  -- The edges into task i that are not passed.
  abbrev left : ℕ → ℕ → ℕ
  left k i = sum_unmarked W.edges (passed k) (into W i)

  -- What the array holds once k of the task's edges are passed.
  abbrev HeldWith : ℕ → List ℕ → Type 0
  HeldWith k xs = (i : ℕ) → at xs i ≡ cond (and_marked task placed i) 1 (left k i)

  held_with_none : (held : List ℕ) → Held W placed held → task < 64 → HeldWith 0 (set held task 1)
  unfolding marked_on held_back waited_for
  held_with_none held is below =
      stored_holds held (held_back W placed) _ task 1 0 (omega (arith, is.size)) is.holds (λ i. go (eqb task i) (placed i) 1 _)
    where
      go : (s t : Bool) (x y : ℕ) → cond s x (cond t x y) ≡ cond (s || t) x y
      go true t x y = refl
      go false t x y = refl

  held_with_all : (xs : List ℕ) → length xs ≡ 64 → HeldWith (end - begin) xs → Held W (and_marked task placed) xs
  unfolding held_back waited_for
  held_with_all xs size all = record { size = size; holds = λ i. all i ∙ ap (cond (and_marked task placed i) 1) (same i) }
    where
      same : (i : ℕ) → left (end - begin) i ≡ sum_unmarked W.edges (λ e. and_marked task placed (W.from e)) (into W i)
      same i = sum_same W.edges _ _ (λ e l. ap (λ t. cond t 0 (into W i e)) (passed_all e l))

  module _ (below : task < W.tasks) (free : placed task ≡ false)
      (closed : (e : ℕ) → e < W.edges → placed (W.to e) ≡ true → placed (W.from e) ≡ true) where
    -- One more of the task's edges.
    module _ (k : ℕ) (more : begin + k < end) where
      abbrev edge : ℕ
      edge = begin + k

      abbrev to : ℕ
      to = W.to edge

      there : edge < W.edges
      there = omega (arith, last.within)

      from_task : W.from edge ≡ task
      from_task = from_between W range task begin end edge first last (omega arith) more

      -- It leads to no placed task, and not back to its own.
      to_unplaced : and_marked task placed to ≡ false
      to_unplaced =
          rw (ne_eqb task to (λ q. range.unequal edge there (from_task ∙ q)))
          (false_unless_true _ (λ h. false≢true (sym free ∙ ap placed (sym from_task) ∙ closed edge there h)))

      left_less : (i : ℕ) → left (suc k) i + into W i edge ≡ left k i
      unfolding marked_on
      left_less i =
          sum_unmarked_less (passed k) (into W i) W.edges edge there
          (marked_as_before begin _ k edge (λ j l q. omega arith) ∙ ap placed from_task ∙ free)

      held_with_next : (xs : List ℕ) → length xs ≡ 64 → HeldWith k xs → HeldWith (suc k) (set xs to (at xs to - 1))
      held_with_next xs size so_far =
          stored_holds xs _ _ to _ 0 (omega (arith, range.to_below edge there, range.tasks_in)) so_far (λ i. go i (ℕ_discrete to i) (left_less i))
        where
          go : (i : ℕ) → Dec (to ≡ i) → left (suc k) i + cond (eqb to i) 1 0 ≡ left k i
              → cond (eqb to i) (at xs to - 1) (cond (and_marked task placed i) 1 (left k i)) ≡ cond (and_marked task placed i) 1 (left (suc k) i)
          go i (yes q) less =
              let one = rw (eq-eqb to i q, ← q) at less in
              rw (eq-eqb to i q, ← q, to_unplaced) (omega (arith, rw to_unplaced at (so_far to), one))
          go i (no n) less =
              let none = rw (ne_eqb to i n) at less in
              rw (ne_eqb to i n) (ap (cond (and_marked task placed i) 1) (omega (arith, none)))

    module _ (held : List ℕ) (is : Held W placed held) where
      abbrev after : ℕ → List ℕ
      after k = counted_down W begin (set held task 1) k

      size_after : (k : ℕ) → length (after k) ≡ 64
      size_after k = length_counted_down W begin (set held task 1) k ∙ length-set held task 1 ∙ is.size

      held_with : (k : ℕ) → k ≤ end - begin → HeldWith k (after k)
      unfolding counted_down
      held_with zero l = held_with_none held is (omega (arith, range.tasks_in))
      held_with (suc k) l = held_with_next k (omega arith) (after k) (size_after k) (held_with k (omega arith))

      pub held_released : Held W (and_marked task placed) (released W begin end task held)
      unfolding released
      held_released = held_with_all (after (end - begin)) (size_after (end - begin)) (held_with (end - begin) (omega arith))
