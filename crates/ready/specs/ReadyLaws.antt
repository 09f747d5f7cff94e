-- When a task's data is ready on each processor, as the edges into it are passed, from the last to the first.
use Prim.Native.Nat.{ℕ, ◌+◌, ◌≤◌, ◌<◌, max}
use Rattle.std.specs.Prelude.{◌≡◌, Bool, List, eqb, length, set, replicate}
use Rattle.std.proofs.Math.Path.{refl, ap}
use Rattle.std.proofs.Common.{sym, ◌∙◌, length-set, eq-eqb, ne_eqb}
use Rattle.std.proofs.Math.Bool.{true, false, cond}
use native.Mathlib.Omega.{arith}
use Rattle.std.proofs.Math.ListN.{get_or-replicate}
use Rattle.rules.specs.Folds.{largest}
use Rattle.rules.specs.Workflow.{Workflow}
use Rattle.rules.specs.Start.{arrival, awaited, arrived}
use Rattle.laws.specs.Folds.{largest_next, largest_further}
use Rattle.laws.specs.Stores.{stored_below, at}
use Rattle.links.specs.Links.{LastInto}
use Rattle.laws.specs.FilledLaws.{stored_past}
use Rattle.ready.specs.Ready.{FromClock, WaitedFor}

-- One edge waited for, on one processor after the other.
module _ {on here across : ℕ} where
  pub waited_none : {xs : List ℕ} → WaitedFor 0 on here across xs xs
  waited_none = record { size = refl; moved = λ j l. absurd (omega arith); kept = λ j l. refl }

  pub waited_more :
      {m x : ℕ} {xs ys : List ℕ} → WaitedFor m on here across xs ys → m < length xs → x ≡ max (at ys m) (cond (eqb on m) here across)
      → WaitedFor (m + 1) on here across xs (set ys m x)
  waited_more {m} {x} {xs} {ys} so_far l e =
      record {
        size = length-set ys m x ∙ so_far.size;
        moved =
            stored_below (λ j y. y ≡ max (at xs j) (cond (eqb on j) here across)) ys m x 0 (omega (arith, so_far.size)) so_far.moved
            (e ∙ ap (λ y. max y (cond (eqb on m) here across)) (so_far.kept m (omega arith)));
        kept = λ j b. stored_past ys m x j b ∙ so_far.kept j (omega arith);
      }

module _ (W : Workflow) (sits ends : ℕ → ℕ) (i clock : ℕ) where
  -- An array of 16 that has when the data is ready on the first m processors as far as the clock and the edges from k on say: with what those below k say, that is
  -- all.
  pub record ReadyFrom (m k : ℕ) (xs : List ℕ) : Type 0 where
    pub size : length xs ≡ 16
    pub with_rest : (j : ℕ) → j < m → max (at xs j) (largest k (awaited W sits ends i j)) ≡ max clock (arrived W sits ends i j)
    pub past : (j : ℕ) → m ≤ j → j < 16 → at xs j ≡ clock

  pub ready_from_end : (m : ℕ) → m ≤ 16 → ReadyFrom m W.edges (replicate 16 clock)
  unfolding arrived
  ready_from_end m few =
      record {
        size = refl;
        with_rest = λ j l. rw (get_or-replicate {A = ℕ} 16 j clock 0 (omega arith)) refl;
        past = λ j l b. get_or-replicate {A = ℕ} 16 j clock 0 b;
      }

  module _ {m : ℕ} {xs : List ℕ} where
    -- Back to the last edge below k that leads to the task.
    pub ready_from_last : {k next : ℕ} → LastInto W i k next → ReadyFrom m k xs → ReadyFrom m next xs
    ready_from_last {k} {next} last so_far =
        record {
          size = so_far.size;
          with_rest = λ j l.
              ap (max (at xs j)) (sym (largest_further next k (awaited W sits ends i j) last.within (λ e b h. rw (ne_eqb (W.to e) i (last.none_after e b h)))))
              ∙ so_far.with_rest j l;
          past = so_far.past;
        }

    -- One edge more that leads to the task, from p.
    pub ready_from_more :
        {e p t : ℕ} {ys : List ℕ} → W.to e ≡ i → p ≡ W.from e → t ≡ W.transfer e → ReadyFrom m (e + 1) xs
        → WaitedFor m (sits p) (ends p) (ends p + t) xs ys → ReadyFrom m e ys
    unfolding arrival
    ready_from_more {e} {p} {t} {ys} leads from transfer so_far waited =
        record {
          size = waited.size ∙ so_far.size;
          with_rest = λ j l.
              omega (
                arith,
                waited.moved j l,
                arrives j,
                largest_next e (awaited W sits ends i j) {x = largest e (awaited W sits ends i j)} {r = max (largest e (awaited W sits ends i j)) (awaited W sits ends i j e)} refl refl,
                so_far.with_rest j l,
              );
          past = λ j l b. waited.kept j l ∙ so_far.past j l b;
        }
      where
        across_or_here : (s : Bool) → cond s (ends p) (ends p + t) ≡ ends p + cond s 0 t
        across_or_here true = omega arith
        across_or_here false = refl

        arrives : (j : ℕ) → cond (eqb (sits p) j) (ends p) (ends p + t) ≡ awaited W sits ends i j e
        arrives j = rw (eq-eqb (W.to e) i leads, ← from, ← transfer) (across_or_here (eqb (sits p) j))

    pub ready_from_start : {k : ℕ} → k ≡ 0 → ReadyFrom m k xs → FromClock clock m (arrived W sits ends i) xs
    unfolding largest
    ready_from_start {k} none all =
        record { size = all.size; below = λ j l. omega (arith, ap (λ n. max (at xs j) (largest n (awaited W sits ends i j))) none, all.with_rest j l); past = all.past }
