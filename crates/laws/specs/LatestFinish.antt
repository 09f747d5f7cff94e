-- How late the tasks placed so far end: a task's data is ready at most 1,000 minutes after the last finish, it starts by then or when what its processor is
-- busy with at first has ended, and it takes at most 2,000.
use Prim.Native.Nat.{ℕ, ◌+◌, ◌*◌, ◌≤◌, max}
use Rattle.std.specs.Prelude.{◌≡◌, Bool, eqb}
use Rattle.std.proofs.Math.Path.{ap}
use Rattle.std.proofs.Math.Bool.{true, false, cond}
use mathlib.Core.List.Memᴰ
use mathlib.Core.List.{List, [], ◌∷◌, Memᴰ}
use Rattle.std.proofs.Math.Logic.{⊎_elim}
use native.Mathlib.Omega.{arith}
use Rattle.rules.specs.Workflow.{Interval, Workflow, busy_with}
use Rattle.rules.specs.Start.{arrival, arrived, ready, start_on}
use Rattle.rules.specs.Rows.{Placed, row_of, taken_up, busy, length_of}
use Rattle.rules.specs.Placing.{ready_for, start_of, finish_of}
use Rattle.laws.specs.Tests.{cond_either}
use Rattle.laws.specs.Folds.{largest_at_most}
use Rattle.laws.specs.Bounds.{added_most, first_most}
use Rattle.laws.specs.StartLaws.{start_at_most}

-- No row finishes after the length.
pub finish_in_length : (rows : List Placed) (i : ℕ) → (row_of rows i).finish ≤ length_of rows
unfolding row_of length_of
finish_in_length [] i = omega arith
finish_in_length (p ∷ rows) i =
    cond_either (λ r. r.finish ≤ max (length_of rows) p.row.finish) (eqb p.task i) p.row (row_of rows i) (λ e. omega arith)
    (λ e. omega (arith, finish_in_length rows i))

-- What the processors are busy with at first ends by c.
module _ (W : Workflow) (c : ℕ) (first_in : (j : ℕ) (v : Interval) → Memᴰ v (W.busy_at_first j) → v.end ≤ c) where
  -- Nor is a processor busy once that and the length are past.
  pub busy_in_length : (rows : List Placed) (j : ℕ) (v : Interval) → Memᴰ v (busy W rows j) → v.end ≤ max c (length_of rows)
  unfolding busy busy_with length_of
  busy_in_length [] j v m = omega (arith, first_in j v m)
  busy_in_length (p ∷ rows) j v m = go (eqb p.row.processor j) (busy_in_length rows j v) m
    where
      go :
          (t : Bool) → (Memᴰ v (busy W rows j) → v.end ≤ max c (length_of rows))
          → Memᴰ v (cond t (taken_up p.row ∷ busy W rows j) (busy W rows j)) → v.end ≤ max c (max (length_of rows) p.row.finish)
      go true before m =
          ⊎_elim (λ (e : v ≡ taken_up p.row). omega (arith, ap (λ (w : Interval). w.end) e)) (λ m'. omega (arith, before m'))
          (Memᴰ.cases_cons m)
      go false before m = omega (arith, before m)

  -- A task whose data is ready by d starts by d, where all end by d.
  start_in_length :
      (rows : List Placed) (j ready minutes d : ℕ) → ready ≤ d → c ≤ d → length_of rows ≤ d → start_on (busy W rows j) ready minutes ≤ d
  start_in_length rows j ready minutes d by_then begun ended =
      start_at_most (busy W rows j) ready minutes d by_then (λ v m. omega (arith, busy_in_length rows j v m))

module _ (W : Workflow) (minutes_in : (i j : ℕ) → W.minutes i j ≤ 2_000) (transfer_in : (e : ℕ) → W.transfer e ≤ 1_000)
    (clock_in : W.clock ≤ first_most) (first_in : (j : ℕ) (v : Interval) → Memᴰ v (W.busy_at_first j) → v.end ≤ first_most) where
  module _ (rows : List Placed) (i j : ℕ) where
    arrived_in_reach : arrived W (λ p. (row_of rows p).processor) (λ p. (row_of rows p).finish) i j ≤ length_of rows + 1_000
    unfolding arrived arrival
    arrived_in_reach = largest_at_most W.edges _ _ (λ e l. go e (eqb (W.to e) i) (eqb (row_of rows (W.from e)).processor j))
      where
        go : (e : ℕ) (s t : Bool) → cond s ((row_of rows (W.from e)).finish + cond t 0 (W.transfer e)) 0 ≤ length_of rows + 1_000
        go e true true = omega (arith, finish_in_length rows (W.from e))
        go e true false = omega (arith, finish_in_length rows (W.from e), transfer_in e)
        go e false t = omega arith

    pub ready_in_reach : ready_for W rows i j ≤ max first_most (length_of rows + 1_000)
    unfolding ready_for ready
    ready_in_reach = omega (arith, arrived_in_reach, clock_in)

    pub finish_in_reach : finish_of W rows i j ≤ max first_most (length_of rows + 1_000) + 2_000
    unfolding finish_of start_of
    finish_in_reach =
        let d : ℕ = max first_most (length_of rows + 1_000) in
        omega (arith, start_in_length W first_most first_in rows j _ (W.minutes i j) d ready_in_reach (omega arith) (omega arith), minutes_in i j)

  -- One task more.
  pub length_in_reach :
      (p : Placed) (rows : List Placed) (k i j : ℕ) → p.row.finish ≡ finish_of W rows i j → length_of rows ≤ first_most + added_most * k
      → length_of (p ∷ rows) ≤ first_most + added_most * (k + 1)
  unfolding length_of
  length_in_reach p rows k i j finish so_far = omega (arith, finish_in_reach rows i j)
