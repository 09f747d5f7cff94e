-- "Rounding the mean before ranking: two tasks change places when times are multiplied." With such ranks demand 3 fails: a workflow in range, and the
-- same with its times doubled, get other machines.
use Rattle.std.specs.Prelude.{ℕ, zero, suc, ◌+◌, ◌*◌, ◌/◌, ◌≤◌, ◌≡◌, refl, Bool, cond, ◌&&◌, List, [], eqb}
use Rattle.std.proofs.Common.{sym, ◌∙◌, arith}
use mathlib.Core.List.Memᴰ
use Rattle.rules.specs.Folds.{sum, largest}
use Rattle.rules.specs.Orders.{tie, higher, among, first}
use Rattle.rules.specs.Reading.{no_deadline}
use Rattle.rules.specs.Workflow.{Workflow}
use Rattle.rules.specs.Ranks.{may_be_next}
use Rattle.rules.specs.Rows.{Placed, row_of, is_placed}
use Rattle.rules.specs.Method.{HBCS}
use Rattle.rules.specs.Placing.{place_task}
use Rattle.rules.specs.Multiplied.{multiplied, multiplied_deadline}
use Rattle.rules.specs.Cases.{given}
use Rattle.good.specs.Ranges.{InRange}
use Rattle.laws.specs.Tests.{cond_either}

-- HEFT's rank, with the mean of the minutes rounded down.
rounded_rank_by : Workflow → (ℕ → ℕ) → ℕ → ℕ
rounded_rank_by W rank i =
    sum W.processors (W.minutes i) / W.processors
    + largest W.edges (λ e. cond (eqb (W.from e) i) (W.transfer e + rank (W.to e)) 0)

rounded_rank : Workflow → ℕ → ℕ → ℕ
rounded_rank W zero = λ i. 0
rounded_rank W (suc most) = rounded_rank_by W (rounded_rank W most)

-- Placing as the rules have it, by rounded ranks.
next_rounded : Workflow → (ℕ → Bool) → ℕ
next_rounded W placed = first W.tasks (among (may_be_next W placed) (higher (rounded_rank W W.tasks) tie))

place_next_rounded : Workflow → List Placed → List Placed
place_next_rounded W so_far = place_task HBCS W so_far (next_rounded W (is_placed so_far))

place_rounded : Workflow → ℕ → List Placed
place_rounded W zero = []
place_rounded W (suc k) = place_next_rounded W (place_rounded W k)

-- The machine of task i in such a plan.
pub machine_rounded : Workflow → ℕ → ℕ
machine_rounded W i = (row_of (place_rounded W W.tasks) i).processor

-- Two tasks on two processors, no edge.
two_by_two : ℕ → (ℕ → ℕ → ℕ) → Workflow
two_by_two budget minutes =
    record {
      tasks = 2;
      processors = 2;
      budget = budget;
      deadline = no_deadline;
      price = λ j. 1;
      minimum = λ j. 0;
      busy_at_first = λ j. [];
      clock = 0;
      minutes = minutes;
      edges = 0;
      from = λ e. 0;
      to = λ e. 0;
      transfer = λ e. 0;
    }

two_by_two_in_range :
    (budget : ℕ) (minutes : ℕ → ℕ → ℕ) → budget ≤ 20_000_000 → ((i j : ℕ) → minutes i j ≤ 2_000) → InRange (two_by_two budget minutes)
unfolding two_by_two
two_by_two_in_range budget minutes most each =
    record {
      tasks_in = record { from_low = omega arith; to_high = omega arith };
      processors_in = record { from_low = omega arith; to_high = omega arith };
      budget_in = most;
      deadline_in = λ d e. let z : ◌≡◌ {A = ℕ} 0 1 = cc in absurd (omega arith);
      edges_in = omega arith;
      first_minutes = λ j v m. absurd (Memᴰ.not-nil m);
      first_end_in = λ j v m. absurd (Memᴰ.not-nil m);
      clock_in = omega arith;
      price_in = λ j. omega arith;
      minimum_in = λ j. omega arith;
      minutes_most = each;
      from_below = λ e l. absurd (omega arith);
      to_below = λ e l. absurd (omega arith);
      unequal = λ e l. absurd (omega arith);
      transfer_in = λ e. omega arith;
      from_rises = λ e l. absurd (omega arith);
      to_rises = λ e l. absurd (omega arith);
    }

-- Minutes 1 and 1, 1 and 2: the means are 1 and one and a half.
near : ℕ → ℕ → ℕ
near i j = cond (eqb i 1 && eqb j 1) 2 1

near_most : (i j : ℕ) → near i j ≤ 2
unfolding near
near_most i j = cond_either (λ w. w ≤ 2) (eqb i 1 && eqb j 1) 2 1 (λ e. omega arith) (λ e. omega arith)

machines_change : (machine_rounded (two_by_two 10 near) 0 ≡ 0) × (machine_rounded (multiplied 2 1 (two_by_two 10 near)) 0 ≡ 1)
unfolding given machine_rounded place_rounded place_next_rounded next_rounded rounded_rank rounded_rank_by near two_by_two multiplied
machines_change = (refl, refl)

pub rounded_mean_breaks_demand_3 :
    ((a b : ℕ) → 1 ≤ a → 1 ≤ b → (W : Workflow) → InRange W → InRange (multiplied a b W) → (i : ℕ)
    → machine_rounded (multiplied a b W) i ≡ machine_rounded W i)
    → ⊥
unfolding multiplied multiplied_deadline two_by_two
rounded_mean_breaks_demand_3 same =
    let z = sym machines_change.1 ∙ same 2 1 (omega arith) (omega arith) (two_by_two 10 near) in_range in_range' 0 ∙ machines_change.0 in
    omega (arith, z)
  where
    in_range : InRange (two_by_two 10 near)
    in_range =
        two_by_two_in_range 10 near (omega arith) (λ i j. omega (arith, near_most i j))

    in_range' : InRange (two_by_two 20 (λ i j. 2 * near i j))
    in_range' =
        two_by_two_in_range 20 (λ i j. 2 * near i j) (omega arith)
        (λ i j. omega (arith, near_most i j))
