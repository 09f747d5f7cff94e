-- The row of the task in hand, from arrays of its costs and finishes and the choice from them.
use Rattle.std.specs.Prelude.{ℕ, ◌+◌, ◌-◌, ◌≤◌, ◌<◌, ◌≡◌, List}
use Rattle.std.proofs.Math.Path.{refl}
use native.Mathlib.Omega.{arith}
use Rattle.rules.specs.Workflow.{Workflow}
use Rattle.rules.specs.Ranks.{cost}
use Rattle.rules.specs.Workflow.{Interval}
use Rattle.rules.specs.Start.{start_on}
use Rattle.rules.specs.Method.{Question, Method}
use Rattle.good.specs.Ranges as good
use Rattle.laws.specs.Bounds.{ready_most, asked_finish_most, total_most, budget_most}
use Rattle.laws.specs.StartLaws.{start_at_most}
use Rattle.laws.specs.Method.{ChoosesAmong}
use Rattle.costs.specs.CostLaws.{cost_at_most}
use Rattle.choosing.specs.Asked.{asked, InRange}
use Rattle.laws.specs.Stores.{at}
use Rattle.laws.specs.Filled.{Filled}
use Rattle.busy.specs.Kept.{kept_busy, EndBy}
use Rattle.hand.specs.Hand.{start_by, finish_by, question_by, row_by}
use Rattle.hand.specs.declared.Row.{Row}

-- Processor j has a row for task i, which is read off the arrays of its costs and finishes.
pub record RowOn (W : Workflow) (i j : ℕ) (costs finishes : List ℕ) (row : Row) : Type 0 where
  pub processor : j < W.processors
  pub minutes_in_finish : W.minutes i j ≤ at finishes j
  pub row_is : record { processor = j; start = at finishes j - W.minutes i j; finish = at finishes j; cost = at costs j } ≡ row

pub finish_is :
    (W : Workflow) (ready : ℕ → ℕ) (busy : ℕ → List Interval) (i j : ℕ) {minutes start : ℕ} → minutes ≡ W.minutes i j
    → start ≡ start_on (busy j) (ready j) minutes → start + minutes ≡ finish_by W ready busy i j
unfolding finish_by start_by
finish_is W ready busy i j minutes start = rw (start, minutes)

module _ (W : Workflow) (range : good.InRange W) (i : ℕ) where
  -- A task takes at most 2,000 minutes from when its data is ready and the processor is free.
  pub finish_at_most :
      (ready : ℕ → ℕ) (begins ends first : List ℕ) → ((j : ℕ) → ready j ≤ ready_most) → EndBy ready_most begins ends first
      → (j : ℕ) → j < W.processors → finish_by W ready (kept_busy begins ends first) i j ≤ asked_finish_most
  unfolding finish_by start_by
  finish_at_most ready begins ends first by_then ended j l =
      omega (
        arith,
        start_at_most (kept_busy begins ends first j) (ready j) (W.minutes i j) ready_most (by_then j)
            (ended j (omega (arith, range.processors_in))),
        range.minutes_most i j,
      )

  module _ (ready : ℕ → ℕ) (busy : ℕ → List Interval) (rb rcb : ℕ) {costs finishes : List ℕ}
      (all_costs : Filled W.processors (cost W i) costs)
      (all_finishes : Filled W.processors (finish_by W ready busy i) finishes) where
    abbrev question : Question
    question = asked W.processors costs finishes rb rcb

    pub asked_in_range :
        ((j : ℕ) → j < W.processors → finish_by W ready busy i j ≤ asked_finish_most) → rb ≤ budget_most → rcb ≤ total_most → InRange question
    asked_in_range few rb_most rcb_most =
        record {
          processors_least = range.processors_in.from_low;
          processors_most = range.processors_in.to_high;
          costs = λ j l. omega (arith, all_costs.below j l, cost_at_most W range i j);
          finishes = λ j l. omega (arith, all_finishes.below j l, few j l);
          RB = rb_most;
          RCB = rcb_most;
        }

    module _ {M : Method} (among : ChoosesAmong M) where
      asked_same : M question ≡ M (question_by W ready busy i rb rcb)
      unfolding question_by
      asked_same =
          among.alike question _ range.processors_in.from_low
          (record { processors = refl; cost = all_costs.below; finish = all_finishes.below; RB = refl; RCB = refl })

      -- The processor that a method takes from the arrays has the method's row.
      pub row_on : {j : ℕ} → j ≡ M question → RowOn W i j costs finishes (row_by W ready busy i M rb rcb)
      unfolding finish_by
      row_on {j} chosen =
          let below : j < W.processors = rw chosen (among.takes_processor question range.processors_in.from_low) in
          let finish = all_finishes.below j below in
          let start : at finishes j - W.minutes i j ≡ start_by W ready busy i j = omega (arith, finish) in
          record {
            processor = below;
            minutes_in_finish = omega (arith, finish);
            row_is = rw (← asked_same, ← chosen, start, finish, all_costs.below j below);
          }
