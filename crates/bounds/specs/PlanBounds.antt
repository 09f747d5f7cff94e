-- How large the numbers of a plan are, by any method, from what each task adds at most.
use Rattle.std.specs.Prelude.{ℕ, ◌+◌, ◌*◌, ◌≤◌, ◌<◌, length}
use Rattle.std.proofs.Common.{ap}
use mathlib.Core.List.{List, [], ◌∷◌}
use native.Mathlib.Omega.{arith}
use Rattle.rules.specs.Workflow.{Workflow}
use Rattle.rules.specs.Rows.{Row, Placed, row_of, spent, length_of}
use Rattle.rules.specs.Method.{Name}
use Rattle.rules.specs.Placing.{row_on}
use Rattle.good.specs.Ranges.{InRange}
use Rattle.laws.specs.Bounds.{first_most, added_most, finish_most, cost_most, total_most}
use Rattle.laws.specs.Folds.{sum_at_most_each}
use Rattle.laws.specs.LatestFinish.{finish_in_length, length_in_reach}
use Rattle.demands.specs.Demand2.Steps.{EachStep, AsTheMethod}
use Rattle.demands.specs.Demand2.WhatIsDue.{MethodsPlan}
use Rattle.costs.specs.CostLaws.{cost_at_most}

pub record RowBounds (r : Row) : Type 0 where
  pub processor_in : r.processor ≤ 15
  pub start_in : r.start ≤ finish_most
  pub finish_in : r.finish ≤ finish_most
  pub cost_in : r.cost ≤ cost_most

module _ (W : Workflow) (range : InRange W) where
  length_by_steps : (M : Name) (rows : List Placed) → EachStep (AsTheMethod M W) rows → length_of rows ≤ first_most + added_most * length rows
  unfolding length_of row_on
  length_by_steps M [] steps = omega arith
  length_by_steps M (p ∷ before) (step, steps) =
      omega (
        arith,
        length_in_reach W range.minutes_most range.transfer_in range.clock_in range.first_end_in p before (length before) p.task p.row.processor
            (ap (λ (r : Row). r.finish) step.row)
            (length_by_steps M before steps),
      )

  module _ {M : Name} {rows : List Placed} (p : MethodsPlan M W rows) where
    pub length_at_most : length_of rows ≤ finish_most
    length_at_most = omega (arith, length_by_steps M rows p.steps, p.none_twice, range.tasks_in.to_high)

    row_cost_at_most : (i : ℕ) → i < W.tasks → (row_of rows i).cost ≤ cost_most
    row_cost_at_most i l = omega (arith, (p.rows_true i l).cost, cost_at_most W range i (row_of rows i).processor)

    pub cost_at_most_in_all : spent rows ≤ total_most
    cost_at_most_in_all =
        omega (arith, p.cost_sum, sum_at_most_each W.tasks (λ i. (row_of rows i).cost) cost_most row_cost_at_most, range.tasks_in.to_high)

    pub row_bounds : (i : ℕ) → i < W.tasks → RowBounds (row_of rows i)
    row_bounds i l =
        let true_row = p.rows_true i l in
        let finish : (row_of rows i).finish ≤ finish_most = omega (arith, finish_in_length rows i, length_at_most) in
        record {
          processor_in = omega (arith, true_row.processor, range.processors_in.to_high);
          start_in = omega (arith, true_row.finish);
          finish_in = finish;
          cost_in = row_cost_at_most i l;
        }
