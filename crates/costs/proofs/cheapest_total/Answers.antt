-- The total so far is the sum of the lowest costs of the tasks passed.
use Prim.Native.Nat.{ℕ, ◌+◌}
use mathlib.Core.Path.{◌≡◌, refl, ap, ◌∙◌}
use Rattle.rules.specs.Folds.{sum}
use Rattle.rules.specs.Workflow.{workflow}
use Rattle.rules.specs.Ranks.{lowest_cost, cheapest_total}
use Rattle.laws.specs.Folds.{sum_next}
use Rattle.lookup.specs.Flow.{flow}
use Rattle.lookup.specs.Views.{view_in_range, view_tasks}
use Rattle.costs.specs.CostLaws.{lowest_filled, lowest_filled_at_most}
use native.Mathlib.Omega.{arith}
use Rattle.costs.proofs.cheapest_total.Goals as goal

pub loop-i-init : goal.loop-i-init
unfolding sum
loop-i-init c = (refl, omega arith)

pub lowest_of-total-requires : goal.lowest_of-total-requires
unfolding workflow
lowest_of-total-requires c =
    let range = view_in_range c.args.r.now.bytes.now c.args.r.now.view c.args.r.now.good in
    (range.processors_in.from_low, range.processors_in.to_high)

pub overflow_add-total : goal.overflow_add-total
unfolding workflow
overflow_add-total c =
    let range = view_in_range c.args.r.now.bytes.now c.args.r.now.view c.args.r.now.good in
    let few = lowest_filled_at_most _ range _ c.cost_on_all-costs.ensures in
    omega (arith, few, c.lowest_of-total.ensures, view_tasks c.args.r.now.bytes.now c.args.r.now.view c.args.r.now.good)

pub loop-i-preserved : goal.loop-i-preserved
unfolding workflow
loop-i-preserved c =
    let loop = c.loop-i in
    let range = view_in_range c.args.r.now.bytes.now c.args.r.now.view c.args.r.now.good in
    let few = lowest_filled_at_most _ range _ c.cost_on_all-costs.ensures in
    let lowest = c.lowest_of-total.ensures ∙ lowest_filled _ range loop.i c.cost_on_all-costs.ensures in
    (sum_next loop.i _ loop.invariant.0 (ap (λ (x : ℕ). loop.total + x) lowest), omega (arith, few, c.lowest_of-total.ensures))

pub returns : goal.returns
unfolding workflow cheapest_total
returns c =
    let a = c.args in
    let loop = c.loop-i in
    let passed : loop.i ≡ a.r.now.view.tasks = omega arith in (
      loop.invariant.0 ∙ ap (λ (k : ℕ). sum k (lowest_cost (flow a.r.now))) passed,
      omega (arith, view_tasks a.r.now.bytes.now a.r.now.view c.args.r.now.good),
    )
