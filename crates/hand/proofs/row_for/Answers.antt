-- The choice is that of the rules, since the arrays put the question as the rules do; its row is read off the arrays.
use Rattle.std.specs.Prelude.{ℕ, List, ◌<◌, ◌≡◌}
use Rattle.std.proofs.Common.{arith}
use Rattle.rules.specs.Workflow.{Interval, workflow}
use Rattle.rules.specs.Ranks.{cost}
use Rattle.rules.specs.Method.{method}
use Rattle.reader.specs.declared.View.{View}
use Rattle.reader.specs.Meaning.{ViewOf}
use Rattle.lookup.specs.Flow.{flow}
use Rattle.lookup.specs.Lookup.{workflow_of}
use Rattle.lookup.specs.Views.{view_in_range}
use Rattle.laws.specs.Stores.{at}
use Rattle.laws.specs.Filled.{Filled}
use Rattle.laws.specs.Method.{method_chooses_among}
use Rattle.choosing.specs.declared.Method.{Method}
use Rattle.choosing.specs.Named.{meant_method}
use Rattle.choosing.specs.Asked.{asked}
use Rattle.busy.specs.Kept.{kept_by}
use Rattle.hand.specs.Hand.{finish_by, row_by}
use Rattle.hand.specs.HandLaws.{RowOn, finish_at_most, asked_in_range, row_on}
use Rattle.hand.proofs.row_for.Goals as goal

-- The processor that is chosen, and its row.
module _ (s : List ℕ) (v : View) (good : ViewOf s v) (task : ℕ) (ready : ℕ → ℕ) (busy : ℕ → List Interval) {costs finishes : List ℕ}
    (all_costs : Filled v.processors (cost (workflow_of s v) task) costs)
    (all_finishes : Filled v.processors (finish_by (workflow_of s v) ready busy task) finishes)
    (M : Method) (rb rcb : ℕ) {j : ℕ} (chosen : j ≡ method (meant_method M) (asked v.processors costs finishes rb rcb)) where
  chosen_row : RowOn (workflow_of s v) task j costs finishes (row_by (workflow_of s v) ready busy task (method (meant_method M)) rb rcb)
  unfolding workflow
  chosen_row = row_on _ (view_in_range s v good) task ready busy rb rcb all_costs all_finishes (method_chooses_among (meant_method M)) chosen

  processor_below : j < 16
  unfolding workflow
  processor_below = omega (arith, chosen_row.processor, (view_in_range s v good).processors_in)

pub choose-j-requires : goal.choose-j-requires
unfolding workflow
choose-j-requires c =
    let a = c.args in
    let pre = c.requires in
    let W = flow a.r.now in
    let range = view_in_range a.r.now.bytes.now a.r.now.view c.args.r.now.good in
    let busy = a.busy.now in
    asked_in_range W range a.task _ _ a.rb a.rcb pre.filled.0 c.finish_on_all-finishes.ensures
    (finish_at_most W range a.task (at a.ready.now) busy.begins busy.ends busy.first pre.task_lt_tasks.1 pre.end_by)
    pre.filled.1
    pre.filled.2

pub offset_bounds-finishes-j : goal.offset_bounds-finishes-j
offset_bounds-finishes-j c =
    omega (arith, processor_below c.args.r.now.bytes.now c.args.r.now.view c.args.r.now.good c.args.task _ _ c.requires.filled.0 c.finish_on_all-finishes.ensures c.args.method c.args.rb c.args.rcb c.choose-j.ensures)

pub bounds-finishes-j : goal.bounds-finishes-j
bounds-finishes-j c =
    processor_below c.args.r.now.bytes.now c.args.r.now.view c.args.r.now.good c.args.task _ _ c.requires.filled.0 c.finish_on_all-finishes.ensures c.args.method c.args.rb c.args.rcb c.choose-j.ensures

pub offset_bounds-costs-j : goal.offset_bounds-costs-j
offset_bounds-costs-j c =
    omega (arith, processor_below c.args.r.now.bytes.now c.args.r.now.view c.args.r.now.good c.args.task _ _ c.requires.filled.0 c.finish_on_all-finishes.ensures c.args.method c.args.rb c.args.rcb c.choose-j.ensures)

pub bounds-costs-j : goal.bounds-costs-j
bounds-costs-j c =
    processor_below c.args.r.now.bytes.now c.args.r.now.view c.args.r.now.good c.args.task _ _ c.requires.filled.0 c.finish_on_all-finishes.ensures c.args.method c.args.rb c.args.rcb c.choose-j.ensures

pub minutes-requires : goal.minutes-requires
unfolding workflow
minutes-requires c =
    let row = chosen_row c.args.r.now.bytes.now c.args.r.now.view c.args.r.now.good c.args.task (at c.args.ready.now) (kept_by c.args.busy.now) c.requires.filled.0 c.finish_on_all-finishes.ensures c.args.method c.args.rb c.args.rcb c.choose-j.ensures in
    (c.requires.task_lt_tasks.0, row.processor)

pub overflow_sub-result : goal.overflow_sub-result
overflow_sub-result c =
    let row = chosen_row c.args.r.now.bytes.now c.args.r.now.view c.args.r.now.good c.args.task (at c.args.ready.now) (kept_by c.args.busy.now) c.requires.filled.0 c.finish_on_all-finishes.ensures c.args.method c.args.rb c.args.rcb c.choose-j.ensures in
    omega (arith, row.minutes_in_finish, c.minutes.ensures.0)

pub returns : goal.returns
returns c =
    let row = chosen_row c.args.r.now.bytes.now c.args.r.now.view c.args.r.now.good c.args.task (at c.args.ready.now) (kept_by c.args.busy.now) c.requires.filled.0 c.finish_on_all-finishes.ensures c.args.method c.args.rb c.args.rcb c.choose-j.ensures in
    rw c.minutes.ensures.0 row.row_is
