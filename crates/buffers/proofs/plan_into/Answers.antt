-- The plan's columns are stored over the front of the buffers, as many numbers of each as the answer has rows.
use Rattle.std.proofs.Common.{◌≡◌, ◌≤◌, ℕ, List, length, arith}
use Rattle.rules.specs.Method.{Name}
use Rattle.rules.specs.Answer.{outcome_asked, answer_asked}
use Rattle.rules.specs.Buffers.{Buffers, rows_lent, buffers_written, buffers_asked}
use Rattle.choosing.specs.Named.{meant_method}
use Rattle.budgets.specs.declared.Rows.{Rows}
use Rattle.planner.specs.Planned.{Answer, PlanOf, planned_in, rows_told}
use Rattle.planner.specs.Reach.{rows_in_reach}
use Rattle.laws.specs.Overwritten.{overwritten}
use Rattle.laws.specs.Stores.{at}
use Rattle.buffers.specs.Into.{four, PlannedInto}
use Rattle.buffers.specs.Stored.{column_stored}
use Rattle.buffers.proofs.plan_into.Goals as goal

module _ (M : Name) (s : List ℕ) (b : Buffers) {lent n : ℕ} {rows : Rows} {answer : Answer} (shortest : lent ≡ rows_lent b)
    (planned : PlanOf (outcome_asked M s lent) (planned_in rows answer)) (count : n ≡ rows_told answer) where
  in_reach : (n ≤ 64) × (n ≤ length b.processors) × (n ≤ length b.starts) × (n ≤ length b.finishes) × (n ≤ length b.costs)
  unfolding rows_lent
  in_reach =
      let reach = rows_in_reach M s lent answer planned.answer_is in
      (omega arith, omega arith, omega arith, omega arith, omega arith)

  stored : {p s' f k : List ℕ} → p ≡ overwritten n (at rows.processors) b.processors → s' ≡ overwritten n (at rows.starts) b.starts
      → f ≡ overwritten n (at rows.finishes) b.finishes → k ≡ overwritten n (at rows.costs) b.costs → PlannedInto M s b (four p s' f k) answer
  unfolding answer_asked buffers_asked buffers_written
  stored processors starts finishes costs =
      let o = outcome_asked M s (rows_lent b) in
      let is = rw shortest at planned in
      let p = column_stored (λ row. row.processor) b.processors o answer is.answer_is count is.columns.processors_hold processors in
      let s = column_stored (λ row. row.start) b.starts o answer is.answer_is count is.columns.starts_hold starts in
      let f = column_stored (λ row. row.finish) b.finishes o answer is.answer_is count is.columns.finishes_hold finishes in
      let k = column_stored (λ row. row.cost) b.costs o answer is.answer_is count is.columns.costs_hold costs in
      record { answer_is = is.answer_is; after_is = λ t. four (p t) (s t) (f t) (k t) }

pub store-requires : goal.store-requires
unfolding rows_lent
store-requires c =
    let a = c.args in
    let fits = in_reach (meant_method a.method) a.request.now (four a.processors.now a.starts.now a.finishes.now a.costs.now) c.shortest-lent.ensures c.plan_columns-answer.ensures c.rows_of-n.ensures in
    (fits.0, fits.1)

pub store-requires-2 : goal.store-requires-2
unfolding rows_lent
store-requires-2 c =
    let a = c.args in
    let fits = in_reach (meant_method a.method) a.request.now (four a.processors.now a.starts.now a.finishes.now a.costs.now) c.shortest-lent.ensures c.plan_columns-answer.ensures c.rows_of-n.ensures in
    (fits.0, fits.2)

pub store-requires-3 : goal.store-requires-3
unfolding rows_lent
store-requires-3 c =
    let a = c.args in
    let fits = in_reach (meant_method a.method) a.request.now (four a.processors.now a.starts.now a.finishes.now a.costs.now) c.shortest-lent.ensures c.plan_columns-answer.ensures c.rows_of-n.ensures in
    (fits.0, fits.3)

pub store-requires-4 : goal.store-requires-4
unfolding rows_lent
store-requires-4 c =
    let a = c.args in
    let fits = in_reach (meant_method a.method) a.request.now (four a.processors.now a.starts.now a.finishes.now a.costs.now) c.shortest-lent.ensures c.plan_columns-answer.ensures c.rows_of-n.ensures in
    (fits.0, fits.4)

pub returns : goal.returns
unfolding rows_lent
returns c =
    let a = c.args in
    stored (meant_method a.method) a.request.now (four a.processors.now a.starts.now a.finishes.now a.costs.now) c.shortest-lent.ensures c.plan_columns-answer.ensures c.rows_of-n.ensures
    c.store.ensures c.store-2.ensures c.store-3.ensures c.store-4.ensures
