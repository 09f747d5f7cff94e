-- What the planner's answers and rows mean.
use Rattle.std.specs.Prelude.{ℕ, ◌≡◌, List, [], Result, Ok, Err}
use Rattle.rules.specs.Workflow.{Workflow}
use Rattle.rules.specs.Rows.{Placed}
use Rattle.rules.specs.Method.{Name}
use Rattle.rules.specs.Budget.{unbound, workflow_for}
use Rattle.rules.specs.Answer as rules
use Rattle.rules.specs.Range as ranges
use Rattle.refusals.specs.declared.Refusal.{Refusal}
use Rattle.refusals.specs.Numbers.{number}
use Rattle.reader.specs.declared.View.{View}
use Rattle.reader.specs.Meaning.{meant_view}
use Rattle.placing.specs.Placed.{all_rows}
use Rattle.budgets.specs.declared.Rows.{Rows}
use Rattle.budgets.specs.Prepared.{RowsAre}
use Rattle.planner.specs.declared.Summary.{Summary}
use Rattle.planner.specs.declared.Range.{Range}
use Rattle.planner.specs.declared.Planning.{Planning}

-- A plan's summary, or the refusal.
abbrev pub Answer : Type 0
Answer = Result Summary Refusal

-- The two costs, or the refusal.
abbrev pub Costs : Type 0
Costs = Result Range Refusal

-- What the code's answer means: document 01's summary, or its number and place.
abbrev pub meant_answer : Answer → rules.Answer
meant_answer (Ok plan) = rules.planned plan.n plan.length plan.cost plan.left
meant_answer (Err r) = rules.refused (number r.fault) r.place

-- What the code's costs mean: the range.
abbrev pub meant_costs : Costs → ranges.Range
meant_costs (Ok range) = ranges.between range.cheapest range.heft
meant_costs (Err r) = ranges.no_range (number r.fault) r.place

-- The rows of an outcome; a refusal has none.
unfoldable pub rows_in : rules.Outcome → List Placed
rows_in (rules.plan W rows) = rows
rows_in (rules.refusal number place) = []

-- The answer is the outcome's, and the four arrays hold its rows.
pub record PlanOf (o : rules.Outcome) (r : Planning) : Type 0 where
  pub answer_is : meant_answer r.answer ≡ rules.answer_of o
  pub columns : RowsAre (rows_in o) r.rows

-- The answer, and the rows that were lent for it, as one plan.
abbrev pub planned_in : Rows → Answer → Planning
planned_in rows r = record { answer = r; rows = rows }

-- The workflow of a good request, by its view, with what is in force by the method that is asked for.
abbrev pub workflow_by : Name → List ℕ → View → Workflow
workflow_by M s v = workflow_for M s (meant_view v)

-- The checks from 9 on, all tasks placed by the method.
abbrev pub later_by : Name → Workflow → rules.Outcome
later_by M W = rules.later_checks M W (all_rows M W)

-- The plan by a method that is held to nothing.
unfoldable pub plan_alone : Name → Workflow → rules.Outcome
plan_alone M W = rules.plan (unbound W) (all_rows M (unbound W))

-- How many rows come with an answer, whatever its refusals are told by.
abbrev pub rows_told : {E : Type 0} → Result Summary E → ℕ
rows_told (Ok plan) = plan.n
rows_told (Err r) = 0
