-- What comes back: the answer, and the rows after the call.
use Rattle.std.specs.Prelude.{ℕ, ◌-◌, Bool, true, false, List, ◌++◌, length, drop, ltb}
use Rattle.rules.specs.Folds.{listing}
use Rattle.rules.specs.Records.{Read, read, stopped}
use Rattle.rules.specs.Reading.{Deadline, no_deadline, by, Request, read_request}
use Rattle.rules.specs.Workflow.{Workflow}
use Rattle.rules.specs.Cycle.{cyclic, lowest_in_cycle}
use Rattle.rules.specs.Ranks.{cheapest_total}
use Rattle.rules.specs.Method.{Name, by_HBCS, by_cheapest, by_HEFT, method}
use Rattle.rules.specs.Rows.{Row, Placed, row_of, spent, length_of}
use Rattle.rules.specs.Placing.{place}
use Rattle.rules.specs.Budget.{workflow_for}

-- What is decided: a plan of this workflow with its tasks placed, or a refusal, number and place.
pub data Outcome : Type 0 where
  plan : Workflow → List Placed → Outcome
  refusal : (number place : ℕ) → Outcome

-- A refusal where the test holds, else what the later checks say.
unfoldable pub refuse : Bool → ℕ → ℕ → Outcome → Outcome
refuse true number place later = refusal number place
refuse false number place later = later

-- "length above the deadline"
unfoldable pub too_late : Deadline → ℕ → Bool
too_late no_deadline length = false
too_late (by d) length = ltb d length

-- 11: place "the length".
unfoldable pub placed_outcome : Workflow → List Placed → Outcome
placed_outcome W rows = refuse (too_late W.deadline (length_of rows)) 11 (length_of rows) (plan W rows)

-- 7: "fewer than n rows lent", place n; 8: "lowest task with a path back to itself"; then what the later checks say.
unfoldable pub checked : Workflow → ℕ → Outcome → Outcome
checked W lent later = refuse (ltb lent W.tasks) 7 W.tasks (refuse (cyclic W) 8 (lowest_in_cycle W) later)

-- "After reading: 7, 8, 9, then placing, then 11", where placing gives these rows; 9: "the cheapest total". "Asked for alone, these two are held to no
-- budget: refusals 1 to 8 only".
unfoldable pub later_checks : Name → Workflow → List Placed → Outcome
later_checks by_HBCS W rows = refuse (ltb W.budget (cheapest_total W)) 9 (cheapest_total W) (placed_outcome W rows)
later_checks by_cheapest W rows = plan W rows
later_checks by_HEFT W rows = plan W rows

unfoldable pub outcome_of : Name → Workflow → ℕ → List Placed → Outcome
outcome_of M W lent rows = checked W lent (later_checks M W rows)

-- With so many rows lent, all tasks placed by the method that is asked for, where W has what is in force.
unfoldable pub outcome_by : Name → Workflow → ℕ → Outcome
outcome_by M W lent = outcome_of M W lent (place (method M) W W.tasks)

-- Refusals 1 to 6 are those of reading.
unfoldable pub outcome_read : Name → List ℕ → Read Request → ℕ → Outcome
outcome_read M s (read next r) lent = outcome_by M (workflow_for M s r) lent
outcome_read M s (stopped number place) lent = refusal number place

unfoldable pub outcome_asked : Name → List ℕ → ℕ → Outcome
outcome_asked M s lent = outcome_read M s (read_request s) lent

-- What the page answers with: the plan by HBCS.
abbrev pub outcome : List ℕ → ℕ → Outcome
outcome s lent = outcome_asked by_HBCS s lent

-- "Either a plan summary (n, length, cost, budget left) or a refusal (number, place)."
pub data Answer : Type 0 where
  planned : (n length cost left : ℕ) → Answer
  refused : (number place : ℕ) → Answer

unfoldable pub answer_of : Outcome → Answer
answer_of (plan W rows) = planned W.tasks (length_of rows) (spent rows) (W.budget - spent rows)
answer_of (refusal number place) = refused number place

unfoldable pub answer_asked : Name → List ℕ → ℕ → Answer
answer_asked M s lent = answer_of (outcome_asked M s lent)

abbrev pub answer : List ℕ → ℕ → Answer
answer s lent = answer_asked by_HBCS s lent

-- "A plan writes rows 0 to n-1 of the lent slice [..]. Rows from n on keep their content. A refusal changes no row."
unfoldable pub written : Outcome → List Row → List Row
written (plan W rows) lent = listing W.tasks (row_of rows) ++ drop W.tasks lent
written (refusal number place) lent = lent

unfoldable pub rows_asked : Name → List ℕ → List Row → List Row
rows_asked M s lent = written (outcome_asked M s (length lent)) lent

abbrev pub rows_after : List ℕ → List Row → List Row
rows_after s lent = rows_asked by_HBCS s lent
