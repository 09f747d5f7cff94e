-- A plan's rows are in reach: at most as many as are lent, by refusal 7, and as there are tasks, so at most 64. So a column of 64 numbers has them all,
-- and a buffer has room.
use Rattle.std.specs.Prelude.{ℕ, ◌≤◌, min, ◌≡◌, refl, Bool, true, false, List, Ok, Err, ltb}
use Rattle.std.proofs.Common.{ap, ◌∙◌, arith, ltb-false}
use Rattle.rules.specs.Records.{Read, read, stopped}
use Rattle.rules.specs.Reading.{Request, read_request}
use Rattle.rules.specs.Workflow.{Workflow, workflow}
use Rattle.rules.specs.Cycle.{cyclic, lowest_in_cycle}
use Rattle.rules.specs.Ranks.{cheapest_total}
use Rattle.rules.specs.Rows.{Placed, length_of}
use Rattle.rules.specs.Method.{Name, by_HBCS, by_cheapest, by_HEFT, method}
use Rattle.rules.specs.Placing.{place}
use Rattle.rules.specs.Answer as rules
use Rattle.rules.specs.Budget.{workflow_for}
use Rattle.rules.specs.Answer.{Outcome, plan, refuse, too_late, placed_outcome, checked, later_checks, outcome_of, outcome_by, outcome_read, outcome_asked}
use Rattle.rules.specs.Answer.{answer_of}
use Rattle.laws.specs.InForce.{tasks_held}
use Rattle.good.specs.ReadIsGood.{read_is_good}
use Rattle.planner.specs.Planned.{Answer, meant_answer, rows_told}

-- How many rows come with an answer of the rules.
unfoldable pub rows_due : rules.Answer → ℕ
rows_due (rules.planned n length cost left) = n
rows_due (rules.refused number place) = 0

rows_told_due : (a : Answer) → rows_told a ≡ rows_due (meant_answer a)
unfolding rows_due
rows_told_due (Ok told) = refl
rows_told_due (Err refused) = refl

-- A check that refuses gives no row.
refused_or : (t : Bool) (number place most : ℕ) (later : Outcome) → (t ≡ false → rows_due (answer_of later) ≤ most)
    → rows_due (answer_of (refuse t number place later)) ≤ most
unfolding refuse answer_of rows_due
refused_or true number place most later within = omega arith
refused_or false number place most later within = within refl

placed_within : (W : Workflow) (rows : List Placed) → rows_due (answer_of (placed_outcome W rows)) ≤ W.tasks
unfolding placed_outcome answer_of rows_due
placed_within W rows =
    refused_or (too_late W.deadline (length_of rows)) 11 (length_of rows) W.tasks (plan W rows) (λ in_time. omega arith)

later_within : (M : Name) (W : Workflow) (rows : List Placed) → rows_due (answer_of (later_checks M W rows)) ≤ W.tasks
unfolding later_checks answer_of rows_due
later_within by_HBCS W rows =
    refused_or (ltb W.budget (cheapest_total W)) 9 (cheapest_total W) W.tasks _ (λ within. placed_within W rows)
later_within by_cheapest W rows = omega arith
later_within by_HEFT W rows = omega arith

pub outcome_by_within : (M : Name) (W : Workflow) (lent : ℕ) → rows_due (answer_of (outcome_by M W lent)) ≤ min lent W.tasks
unfolding outcome_by outcome_of checked
outcome_by_within M W lent =
    refused_or (ltb lent W.tasks) 7 W.tasks (min lent W.tasks) _
    (λ enough.
    refused_or (cyclic W) 8 (lowest_in_cycle W) (min lent W.tasks) _
    (λ no_cycle. omega (arith, later_within M W (place (method M) W W.tasks), ltb-false lent W.tasks enough)))

outcome_within_reach : (M : Name) (s : List ℕ) (lent : ℕ) → rows_due (answer_of (outcome_asked M s lent)) ≤ min lent 64
unfolding outcome_asked outcome_read answer_of rows_due workflow
outcome_within_reach M s lent = go (read_request s) refl
  where
    go : (answer : Read Request) → read_request s ≡ answer → rows_due (answer_of (outcome_read M s answer lent)) ≤ min lent 64
    go (read next r) e =
        omega (arith, outcome_by_within M (workflow_for M s r) lent, tasks_held r.share (workflow s r) M, (read_is_good s e).tasks_in.to_high)
    go (stopped number place) e = omega arith

pub told_due : (o : Outcome) (a : Answer) → meant_answer a ≡ answer_of o → rows_told a ≡ rows_due (answer_of o)
told_due o a is = rows_told_due a ∙ ap rows_due is

pub rows_in_reach : (M : Name) (s : List ℕ) (lent : ℕ) (a : Answer) → meant_answer a ≡ answer_of (outcome_asked M s lent) → rows_told a ≤ min lent 64
rows_in_reach M s lent a is = rw (told_due (outcome_asked M s lent) a is) (outcome_within_reach M s lent)
