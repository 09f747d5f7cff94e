-- Demand 2: the plan is the method's, by each of the three. Stated of what the caller gets: the answer, and the rows after the call, in lent rows or in four buffers.
-- Below: what is due for a workflow, refusals too (`WhatIsDue`), and that it is settled (`DueSettled`); the order of the tasks (`PlacingOrder`),
-- which is document 01's where no minutes are 0 (`WithoutZeros`); the choice for each in document 01's words (`ChoiceAsWritten`) and as equation (10)
-- (`Worthiness`), and that one can always be taken (`Affordable`); the start of each in document 02's words (`StartAsWritten`), its cost by the record
-- of its processor (`CostAsWritten`), and that no machine runs it in one of the windows that stand in the request (`WindowsAsWritten`);
-- that nothing can be pulled forward (`NothingEarlier`), and that what is said of it is true (`WhyNot`) and settled (`WhySettled`); R and HEFT's rank
-- (`HEFTRank`, `HEFTSettled`); when money is the reason (`RefusalNine`); the cheapest and the HEFT plan, and the budget that a `K` sets (`TwoPlans`); the range that is
-- told (`BudgetRange`). The other files are what these rest on.
pub mod Lookup
pub mod Refusals
pub mod HBCSChoice
pub mod Worthiness
pub mod Built
pub mod Sound
pub mod Order
pub mod Arrived
pub mod Affordable
pub mod Totals
pub mod Cheapest
pub mod Choices
pub mod Steps
pub mod StepsSettled
pub mod WhatIsDue
pub mod DueSettled
pub mod PlanBehind
pub mod PlacedAt
pub mod PlacingOrder
pub mod WithoutZeros
pub mod RefusalNine
pub mod HEFTRank
pub mod HEFTSettled
pub mod ChoiceAsWritten
pub mod StartAsWritten
pub mod CostAsWritten
pub mod WindowsAsWritten
pub mod Reasons
pub mod NothingEarlier
pub mod WhyNot
pub mod WhySettled
pub mod TwoPlans
pub mod BudgetRange
use Rattle.std.specs.Prelude.{ℕ, ◌+◌, ◌-◌, ◌≤◌, ◌<◌, ◌≡◌, false, List, ◌≢◌, length, drop, get_or}
use Rattle.std.proofs.Math.Path.{refl}
use Rattle.std.proofs.Common.{sym, ap, subst, ◌∙◌, arith}
use Rattle.rules.specs.Folds.{sum, largest}
use Rattle.rules.specs.Reading.{Request}
use Rattle.rules.specs.Workflow.{Workflow}
use Rattle.rules.specs.Start.{arrival, ready}
use Rattle.rules.specs.Rows.{Row, Placed, no_row, row_of, spent, length_of}
use Rattle.rules.specs.Method.{Name, by_HBCS, by_cheapest, by_HEFT}
use Rattle.rules.specs.Placing.{ready_for}
use Rattle.rules.specs.Budget.{in_force, unbound, held_to, workflow_for}
use Rattle.rules.specs.Answer.{Outcome, plan, refusal, too_late, outcome_asked, planned, answer_of, answer_asked, written, rows_asked}
use Rattle.rules.specs.Buffers.{Buffers, rows_lent, row_in, column_after, buffers_written, buffers_asked}
use Rattle.laws.specs.Folds.{sum_same, largest_same}
use Rattle.laws.specs.Overwritten.{length_overwritten}
use Rattle.demands.specs.Ground.GoodWorkflow.{GoodWorkflow, good_workflow}
use Rattle.demands.specs.Ground.Held.{row_written, row_in_written, StaysFrom, later_rows_kept, later_numbers_kept, SameLengths, lengths_kept}
use Rattle.demands.specs.Demand1.Stands.{PassesReading}
use Rattle.demands.specs.Demand1.Reading.{read_iff_passes}
use Rattle.demands.specs.Demand2.Sound.{RowTrue, Apart, WhileUp}
use Rattle.demands.specs.Demand2.Arrived.{ready_same}
use Rattle.demands.specs.Demand2.WhatIsDue.{MethodsPlan, Placeable, KeepsTo}
use Rattle.demands.specs.Demand2.PlanBehind.{tasks_told, plan_behind}

-- By HBCS cost and remainder share the budget, and the plan is in time. "Asked for alone, these two are held to no budget: [..] budget left 0."
abbrev pub HeldTo : Name → Workflow → (l c left : ℕ) → Type 0
HeldTo by_HBCS W l c left = (c + left ≡ W.budget) × (too_late W.deadline l ≡ false)
HeldTo by_cheapest W l c left = left ≡ 0
HeldTo by_HEFT W l c left = left ≡ 0

-- What the answer and the rows of a plan by a method say of the workflow W, where `row i` is what the caller holds as row i.
pub record PlanHeld (M : Name) (W : Workflow) (n l c left : ℕ) (row : ℕ → Row) : Type 0 where
  -- The summary: "n, length, cost, budget left".
  pub tasks : n ≡ W.tasks
  pub length_largest : l ≡ largest n (λ i. (row i).finish)
  pub cost_sum : c ≡ sum n (λ i. (row i).cost)
  pub money_and_time : HeldTo M W l c left
  -- Each row is true, no processor runs two tasks at once or one while it is down, and no task starts before its inputs arrived.
  pub rows_true : (i : ℕ) → i < n → RowTrue W i (row i)
  pub apart : (i k : ℕ) → i < n → k < n → i ≢ k → Apart (row i) (row k)
  pub while_up : (i : ℕ) → i < n → WhileUp W (row i)
  pub arrived : (e : ℕ) → e < W.edges →
      arrival W (λ p. (row p).processor) (λ p. (row p).finish) (row (W.to e)).processor e ≤ (row (W.to e)).start
  -- A task of no minutes on its processor starts when its data is ready there.
  pub markers : (i : ℕ) → i < n → W.minutes i (row i).processor ≡ 0
      → (row i).start ≡ ready W (λ p. (row p).processor) (λ p. (row p).finish) i (row i).processor
  -- The rows are those of the method's plan: each task in its order, on the processor that the method chooses, at the start that the rule gives.
  pub placed : List Placed
  pub methods_plan : MethodsPlan M W placed
  pub rows_placed : (i : ℕ) → i < n → row i ≡ row_of placed i

-- What is held of a request that passes reading, with at least as many rows lent as it has tasks, and with no cycle; of its workflow with what is in force.
pub record PlanGot (M : Name) (s : List ℕ) (lent n l c left : ℕ) (row : ℕ → Row) : Type 0 where
  pub request : Request
  pub passes : PassesReading s request
  pub placeable : Placeable (workflow_for M s request) lent
  pub held : PlanHeld M (workflow_for M s request) n l c left row

-- Of the budget in force is left what a plan tells.
held_to_so : (M : Name) (s : List ℕ) (r : Request) (rows : List Placed) →
    let W = workflow_for M s r in
    KeepsTo M W rows → HeldTo M W (length_of rows) (spent rows) (W.budget - spent rows)
unfolding held_to unbound in_force
held_to_so by_HBCS s r rows keeps = (omega (arith, keeps.0), keeps.1)
held_to_so by_cheapest s r rows keeps = omega arith
held_to_so by_HEFT s r rows keeps = omega arith

-- Whoever holds the rows of the method's plan holds this.
held_by :
    {M : Name} (W : Workflow) → GoodWorkflow W → (rows : List Placed) → MethodsPlan M W rows → {left : ℕ} → HeldTo M W (length_of rows) (spent rows) left
    → (row : ℕ → Row) → ((i : ℕ) → i < W.tasks → row i ≡ row_of rows i) → PlanHeld M W W.tasks (length_of rows) (spent rows) left row
unfolding arrival ready_for
held_by W good rows p held row same =
    record {
      tasks = refl;
      length_largest = p.length_largest ∙ sym (largest_same W.tasks _ _ (λ i h. ap (λ r. r.finish) (same i h)));
      cost_sum = p.cost_sum ∙ sym (sum_same W.tasks _ _ (λ i h. ap (λ r. r.cost) (same i h)));
      money_and_time = held;
      rows_true = λ i h. rw (same i h) (p.rows_true i h);
      apart = λ i k h g. rw (same i h, same k g) (p.apart i k h g);
      while_up = λ i h. rw (same i h) (p.while_up i h);
      arrived = λ e h. rw (same (W.from e) (good.from e h), same (W.to e) (good.to e h)) (p.arrived e h);
      markers = λ i h none.
          rw (same i h) (p.markers i h (rw (same i h) at none)
          ∙ ready_same W (row_of rows) row i (row_of rows i).processor (λ e l to. sym (same (W.from e) (good.from e l))));
      placed = rows;
      methods_plan = p;
      rows_placed = same;
    }

-- Whoever holds the rows of that outcome holds such a plan.
plan_held :
    (M : Name) (s : List ℕ) (lent : ℕ) {n l c left : ℕ} → answer_asked M s lent ≡ planned n l c left → (row : ℕ → Row)
    → ((W : Workflow) (rows : List Placed) → outcome_asked M s lent ≡ plan W rows → (i : ℕ) → i < W.tasks → row i ≡ row_of rows i)
    → PlanGot M s lent n l c left row
unfolding answer_of
plan_held M s lent {n} {l} {c} {left} e row holds =
    let b = plan_behind M s lent e in
    let W = workflow_for M s b.request in
    record {
      request = b.request;
      passes = (read_iff_passes s b.request).0 (b.read_to, b.is_read);
      placeable = b.placeable;
      held =
          told (cc b.answer_is) (cc b.answer_is) (cc b.answer_is) (cc b.answer_is)
          (held_by W (good_workflow M s b.is_read) b.rows b.methods_plan (held_to_so M s b.request b.rows b.keeps_to) row
          (holds W b.rows b.outcome_is));
    }
  where
    told :
        {W : Workflow} {n' l' c' left' : ℕ} {row : ℕ → Row} → n ≡ n' → l ≡ l' → c ≡ c' → left ≡ left' → PlanHeld M W n' l' c' left' row
        → PlanHeld M W n l c left row
    told tasks long costs rest held = rw (tasks, long, costs, rest) held

-- A plan in lent rows: of its first n rows.
pub plan_in_rows : (M : Name) (s : List ℕ) (lent : List Row) {n l c left : ℕ} → answer_asked M s (length lent) ≡ planned n l c left
    → PlanGot M s (length lent) n l c left (λ i. get_or (rows_asked M s lent) i no_row)
unfolding rows_asked
plan_in_rows M s lent e = plan_held M s (length lent) e _ (λ W rows is i task. row_written i task (outcome_asked M s (length lent)) lent is)

-- A plan in four buffers of any lengths: of the first n numbers of each.
pub plan_in_buffers : (M : Name) (s : List ℕ) (lent : Buffers) {n l c left : ℕ} → answer_asked M s (rows_lent lent) ≡ planned n l c left
    → PlanGot M s (rows_lent lent) n l c left (row_in (buffers_asked M s lent))
unfolding buffers_asked
plan_in_buffers M s lent e = plan_held M s (rows_lent lent) e _ (λ W rows is i task. row_in_written i task (outcome_asked M s (rows_lent lent)) lent is)

-- "Rows from n on keep their content."
pub later_rows_stay : (M : Name) (s : List ℕ) (lent : List Row) {n l c left : ℕ} → answer_asked M s (length lent) ≡ planned n l c left
    → drop n (rows_asked M s lent) ≡ drop n lent
unfolding rows_asked
later_rows_stay M s lent {n} e =
    let b = plan_behind M s (length lent) e in
    subst (λ k. drop k (rows_asked M s lent) ≡ drop k lent) (sym (tasks_told b)) (later_rows_kept (outcome_asked M s (length lent)) lent b.outcome_is)

pub later_numbers_stay : (M : Name) (s : List ℕ) (lent : Buffers) {n l c left : ℕ} → answer_asked M s (rows_lent lent) ≡ planned n l c left
    → StaysFrom n lent (buffers_asked M s lent)
unfolding buffers_asked
later_numbers_stay M s lent {n} e =
    let b = plan_behind M s (rows_lent lent) e in
    subst (λ k. StaysFrom k lent (buffers_asked M s lent)) (sym (tasks_told b)) (later_numbers_kept (outcome_asked M s (rows_lent lent)) lent b.outcome_is)

-- No row comes or goes, and no number of a buffer.
pub as_many_rows : (M : Name) (s : List ℕ) (lent : List Row) → length (rows_asked M s lent) ≡ length lent
unfolding rows_asked answer_asked answer_of written
as_many_rows M s lent = go (outcome_asked M s (length lent)) refl
  where
    go : (o : Outcome) → outcome_asked M s (length lent) ≡ o → length (written o lent) ≡ length lent
    go (plan W rows) e =
        let b = plan_behind M s (length lent) (ap answer_of e) in
        length_overwritten W.tasks (row_of rows) lent (omega (arith, tasks_told b, b.placeable.enough_rows))
    go (refusal number place) e = refl

pub as_many_numbers : (M : Name) (s : List ℕ) (lent : Buffers) → SameLengths lent (buffers_asked M s lent)
unfolding buffers_asked answer_asked answer_of rows_lent
as_many_numbers M s lent = go (outcome_asked M s (rows_lent lent)) refl
  where
    go : (o : Outcome) → outcome_asked M s (rows_lent lent) ≡ o → SameLengths lent (buffers_written o lent)
    go (plan W rows) e =
        let b = plan_behind M s (rows_lent lent) (ap answer_of e) in
        lengths_kept W rows lent (omega (arith, tasks_told b, b.placeable.enough_rows))
    go (refusal number place) e = unfold buffers_written column_after in record { processors = refl; starts = refl; finishes = refl; costs = refl }
