-- How large the numbers of an answer are, by any method: those of a plan, and of a refusal.
use Rattle.std.specs.Prelude.{ℕ, ◌≤◌, ◌≡◌, List, length, take}
use Rattle.std.proofs.Math.Path.{refl}
use Rattle.std.proofs.Common.{subst, length-take}
use native.Mathlib.Omega.{arith}
use Rattle.rules.specs.Records.{Read, read, stopped}
use Rattle.rules.specs.Reading.{Share, no_share, thousandths, Request, read_request}
use Rattle.rules.specs.Workflow.{Workflow, workflow}
use Rattle.rules.specs.Ranks.{cost, cheapest_total}
use Rattle.rules.specs.Method.{HEFT, Name, by_HBCS, by_cheapest, by_HEFT}
use Rattle.rules.specs.Budget.{cost_alone, budget_of, held_to, workflow_for}
use Rattle.rules.specs.Answer.{Outcome, Answer, planned, refused, answer_of, answer_asked}
use Rattle.good.specs.Ranges.{InRange}
use Rattle.good.specs.ReadIsGood.{read_is_good}
use Rattle.good.specs.RangeLaws.{good_in_range}
use Rattle.good.specs.Program.{answer_asked_first}
use Rattle.laws.specs.Bounds.{finish_most, cost_most, total_most, budget_most}
use Rattle.laws.specs.Folds.{sum_at_most_each}
use Rattle.costs.specs.CostLaws.{cost_at_most}
use Rattle.budgets.specs.Ready.{in_force_in_range, unbound_in_range, HEFT_cost_at_most, budget_between_at_most}
use Rattle.demands.specs.Ground.GoodRequest.{outcome_of_stopped}
use Rattle.demands.specs.Demand1.ReadsSettled.{comes_inside}
use Rattle.demands.specs.Demand1.Reading.{reading_stops, stopped_with_1_to_6}
use Rattle.demands.specs.Demand2.Cheapest.{Assignment, costs_in_all, cheapest_at_most_any}
use Rattle.demands.specs.Demand2.WhatIsDue as due
use Rattle.demands.specs.Demand2.WhatIsDue.{Due, seven, eight, nine, eleven, requests_get_their_due}
use Rattle.bounds.specs.PlanBounds.{length_at_most, cost_at_most_in_all}

abbrev pub AnswerIn : Answer → Type 0
AnswerIn (planned n long cost left) = (n ≤ 64) × (long ≤ finish_most) × (cost ≤ total_most) × (left ≤ budget_most)
AnswerIn (refused number place) = (number ≤ 11) × (place ≤ total_most)

module _ (W : Workflow) (range : InRange W) where
  -- The cheapest choice of processors costs no more than any, such as the first for every task.
  cheapest_at_most : {total : ℕ} → ((on : ℕ → ℕ) → Assignment W on → total ≤ costs_in_all W on) → total ≤ total_most
  cheapest_at_most at_least =
      omega (
        arith,
        at_least (λ i. 0) (λ i l. range.processors_in.from_low),
        sum_at_most_each W.tasks (λ i. cost W i 0) cost_most (λ i l. cost_at_most W range i 0),
        range.tasks_in.to_high,
      )

  budget_at_most : (share : Share) → ((k : ℕ) → share ≡ thousandths k → k ≤ 1_000) → budget_of share W ≤ budget_most
  unfolding budget_of
  budget_at_most no_share share_in = range.budget_in
  budget_at_most (thousandths k) share_in =
      budget_between_at_most k (cheapest_total W) (cost_alone HEFT W) (share_in k refl) (cheapest_at_most (cheapest_at_most_any W))
      (HEFT_cost_at_most W range)

  held_in_range : (M : Name) (share : Share) → ((k : ℕ) → share ≡ thousandths k → k ≤ 1_000) → InRange (held_to M share W)
  unfolding held_to
  held_in_range by_HBCS share share_in = in_force_in_range range (budget_at_most share share_in) range.deadline_in
  held_in_range by_cheapest share share_in = unbound_in_range range
  held_in_range by_HEFT share share_in = unbound_in_range range

  due_in : {M : Name} {lent : ℕ} {o : Outcome} → Due W lent M o → AnswerIn (answer_of o)
  unfolding answer_of
  due_in (seven few) = (omega arith, omega (arith, range.tasks_in.to_high))
  due_in (eight enough lowest) = (omega arith, omega (arith, lowest.task, range.tasks_in.to_high))
  due_in (nine placeable dear) = (omega arith, cheapest_at_most dear.at_least)
  due_in (eleven placeable p within late) = (omega arith, omega (arith, length_at_most W range p))
  due_in (due.planned placeable p keeps) =
      (range.tasks_in.to_high, length_at_most W range p, cost_at_most_in_all W range p, omega (arith, range.budget_in))

module _ (M : Name) (s : List ℕ) where
  -- What is in force for a request that passes reading is in range.
  pub in_force_is_in_range : {end : ℕ} {r : Request} → read_request s ≡ read end r → InRange (workflow_for M s r)
  in_force_is_in_range {r = r} e =
      let good = read_is_good s e in held_in_range (workflow s r) (good_in_range s r good) M r.share (λ k is. (good.share_in k is).0)

  -- A refusal in reading has its place in the input. So first an input of at most 16,384 bytes; the answer of any other is that of its first 16,384.
  short_in : length s ≤ 16_384 → AnswerIn (answer_asked M s 64)
  unfolding answer_asked answer_of
  short_in short = go (read_request s) refl
    where
      go : (x : Read Request) → read_request s ≡ x → AnswerIn (answer_asked M s 64)
      go (read end r) e = due_in (workflow_for M s r) (in_force_is_in_range e) (requests_get_their_due M s e 64)
      go (stopped number place) e =
          let stop = reading_stops s e in
          rw (outcome_of_stopped M s e 64) (omega (arith, (stopped_with_1_to_6 stop).to_high), omega (arith, comes_inside stop.comes))

pub answer_in : (M : Name) (s : List ℕ) → AnswerIn (answer_asked M s 64)
answer_in M s = subst AnswerIn (answer_asked_first M s 64) (short_in M (take 16_384 s) (omega (arith, length-take 16_384 s)))
