-- The reason that an outcome gives, by the answer and the arrays that are told of it.
use Rattle.std.specs.Prelude.{ℕ, ◌≤◌, ◌<◌, ◌≡◌, refl, List, Ok}
use Rattle.std.proofs.Common.{◌∙◌, arith, lt-ltb, le-ltb}
use Rattle.rules.specs.Reading.{Share}
use Rattle.rules.specs.Workflow.{Workflow}
use Rattle.rules.specs.Rows.{Placed, row_of}
use Rattle.rules.specs.Start.{arrival, arrived}
use Rattle.rules.specs.Method.{by_HBCS}
use Rattle.rules.specs.Budget.{in_force, held_to}
use Rattle.rules.specs.Answer.{Outcome, answer_of}
use Rattle.rules.specs.Answer as answers
use Rattle.rules.specs.Why.{no_task, last_to_arrive, lowest_met, why_placed, why_of}
use Rattle.good.specs.Ranges.{InRange}
use Rattle.laws.specs.Bounds.{finish_most}
use Rattle.laws.specs.Stores.{at}
use Rattle.laws.specs.Filled.{AtMost}
use Rattle.laws.specs.LatestFinish.{finish_in_length}
use Rattle.demands.specs.Demand2.WhatIsDue as due
use Rattle.demands.specs.Demand2.WhatIsDue.{Due, seven, eight, nine, eleven}
use Rattle.placing.specs.Placed.{Columns}
use Rattle.planner.specs.declared.Summary.{Summary}
use Rattle.planner.specs.declared.Planning.{Planning}
use Rattle.planner.specs.Planned.{Answer, meant_answer, rows_in, PlanOf}
use Rattle.bounds.specs.PlanBounds.{row_bounds, length_at_most}

-- What is in force changes no reason.
why_held :
    (share : Share) (W : Workflow) (sits begins ends : ℕ → ℕ) (i t : ℕ)
    → why_placed W sits begins ends i t ≡ why_placed (held_to by_HBCS share W) sits begins ends i t
unfolding why_placed held_to in_force arrived arrival last_to_arrive lowest_met
why_held share W sits begins ends i t = refl

-- The arrays give the reason that the rows give.
same_rows :
    (W : Workflow) {rows : List Placed} {processors starts finishes costs : List ℕ} → Columns rows processors starts finishes costs → (i t : ℕ)
    → why_placed W (at processors) (at starts) (at finishes) i t
    ≡ why_placed W (λ k. (row_of rows k).processor) (λ k. (row_of rows k).start) (λ k. (row_of rows k).finish) i t
same_rows W columns i t =
    λ z. why_placed W (λ k. columns.processors_hold.holds k z) (λ k. columns.starts_hold.holds k z) (λ k. columns.finishes_hold.holds k z) i t

no_refusal : (a : Answer) {summary : Summary} {number place : ℕ} → a ≡ Ok summary → meant_answer a ≡ answers.refused number place → ⊥
no_refusal a told e = let same = rw told at e in cc

-- The outcome is a plan of W, and the arrays hold its rows: what is asked of them, and the reason that they give for a task of W and for any other.
pub record RowsOf (W : Workflow) (o : Outcome) (p : Planning) : Type 0 where
  pub processor_in : (i : ℕ) → i < W.tasks → at p.rows.processors i < W.processors
  pub start_in : (i : ℕ) → i < W.tasks → at p.rows.starts i ≤ finish_most
  pub finishes_in : AtMost finish_most p.rows.finishes
  pub reason : (i t : ℕ) → i < W.tasks → why_placed W (at p.rows.processors) (at p.rows.starts) (at p.rows.finishes) i t ≡ why_of o i t
  pub past : (i t : ℕ) → W.tasks ≤ i → no_task W.tasks ≡ why_of o i t

-- Where the answer tells a plan, by what is due.
pub plan_told :
    (share : Share) (W : Workflow) {o : Outcome} (p : Planning) → InRange (held_to by_HBCS share W) → Due (held_to by_HBCS share W) 64 by_HBCS o → PlanOf o p
    → {summary : Summary} → p.answer ≡ Ok summary → RowsOf W o p
unfolding answer_of rows_in why_of held_to in_force
plan_told share W p range (seven few) is told = absurd (no_refusal p.answer told is.answer_is)
plan_told share W p range (eight enough lowest) is told = absurd (no_refusal p.answer told is.answer_is)
plan_told share W p range (nine placeable dear) is told = absurd (no_refusal p.answer told is.answer_is)
plan_told share W p range (eleven placeable q within late) is told = absurd (no_refusal p.answer told is.answer_is)
plan_told share W p range (due.planned {rows = rows} placeable q keeps) is told =
    let columns = is.columns in
    record {
      processor_in = λ i l. omega (arith, columns.processors_hold.holds i, (q.rows_true i l).processor);
      start_in = λ i l. omega (arith, columns.starts_hold.holds i, (row_bounds _ range q i l).start_in);
      finishes_in = λ i. omega (arith, columns.finishes_hold.holds i, finish_in_length rows i, length_at_most _ range q);
      reason = λ i t l. rw (lt-ltb i W.tasks l) (why_held share W _ _ _ i t ∙ same_rows _ columns i t);
      past = λ i t l. rw (le-ltb i W.tasks l);
    }
