-- The task in hand, over what is kept, is the rules' over the rows.
use Prim.Native.Nat.{ℕ, ◌+◌, ◌≤◌, ◌<◌, max}
use Rattle.std.specs.Prelude.{◌≡◌, refl, List}
use Rattle.std.proofs.Math.Path.{ap}
use Rattle.std.proofs.Common.{◌∙◌, arith}
use Rattle.std.proofs.Math.Decide.{dec_lt}
use Rattle.std.proofs.Math.ListN.{get_or-eq_default}
use Rattle.rules.specs.Workflow.{Workflow}
use Rattle.rules.specs.Start.{arrived, ready, start_on}
use Rattle.rules.specs.Rows.{Placed, busy}
use Rattle.rules.specs.Method.{Question, Method}
use Rattle.rules.specs.Placing.{ready_for, start_of, finish_of, RB, RCB, question, row_on}
use Rattle.good.specs.Ranges.{InRange}
use Rattle.laws.specs.Bounds.{ready_most}
use Rattle.laws.specs.LatestFinish.{ready_in_reach}
use Rattle.laws.specs.Method.{ChoosesAmong}
use Rattle.laws.specs.Stores.{at}
use Rattle.laws.specs.Filled.{AtMost}
use Rattle.busy.specs.Kept.{kept_by}
use Rattle.ready.specs.Ready.{FromClock}
use Rattle.hand.specs.Hand.{start_by, finish_by, question_by, row_by}
use Rattle.hand.specs.declared.Row as code
use Rattle.placing.specs.State.{State, meant_row}
use Rattle.placing.specs.Kept.{Kept}

-- The method takes a processor that there is.
pub takes : {M : Method} → ChoosesAmong M → {W : Workflow} → InRange W → (rows : List Placed) (i : ℕ) → M (question W rows i) < W.processors
unfolding question
takes among range rows i = among.takes_processor _ range.processors_in.from_low

module _ {W : Workflow} (range : InRange W) {rows : List Placed} {k : ℕ} {state : State} (kept : Kept W rows k state) (i : ℕ)
    {minutes : List ℕ} (all_ready : FromClock W.clock W.processors (arrived W (at state.sits) (at state.ends) i) minutes) where
  ready_kept : (j : ℕ) → max W.clock (arrived W (at state.sits) (at state.ends) i j) ≡ ready_for W rows i j
  unfolding ready_for ready
  ready_kept j =
      let sits_hold = kept.columns.processors_hold.holds in
      let ends_hold = kept.columns.finishes_hold.holds in
      λ t. max W.clock (arrived W (λ p. sits_hold p t) (λ p. ends_hold p t) i j)

  pub ready_within : k < W.tasks → AtMost ready_most minutes
  ready_within more j = go (dec_lt j W.processors)
    where
      go : Dec (j < W.processors) → at minutes j ≤ ready_most
      go (yes l) =
          omega (
            arith,
            all_ready.below j l,
            ready_kept j,
            ready_in_reach W range.minutes_most range.transfer_in range.clock_in range.first_end_in rows i j,
            kept.length_most,
            range.tasks_in,
          )
      go (no past) = beyond (dec_lt j 16)
        where
          beyond : Dec (j < 16) → at minutes j ≤ ready_most
          beyond (yes b) = omega (arith, all_ready.past j (omega arith) b, range.clock_in)
          beyond (no out) = rw (get_or-eq_default minutes 0 {n = j} (omega (arith, all_ready.size))) (omega arith)

  start_kept : (j : ℕ) → j < W.processors → start_by W (at minutes) (kept_by state.processors) i j ≡ start_of W rows i j
  unfolding start_by start_of
  start_kept j l =
      kept.processors.holds j (omega (arith, range.processors_in)) _ _ ∙ ap (λ r. start_on (busy W rows j) r (W.minutes i j)) (all_ready.below j l ∙ ready_kept j)

  finish_kept : (j : ℕ) → j < W.processors → finish_by W (at minutes) (kept_by state.processors) i j ≡ finish_of W rows i j
  unfolding finish_by finish_of
  finish_kept j l = ap (λ x. x + W.minutes i j) (start_kept j l)

  module _ {M : Method} (among : ChoosesAmong M) {to_come : ℕ} (to_come_is : to_come ≡ RCB W rows i) where
    abbrev asked : Question
    asked = question_by W (at minutes) (kept_by state.processors) i state.rb to_come

    -- The method takes the processor that it takes for the rules' question.
    choice_kept : M asked ≡ M (question W rows i)
    unfolding question_by question RB
    choice_kept =
        among.alike _ _ range.processors_in.from_low
        (record { processors = refl; cost = λ j l. refl; finish = finish_kept; RB = kept.rb_is; RCB = to_come_is })

    -- So the row is the rules'.
    pub row_kept : {r : code.Row} → r ≡ row_by W (at minutes) (kept_by state.processors) i M state.rb to_come
        → meant_row r ≡ row_on W rows i (M (question W rows i))
    unfolding row_on
    row_kept handed =
        let below = takes among range rows i in
        ap meant_row handed ∙ rw (choice_kept, start_kept _ below, finish_kept _ below)
