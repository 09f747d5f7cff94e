-- What comes back for a multiplied workflow, by each of the three methods: the plan with its rows multiplied, or the same refusal.
use Rattle.std.specs.Prelude.{ℕ, ◌*◌, ◌≤◌, ◌<◌, Bool, true, false, List, map, take, ltb}
use Rattle.std.proofs.Math.Path.{◌≡◌, refl, ap, fun_ext}
use Rattle.std.proofs.Common.{sym, ◌∙◌, mul-pos}
use native.Mathlib.Omega.{arith}
use Rattle.rules.specs.Folds.{listing}
use Rattle.rules.specs.Reading.{Deadline, no_deadline, by}
use Rattle.rules.specs.Workflow.{Workflow}
use Rattle.rules.specs.Cycle.{cyclic, lowest_in_cycle}
use Rattle.rules.specs.Ranks.{cheapest_total}
use Rattle.rules.specs.Method.{Name, by_HBCS, by_cheapest, by_HEFT, method}
use Rattle.rules.specs.Rows.{Row, Placed, row_of, length_of}
use Rattle.rules.specs.Placing.{RB, place}
use Rattle.rules.specs.Answer.{Outcome, plan, refusal, refuse, too_late, placed_outcome, checked, later_checks, outcome_of, outcome_by, planned, answer_of, written}
use Rattle.rules.specs.Buffers.{Buffers, row_in, buffers_written}
use Rattle.rules.specs.Multiplied.{multiplied_deadline, multiplied, multiplied_row, multiplied_place, multiplied_answer}
use Rattle.laws.specs.Tests.{ltb_multiplied}
use Rattle.laws.specs.Listing.{listing_mapped, take_listing}
use Rattle.demands.specs.Ground.Held.{row_in_written}
use Rattle.demands.specs.Demand3.HBCSMultiplied.{method_keeps_choices}
use Rattle.demands.specs.Demand3.CostsMultiplied.{cheapest_total_multiplied, cyclic_multiplied, lowest_in_cycle_multiplied}
use Rattle.demands.specs.Demand3.RowsMultiplied.{multiplied_placed, row_of_multiplied, spent_multiplied, length_of_multiplied}
use Rattle.demands.specs.Demand3.PlacingMultiplied.{RB_multiplied, place_multiplied}

unfoldable pub multiplied_outcome : ℕ → ℕ → Outcome → Outcome
multiplied_outcome a b (plan W rows) = plan (multiplied a b W) (map (multiplied_placed a b) rows)
multiplied_outcome a b (refusal number place) = refusal number (multiplied_place a b number place)

refuse_multiplied :
    (a b : ℕ) (test : Bool) (number place : ℕ) (later : Outcome)
    → refuse test number (multiplied_place a b number place) (multiplied_outcome a b later)
    ≡ multiplied_outcome a b (refuse test number place later)
unfolding refuse multiplied_outcome
refuse_multiplied a b true number place later = refl
refuse_multiplied a b false number place later = refl

too_late_multiplied : (a : ℕ) → 1 ≤ a → (d : Deadline) (length : ℕ) → too_late (multiplied_deadline a d) (a * length) ≡ too_late d length
unfolding too_late multiplied_deadline
too_late_multiplied a pa no_deadline length = refl
too_late_multiplied a pa (by d) length = ltb_multiplied a pa d length

module _ (a b : ℕ) (pa : 1 ≤ a) (W : Workflow) where
  placed_outcome_multiplied :
      (rows : List Placed) → placed_outcome (multiplied a b W) (map (multiplied_placed a b) rows) ≡ multiplied_outcome a b (placed_outcome W rows)
  unfolding placed_outcome multiplied_outcome multiplied_place multiplied
  placed_outcome_multiplied rows =
      rw (length_of_multiplied a b rows, too_late_multiplied a pa W.deadline (length_of rows))
      (refuse_multiplied a b (too_late W.deadline (length_of rows)) 11 (length_of rows) (plan W rows))

  later_checks_multiplied :
      1 ≤ b → (M : Name) (rows : List Placed)
      → later_checks M (multiplied a b W) (map (multiplied_placed a b) rows) ≡ multiplied_outcome a b (later_checks M W rows)
  unfolding later_checks multiplied_outcome multiplied_place multiplied
  later_checks_multiplied pb by_HBCS rows =
      rw (
        cheapest_total_multiplied a b W,
        ltb_multiplied (a * b) (mul-pos pa pb) W.budget (cheapest_total W),
        placed_outcome_multiplied rows,
      )
      (refuse_multiplied a b (ltb W.budget (cheapest_total W)) 9 (cheapest_total W) (placed_outcome W rows))
  later_checks_multiplied pb by_cheapest rows = refl
  later_checks_multiplied pb by_HEFT rows = refl

  pub outcome_by_multiplied : 1 ≤ b → (M : Name) (lent : ℕ) → outcome_by M (multiplied a b W) lent ≡ multiplied_outcome a b (outcome_by M W lent)
  unfolding outcome_by outcome_of checked multiplied_place multiplied
  outcome_by_multiplied pb M lent =
      let later = later_checks M W (place (method M) W W.tasks) in
      let acyclic = refuse (cyclic W) 8 (lowest_in_cycle W) later in
      rw (
        cyclic_multiplied a b W,
        lowest_in_cycle_multiplied a b W,
        place_multiplied a b pa W pb (method M) (method_keeps_choices M) W.tasks,
        later_checks_multiplied pb M (place (method M) W W.tasks),
        refuse_multiplied a b (cyclic W) 8 (lowest_in_cycle W) later,
      )
      (refuse_multiplied a b (ltb lent W.tasks) 7 W.tasks acyclic)

module _ (a b : ℕ) where
  pub answer_of_multiplied : 1 ≤ a → (outcome : Outcome) → answer_of (multiplied_outcome a b outcome) ≡ multiplied_answer a b (answer_of outcome)
  unfolding answer_of multiplied_outcome multiplied_answer multiplied RB
  answer_of_multiplied pa (plan W rows) =
      λ t. planned W.tasks (length_of_multiplied a b rows t) (spent_multiplied a b rows t) (RB_multiplied a b pa W rows t)
  answer_of_multiplied pa (refusal number place) = refl

  -- The rows that a plan writes, whatever was lent.
  pub written_multiplied :
      (outcome : Outcome) (lent lent' : List Row) (n l c left : ℕ) → answer_of outcome ≡ planned n l c left
      → take n (written (multiplied_outcome a b outcome) lent') ≡ map (multiplied_row a b) (take n (written outcome lent))
  unfolding answer_of multiplied_outcome written multiplied
  written_multiplied (plan W rows) lent lent' n l c left e =
      let tasks : n ≡ W.tasks = cc in
      simp (tasks, take_listing)
      (ap (listing W.tasks) (fun_ext (row_of_multiplied a b rows)) ∙ listing_mapped W.tasks (row_of rows) (multiplied_row a b))
  written_multiplied (refusal number place) lent lent' n l c left e = let z : ◌≡◌ {A = ℕ} 0 1 = cc in absurd (omega arith)

  -- Row i in four buffers.
  pub row_in_multiplied :
      (outcome : Outcome) (lent lent' : Buffers) (n l c left : ℕ) → answer_of outcome ≡ planned n l c left → (i : ℕ) → i < n
      → row_in (buffers_written (multiplied_outcome a b outcome) lent') i ≡ multiplied_row a b (row_in (buffers_written outcome lent) i)
  unfolding answer_of multiplied_outcome multiplied
  row_in_multiplied (plan W rows) lent lent' n l c left e i h =
      let task : i < W.tasks = let tasks : n ≡ W.tasks = cc in omega arith in
      row_in_written i task (plan (multiplied a b W) (map (multiplied_placed a b) rows)) lent' refl
      ∙ row_of_multiplied a b rows i
      ∙ ap (multiplied_row a b) (sym (row_in_written i task (plan W rows) lent refl))
  row_in_multiplied (refusal number place) lent lent' n l c left e i h = let z : ◌≡◌ {A = ℕ} 0 1 = cc in absurd (omega arith)
