-- The checks from 7 on, one after the other: the outcome where one finds a fault, and what is left to check where it does not.
use Rattle.std.specs.Prelude.{ℕ, ◌≤◌, ◌<◌, ◌≡◌, refl, true, false, List, ltb}
use Rattle.std.proofs.Common.{sym, ap, ◌∙◌}
use Rattle.std.proofs.lemmas.Bool.{false≢true}
use borrow.Author.Tests.{lt-ltb, le-ltb}
use Rattle.rules.specs.Reading.{Share}
use Rattle.rules.specs.Workflow.{Workflow}
use Rattle.rules.specs.Cycle.{cyclic, lowest_in_cycle}
use Rattle.rules.specs.Ranks.{cheapest_total}
use Rattle.rules.specs.Rows.{Placed, length_of}
use Rattle.rules.specs.Method.{Name, by_HBCS, by_cheapest, by_HEFT}
use Rattle.rules.specs.Budget.{held_to}
use Rattle.rules.specs.Answer.{refusal, refuse, too_late, placed_outcome, checked, later_checks, outcome_of, outcome_by}
use Rattle.laws.specs.InForce.{tasks_held, cyclic_held, lowest_in_cycle_held}
use Rattle.placing.specs.Placed.{all_rows}
use Rattle.budgets.specs.Prepared.{held_to_none}
use Rattle.planner.specs.Planned.{later_by, plan_alone}

-- 7 and 8, by any method: what is in force changes no task and no cycle.
module _ (M : Name) (share : Share) (W : Workflow) (lent : ℕ) where
  pub too_few_rows : lent < W.tasks → outcome_by M (held_to M share W) lent ≡ refusal 7 W.tasks
  unfolding outcome_by outcome_of checked refuse
  too_few_rows few = rw (tasks_held share W M, lt-ltb lent W.tasks few)

  module _ (enough : W.tasks ≤ lent) where
    enough_held : ltb lent (held_to M share W).tasks ≡ false
    enough_held = ap (ltb lent) (tasks_held share W M) ∙ le-ltb lent W.tasks enough

    pub with_cycle : cyclic W ≡ true → outcome_by M (held_to M share W) lent ≡ refusal 8 (lowest_in_cycle W)
    unfolding outcome_by outcome_of checked refuse
    with_cycle cycle = rw (enough_held, cyclic_held share W M, cycle, lowest_in_cycle_held share W M)

    pub without_cycle : cyclic W ≡ false → outcome_by M (held_to M share W) lent ≡ later_by M (held_to M share W)
    unfolding outcome_by outcome_of checked refuse
    without_cycle none = rw (enough_held, cyclic_held share W M, none)

-- 9 and 11, by HBCS, of a workflow with what is in force.
module _ (W : Workflow) where
  pub too_dear : W.budget < cheapest_total W → later_by by_HBCS W ≡ refusal 9 (cheapest_total W)
  unfolding refuse later_checks
  too_dear above = rw (lt-ltb W.budget (cheapest_total W) above)

  pub within_budget : cheapest_total W ≤ W.budget → later_by by_HBCS W ≡ placed_outcome W (all_rows by_HBCS W)
  unfolding refuse later_checks
  within_budget within = rw (le-ltb W.budget (cheapest_total W) within)

  pub after_deadline :
      (rows : List Placed) {length : ℕ} → length ≡ length_of rows → too_late W.deadline length ≡ true → placed_outcome W rows ≡ refusal 11 length
  unfolding placed_outcome refuse
  after_deadline rows is late = rw (← is, late)

-- The others have no later check; and but for them there is HBCS alone.
pub alone_later : (M : Name) (share : Share) (W : Workflow) → held_to_none M ≡ true → later_by M (held_to M share W) ≡ plan_alone M W
unfolding later_checks plan_alone held_to
alone_later by_HBCS share W e = absurd (false≢true e)
alone_later by_cheapest share W e = refl
alone_later by_HEFT share W e = refl

pub within_else : (M : Name) (share : Share) (W : Workflow) → held_to_none M ≡ false → later_by M (held_to M share W) ≡ later_by by_HBCS (held_to by_HBCS share W)
within_else by_HBCS share W e = refl
within_else by_cheapest share W e = absurd (false≢true (sym e))
within_else by_HEFT share W e = absurd (false≢true (sym e))
