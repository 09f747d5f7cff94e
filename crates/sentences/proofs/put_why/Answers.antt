-- By the cases of the reason.
use Rattle.std.proofs.Common.{arith, rules}
use Rattle.rules.specs.Text.{bytes}
use Rattle.rules.specs.Why.{late_data, in_window, beside_row, own_start, no_task, no_plan, why_text}
use Rattle.reasons.specs.Meant.{meant_why}
use Rattle.sentences.specs.Longest.{room_for_why}
use Rattle.sentences.proofs.put_why.Goals as goal

pub put_two-requires : goal.put_two-requires
unfolding why_text bytes
put_two-requires g c = (search rules, room_for_why (late_data _ _) (omega arith, omega arith) _ _ c.requires)

pub put_two-requires-in-InWindow : goal.put_two-requires-in-InWindow
unfolding why_text bytes
put_two-requires-in-InWindow g c = (search rules, room_for_why (in_window _ _) (omega arith, omega arith) _ _ c.requires)

pub put_row-requires : goal.put_row-requires
put_row-requires g c = (search rules, room_for_why (beside_row _ _ _) (omega arith, omega arith, omega arith) _ _ c.requires)

pub put_one-requires : goal.put_one-requires
unfolding why_text bytes
put_one-requires g c = (search rules, room_for_why (own_start _) (omega arith) _ _ c.requires)

pub put_one-requires-in-NoTask : goal.put_one-requires-in-NoTask
unfolding why_text bytes
put_one-requires-in-NoTask g c = (search rules, room_for_why (no_task _) (omega arith) _ _ c.requires)

pub put_refusal-requires : goal.put_refusal-requires
put_refusal-requires g c = (search rules, room_for_why (no_plan _ _) (omega arith, omega arith) _ _ c.requires)

pub returns-in-LateData : goal.returns-in-LateData
unfolding meant_why why_text bytes
returns-in-LateData g c = rw c.in-LateData.is c.put_two.ensures

pub returns-in-OwnStart : goal.returns-in-OwnStart
unfolding meant_why why_text bytes
returns-in-OwnStart g c = rw c.in-OwnStart.is c.put_one.ensures
