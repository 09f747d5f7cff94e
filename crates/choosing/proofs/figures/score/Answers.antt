-- Two products that are in range, and the rules' score with its factors in another order.
use Rattle.choosing.specs.FiguredLaws.{saved_part_at_most, early_part_at_most, score_weighed}
use native.Mathlib.Omega.{arith}
use Rattle.choosing.proofs.figures.score.Goals as goal

pub overflow_mul-result : goal.overflow_mul-result
overflow_mul-result c = omega (arith, saved_part_at_most _ _ c.requires.weighed c.saturating_sub.result (omega arith))

pub overflow_mul-result-2 : goal.overflow_mul-result-2
overflow_mul-result-2 c =
    let pre = c.requires in
    omega (arith, early_part_at_most _ _ pre.weighed c.saturating_sub-2.result (omega arith))

pub overflow_add-result : goal.overflow_add-result
overflow_add-result c =
    let pre = c.requires in
    let saved = saved_part_at_most _ _ pre.weighed c.saturating_sub.result (omega arith) in
    let early = early_part_at_most _ _ pre.weighed c.saturating_sub-2.result (omega arith) in
    omega arith

pub returns : goal.returns
returns c =
    let pre = c.requires in
    let less = c.saturating_sub in
    let less2 = c.saturating_sub-2 in
    let saved = saved_part_at_most _ _ pre.weighed less.result (omega arith) in
    let early = early_part_at_most _ _ pre.weighed less2.result (omega arith) in
    (score_weighed _ _ pre.weighed _ _ less.ensures less2.ensures, omega arith)
