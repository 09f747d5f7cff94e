-- A task is marked if the one before it is reached, and else the edge is followed as it stands.
use mathlib.Core.Path.{sym, ap, ◌∙◌}
use Prim.Native.Nat.{ℕ}
use mathlib.Core.Bool.{◌||◌, true≢false}
use lib.Dec.{eqb}
use Rattle.rules.specs.Workflow.{workflow}
use Rattle.lookup.specs.Flow.{flow}
use Rattle.lookup.specs.Views.{view_in_range}
use Rattle.laws.specs.Turned.{turned_none}
use Rattle.cycles.specs.Marked.{marked}
use Rattle.cycles.specs.MarkedLaws.{mark_turned, some_left}
use Rattle.cycles.proofs.mark_end.Goals as goal

pub returns-then-marks-to : goal.returns-then-marks-to
returns-then-marks-to c =
    let pre = c.requires in
    let a = c.args in
    let to = c.to-to in
    let if1 = c.if-marks-to in
    turned_none pre.1 (λ h. ap (marked a.marks.now) (sym to.ensures.0) ∙ if1.true)

pub overflow_sub-result : goal.overflow_sub-result
unfolding workflow
overflow_sub-result c =
    let pre = c.requires in
    let a = c.args in
    let to = c.to-to in
    let if1 = c.if-marks-to in
    let W = flow a.r.now in
    let range = view_in_range a.r.now.bytes.now a.r.now.view c.args.r.now.good in
    let free = ap (marked a.marks.now) (sym to.ensures.0) ∙ if1.false in
    some_left W range a.start a.marks.now a.left a.edge pre.1 pre.0 free

pub returns-then-reached : goal.returns-then-reached
unfolding workflow
returns-then-reached c =
    let pre = c.requires in
    let a = c.args in
    let to = c.to-to in
    let if1 = c.if-marks-to in
    let from = c.from in
    let reached = c.reached in
    let if2 = c.if-reached in
    let W = flow a.r.now in
    let range = view_in_range a.r.now.bytes.now a.r.now.view c.args.r.now.good in
    let free = ap (marked a.marks.now) (sym to.ensures.0) ∙ if1.false in
    let there = ap (λ (x : ℕ). eqb x a.start || marked a.marks.now x) (sym from.ensures.0) in
    let is-reached = there ∙ sym reached.ensures ∙ if2.true in
    rw to.ensures.0
    (mark_turned W range a.start a.marks.now a.left a.edge pre.1 pre.0 free is-reached)

pub returns : goal.returns
returns c =
    let pre = c.requires in
    let a = c.args in
    let from = c.from in
    let reached = c.reached in
    let if2 = c.if-reached in
    let there = ap (λ (x : ℕ). eqb x a.start || marked a.marks.now x) (sym from.ensures.0) in
    let other = there ∙ sym reached.ensures ∙ if2.false in
    turned_none pre.1 (λ h. absurd (true≢false (sym h ∙ other)))
