-- The edges of the task are passed one after the other, while each leads to a task with a rank.
use mathlib.Core.Path.{◌≡◌, sym, ap, ◌∙◌}
use Prim.Native.Nat.{ℕ, ◌+◌, ◌*◌, ◌-◌, max}
use native.Mathlib.Nat.{mul-le-mul}
use Rattle.rules.specs.Workflow.{workflow}
use Rattle.lookup.specs.Flow.{flow}
use Rattle.lookup.specs.Views.{view_in_range}
use Rattle.laws.specs.Stores.{at}
use Rattle.ranking.specs.Passed.{passed_none, passed_more, passed_all, held_up_here}
use native.Mathlib.Omega.{arith}
use Rattle.ranking.proofs.rank_of.Goals as goal

pub loop-e-init : goal.loop-e-init
loop-e-init c =
    let pre = c.requires in
    let a = c.args in
    let W = flow a.r.now in
    let range = view_in_range a.r.now.bytes.now a.r.now.view c.args.r.now.good in
    passed_none W range a.ranks.now a.task a.begin a.end pre.begins.0 pre.begins.1

pub to-requires : goal.to-requires
unfolding workflow
to-requires c = omega (arith, c.requires.begins.1.within)

pub returns-then-onward-eq0 : goal.returns-then-onward-eq0
returns-then-onward-eq0 c =
    let pre = c.requires in
    let a = c.args in
    let loop = c.loop-e in
    let loop-test = c.loop-e-test in
    let to = c.to in
    let if1 = c.if-onward-eq0 in
    let W = flow a.r.now in
    let range = view_in_range a.r.now.bytes.now a.r.now.view c.args.r.now.good in
    let unknown = ap (at a.ranks.now) (sym to.ensures.0) ∙ if1.true in
    held_up_here W range a.ranks.now a.task a.begin a.end pre.begins.0 pre.begins.1 loop.e loop-test.true
    loop.invariant.from_begin unknown

pub transfer-requires : goal.transfer-requires
unfolding workflow
transfer-requires c = omega (arith, c.requires.begins.1.within)

pub overflow_mul-processors : goal.overflow_mul-processors
unfolding workflow
overflow_mul-processors c =
    let pre = c.requires in
    let a = c.args in
    let transfer = c.transfer in
    let range = view_in_range a.r.now.bytes.now a.r.now.view c.args.r.now.good in
    omega (arith, mul-le-mul range.processors_in.to_high transfer.ensures.1)

pub overflow_add-processors : goal.overflow_add-processors
unfolding workflow
overflow_add-processors c =
    let pre = c.requires in
    let a = c.args in
    let to = c.to in
    let transfer = c.transfer in
    let range = view_in_range a.r.now.bytes.now a.r.now.view c.args.r.now.good in
    omega (arith, mul-le-mul range.processors_in.to_high transfer.ensures.1, pre.task_lt_tasks.1 to.result)

pub loop-e-preserved : goal.loop-e-preserved
unfolding workflow
loop-e-preserved c =
    let pre = c.requires in
    let a = c.args in
    let loop = c.loop-e in
    let loop-test = c.loop-e-test in
    let to = c.to in
    let if1 = c.if-onward-eq0 in
    let transfer = c.transfer in
    let larger = c.max-most in
    let W = flow a.r.now in
    let range = view_in_range a.r.now.bytes.now a.r.now.view c.args.r.now.good in
    let successor = at a.ranks.now to.result in
    let next = larger.ensures ∙ ap (λ (t : ℕ). max loop.most (a.r.now.view.processors * t + (successor - 1))) transfer.ensures.0 in
    passed_more W range a.ranks.now a.task a.begin a.end pre.begins.0 pre.begins.1 loop.e loop-test.true loop.invariant
    (ap (at a.ranks.now) to.ensures.0) (omega (arith, if1.false))
    (pre.task_lt_tasks.1 to.result) next

pub overflow_add-result-2 : goal.overflow_add-result-2
overflow_add-result-2 c = omega (arith, c.loop-e.invariant.at_most, c.all_minutes.ensures.1)

pub overflow_add-result : goal.overflow_add-result
overflow_add-result c = omega (arith, overflow_add-result-2 c)

pub returns : goal.returns
unfolding workflow
returns c =
    let pre = c.requires in
    let a = c.args in
    let loop = c.loop-e in
    let all-minutes = c.all_minutes in
    let W = flow a.r.now in
    let range = view_in_range a.r.now.bytes.now a.r.now.view c.args.r.now.good in
    let passed : loop.e ≡ a.end = omega (arith, loop.invariant.to_end) in
    passed_all W range a.ranks.now a.task a.begin a.end pre.begins.0 pre.begins.1 (rw passed at loop.invariant)
    (ap (λ (x : ℕ). x + loop.most + 1) all-minutes.ensures.0)
