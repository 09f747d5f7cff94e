-- The sum so far is that over the processors passed.
use mathlib.Core.Path.{◌≡◌, refl, ap, ◌∙◌}
use Prim.Native.Nat.{ℕ, ◌+◌}
use Rattle.rules.specs.Folds.{sum}
use Rattle.laws.specs.Folds.{sum_next}
use Rattle.lookup.specs.Flow.{flow}
use Rattle.lookup.specs.Views.{view_processors}
use native.Mathlib.Omega.{arith}
use Rattle.ranking.proofs.all_minutes.Goals as goal

pub loop-j-init : goal.loop-j-init
unfolding sum
loop-j-init c = (refl, omega arith)

pub overflow_add-minutes : goal.overflow_add-minutes
overflow_add-minutes c = omega (arith, c.minutes-minutes.ensures, view_processors c.args.r.now.bytes.now c.args.r.now.view c.args.r.now.good)

pub loop-j-preserved : goal.loop-j-preserved
loop-j-preserved c =
    let loop = c.loop-j in
    let W = flow c.args.r.now in
    let here = c.minutes-minutes.ensures in
    (sum_next loop.j (W.minutes c.args.task) loop.invariant.0 (ap (λ (x : ℕ). loop.minutes + x) here.0), omega arith)

pub returns : goal.returns
returns c =
    let a = c.args in
    let loop = c.loop-j in
    let W = flow a.r.now in
    let passed : loop.j ≡ a.r.now.view.processors = omega arith in (
      loop.invariant.0 ∙ ap (λ (k : ℕ). sum k (W.minutes a.task)) passed,
      omega (arith, view_processors a.r.now.bytes.now a.r.now.view c.args.r.now.good),
    )
