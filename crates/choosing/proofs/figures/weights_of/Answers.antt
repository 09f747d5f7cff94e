-- Each weight is the product of the rules' two figures, in range as they are.
use Prim.Native.Nat.{ℕ, ◌*◌}
use mathlib.Core.Path.{◌∙◌, ap, ap₂}
use Rattle.rules.specs.Method.{or_one}
use Rattle.choosing.specs.FiguredLaws.{saved_at_most, early_at_most}
use native.Mathlib.Omega.{arith}
use Rattle.choosing.proofs.figures.weights_of.Goals as goal

pub overflow_mul-result : goal.overflow_mul-result
overflow_mul-result c =
    let a = c.args in
    let pre = c.requires in
    let less = c.saturating_sub in
    omega (arith, saved_at_most a.g pre (c.or_one-f.ensures ∙ ap or_one less.ensures))

pub overflow_mul-result-2 : goal.overflow_mul-result-2
overflow_mul-result-2 c =
    let a = c.args in
    let pre = c.requires in
    omega (arith, early_at_most a.g pre (c.or_one-b.ensures ∙ ap or_one c.saturating_sub-2.ensures) c.or_one-rb.ensures)

pub returns : goal.returns
returns c =
    let a = c.args in
    let pre = c.requires in
    let less = c.saturating_sub in
    let f = c.or_one-f.ensures ∙ ap or_one less.ensures in
    let b = c.or_one-b.ensures ∙ ap or_one c.saturating_sub-2.ensures in
    let rb = c.or_one-rb.ensures in
    record {
      saved = ap (λ (x : ℕ). a.g.rcb * x) f;
      early = ap₂ ◌*◌ b rb;
      saved_most = saved_at_most a.g pre f;
      early_most = early_at_most a.g pre b rb;
    }
