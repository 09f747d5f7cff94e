-- The place of the label, and the length that crate `label` gives there.
use mathlib.Core.Path.{sym, ◌∙◌, ap, ap₂}
use Prim.Native.Nat.{ℕ, ◌+◌}
use Rattle.label.specs.Length.{label_length}
use Rattle.label.specs.Laws.{length_is_label_length}
use Rattle.rules.specs.Fields.{T_label}
use Rattle.rules.specs.Labels.{label_place, label_part}
use Rattle.good.specs.Labels.{lookup_is_part}
use Rattle.lookup.proofs.Places.{task_most}
use native.Mathlib.Omega.{arith}
use Rattle.lookup.proofs.request.Request.label.Goals as goal

pub overflow_add-begin : goal.overflow_add-begin
overflow_add-begin c =
    omega (arith, c.task_place-begin.ensures, task_most _ c.args.self.now.view c.args.self.now.good c.args.task c.requires)

pub returns : goal.returns
unfolding label_part label_place T_label
returns c =
    let a = c.args in
    let pre = c.requires in
    let begins = ap (λ (at : ℕ). at + 2) c.task_place-begin.ensures in
    let long = length_is_label_length c.label_len-length.ensures ∙ ap (label_length a.self.now.bytes.now) begins in
    ap₂ (λ (begin length : ℕ). record { begin = begin; length = length }) begins long ∙ sym (lookup_is_part a.self.now.bytes.now a.task c.args.self.now.good c.requires)
