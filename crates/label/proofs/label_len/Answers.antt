-- `label::label_len` meets its contract: a label ends where the run of listed bytes ends, so that the spaces after the run decide.
use mathlib.Core.Path.{◌≡◌}
use Prim.Native.Nat.{ℕ, ◌+◌, ◌-◌, ◌<◌}
use native.Mathlib.Omega.{arith}
use mathlib.Core.List.{List}
use Rattle.label.specs.Label.{Label, LabelLength}
use Rattle.label.specs.Parts.{Run}
use Rattle.label.specs.ListLaws.{space_not_listed}
use Rattle.label.proofs.label_len.Goals as goal

module _ {s : List ℕ} {at : ℕ} where
  no_label : ((len : ℕ) → Label s at len → ⊥) → LabelLength s at 0
  no_label none = record { label = λ h. absurd (omega arith); none = λ e. none }

  label_ends_with_run : {k len : ℕ} → Run s at k → Label s at len → len ≡ k
  label_ends_with_run {k} {len} run l =
      let not_before : len < k → ⊥ = λ h. space_not_listed (rw (l.then_spaces len (omega arith) (omega arith)) at (run.of_the_list len h)) in
      let not_after : k < len → ⊥ = λ h. run.stops (omega arith) (l.of_the_list k h) in
      omega arith

pub returns-then-s-at : goal.returns-then-s-at
returns-then-s-at c = no_label (λ len l. omega arith)

pub returns-then-s-at-lt8 : goal.returns-then-s-at-lt8
returns-then-s-at-lt8 c = no_label (λ len l. omega arith)

pub returns-then-spaces : goal.returns-then-spaces
returns-then-spaces c =
    let run = c.run-k.ensures in
    let at = c.args.at in
    record {
      label = λ h. record {
        whole = omega arith;
        one_or_more = h;
        eight_or_fewer = omega arith;
        of_the_list = run.of_the_list;
        then_spaces = λ k from below. c.spaces.ensures.passes c.if-spaces.true (at + k) (omega arith) (omega arith);
      };
      none = λ e len l. omega (arith, label_ends_with_run run l);
    }

pub returns-else-spaces : goal.returns-else-spaces
returns-else-spaces c =
    let at = c.args.at in
    let (i, from, below, other) = c.spaces.ensures.fails c.if-spaces.false in
    no_label (λ len l.
    let ends = label_ends_with_run c.run-k.ensures l in
    let same : at + (i - at) ≡ i = omega arith in
    other (rw same at (l.then_spaces (i - at) (omega arith) (omega arith))))
