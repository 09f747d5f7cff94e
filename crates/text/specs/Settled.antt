-- Two answers that the contract of `print`, `print_range` or `print_why` allows are one answer, and so are two exits of the buffer.
use Rattle.std.specs.Prelude.{ℕ, ◌≡◌, List, Result}
use Rattle.std.proofs.Common.{sym, ◌∙◌}
use Rattle.text.specs.declared.TooSmall.{TooSmall}
use Rattle.text.specs.Printed.{PrintedAs}

pub printed_settled :
    (t out : List ℕ) {out₁ out₂ : List ℕ} {a b : Result ℕ TooSmall} → PrintedAs t out out₁ a → PrintedAs t out out₂ b → (a ≡ b) × (out₁ ≡ out₂)
printed_settled t out one other = (one.answer_is ∙ sym other.answer_is, one.after_is ∙ sym other.after_is)
