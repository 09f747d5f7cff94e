-- What the programs' functions leave is so, and is settled by that.
use Rattle.std.specs.Prelude.{ℕ, ◌≤◌, ◌≡◌, List, length, Result, Ok, Err}
use Rattle.std.proofs.Common.{sym, ap, ◌∙◌, arith, length-take}
use Rattle.io.specs.Counts.{IsPrefixLen}
use Rattle.text.specs.declared.TooSmall.{TooSmall}
use Rattle.text.specs.Printed.{PrintedAs, FitsIn}
use Rattle.text.proofs.Printing.{printed_fits}
use Rattle.programs.specs.Told.{to_write, TextIn}

inside : (room : ℕ) (p : Result ℕ TooSmall) → FitsIn room p → to_write p ≤ room
inside room (Ok n) fits = fits
inside room (Err small) fits = omega arith

pub text_in :
    {t out out' : List ℕ} {p : Result ℕ TooSmall} {r : ℕ} → PrintedAs t out out' p → r ≡ to_write p → IsPrefixLen r out' × TextIn t out out' r
text_in {out' = out'} {p} {r} printed_as is =
    let within : r ≤ length out' = omega (arith, inside (length out') p (printed_fits printed_as), is) in (
      (within, omega (arith, within, length-take r out')),
      record { bytes_are = is ∙ ap to_write printed_as.answer_is; after_is = printed_as.after_is },
    )

-- Two numbers that are so are one, and so are two buffers.
pub text_in_settled : {t out a b : List ℕ} {r r' : ℕ} → TextIn t out a r → TextIn t out b r' → (r ≡ r') × (a ≡ b)
text_in_settled one other = (one.bytes_are ∙ sym other.bytes_are, one.after_is ∙ sym other.after_is)
