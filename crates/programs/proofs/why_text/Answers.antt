-- The two numbers are spelled, and what was printed lies inside the buffer.
use mathlib.Core.Path.{ap₂}
use Rattle.rules.specs.Why.{why_not, why_text}
use Rattle.programs.proofs.TextIn.{text_in}
use Rattle.programs.proofs.why_text.Goals as goal

pub returns : goal.returns
returns c =
    let request = c.args.request.now in
    rw (ap₂ (λ i t. why_text (why_not request i t)) c.number_of-number.ensures c.number_of-minute.ensures) at
    (text_in c.print_why.ensures c.bytes_of.ensures)
