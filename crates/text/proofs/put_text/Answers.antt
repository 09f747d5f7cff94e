-- By the cases of the reading: the refusal's line, or the text of a good request.
use Rattle.std.proofs.Common.{rules}
use Rattle.choosing.specs.Named.{meant_method}
use Rattle.text.specs.TextParts.{refused_text}
use Rattle.text.proofs.put_text.Goals as goal

pub put_refusal-requires : goal.put_refusal-requires
put_refusal-requires g c =
    (search rules, rw (c.number.ensures) (rw (refused_text (meant_method c.args.method) c.args.request.now c.in-Err.ensures) at c.requires))

pub returns-in-Err : goal.returns-in-Err
returns-in-Err g c =
    rw (refused_text (meant_method c.args.method) c.args.request.now c.in-Err.ensures, ← c.number.ensures) c.put_refusal.ensures
