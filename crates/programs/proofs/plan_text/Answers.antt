-- What was printed lies inside the buffer.
use Rattle.programs.proofs.TextIn.{text_in}
use Rattle.programs.proofs.plan_text.Goals as goal

pub returns : goal.returns
returns c = text_in c.print.ensures c.bytes_of.ensures
