-- What was printed lies inside the buffer.
use Rattle.programs.proofs.TextIn.{text_in}
use Rattle.programs.proofs.range_text.Goals as goal

pub returns : goal.returns
returns c = text_in c.print_range.ensures c.bytes_of.ensures
