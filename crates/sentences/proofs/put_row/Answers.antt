-- What is appended, one after the other, is the text of the row.
use Rattle.std.proofs.Common.{append_assoc}
use Rattle.rules.specs.Text.{bytes, line}
use Rattle.rules.specs.Why.{why_text}
use Rattle.sentences.proofs.put_row.Goals as goal

pub returns : goal.returns
unfolding why_text line bytes
returns g c =
    rw (c.push_all.ensures, c.told-3.ensures, c.told-2.ensures, c.told.ensures, c.line.ensures) (simp append_assoc)
