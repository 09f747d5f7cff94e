-- The text is copied where there is room for it.
use Rattle.std.proofs.Common.{refl, arith}
use Rattle.text.proofs.Printing.{printed_nothing, printed_whole}
use Rattle.text.proofs.print_text.Goals as goal

pub returns-then-room-needed : goal.returns-then-room-needed
returns-then-room-needed c = printed_nothing c.args.text.now c.args.out.now refl (omega arith)

pub returns : goal.returns
returns c = printed_whole c.args.text.now c.args.out.now (record { fits = omega arith }) c.put_bytes.ensures
