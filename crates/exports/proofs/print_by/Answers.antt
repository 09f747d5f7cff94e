-- By the cases of the answer, each of which tells the length.
use Rattle.std.proofs.Common.{ap, ◌∙◌}
use Rattle.text.proofs.Printing.{told_length, printed_tells}
use Rattle.exports.proofs.print_by.Goals as goal

pub returns-in-Ok : goal.returns-in-Ok
returns-in-Ok c =
    let print = c.in-Ok.ensures in
    record { length_is = ap told_length print.answer_is ∙ printed_tells _ _; after_is = print.after_is }

pub returns-in-Err : goal.returns-in-Err
returns-in-Err c =
    let print = c.in-Err.ensures in
    record { length_is = ap told_length print.answer_is ∙ printed_tells _ _; after_is = print.after_is }
