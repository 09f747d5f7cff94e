-- There is room for every text.
use Rattle.std.proofs.Common.{arith, rules}
use Rattle.choosing.specs.Named.{meant_method}
use Rattle.text.specs.AtMost.{text_at_most}
use Rattle.text.proofs.print.Goals as goal

pub put_text-requires : goal.put_text-requires
put_text-requires c =
    (search rules, rw c.new-text.ensures (omega (arith, text_at_most (meant_method c.args.method) c.args.request.now)))
