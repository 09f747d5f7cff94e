-- There is room for every line.
use Rattle.std.proofs.Common.{ap, ◌∙◌, length, arith, rules}
use Rattle.rules.specs.Range.{range_line, range_text}
use Rattle.text.specs.AtMost.{range_at_most}
use Rattle.text.proofs.print_range.Goals as goal

pub put_range_line-requires : goal.put_range_line-requires
unfolding range_text
put_range_line-requires c =
    let line = ap (λ costs. length (range_line costs)) c.range-costs.ensures in
    (search rules, rw c.new-text.ensures (omega (arith, range_at_most c.args.request.now)))

pub returns : goal.returns
unfolding range_text
returns c =
    let printed = c.as_slice.ensures.0 ∙ c.put_range_line.ensures ∙ rw (c.new-text.ensures, c.range-costs.ensures) in
    rw printed at c.print_text.ensures
