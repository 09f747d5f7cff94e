-- None of the tasks passed is met; so the first that is found is the lowest.
use Rattle.std.proofs.Common.{◌≡◌, ◌+◌, ◌-◌, sym, ◌∙◌, arith}
use Rattle.reasons.proofs.Lowest.{none_met, lowest_found}
use Rattle.reasons.proofs.row_met.Goals as goal

pub returns-then-meets_row : goal.returns-then-meets_row
returns-then-meets_row c =
    let k = c.loop-k.k in
    let found = lowest_found _ _ _ _ _ _ k c.loop-k.invariant (sym c.meets_row.ensures ∙ c.if-meets_row.true) (c.args.n - (k + 1)) in
    let whole : k + 1 + (c.args.n - (k + 1)) ≡ c.args.n = omega arith in
    (sym (rw whole at found), omega arith)

pub returns : goal.returns
returns c = (sym (none_met _ _ _ _ _ _ c.args.n (λ j h. c.loop-k.invariant j (omega arith))), omega arith)
