-- The costs of two plans; or the refusal of the first, or of the second.
use Rattle.std.proofs.lemmas.Result.{err_from_is_err_and}
use Rattle.rules.specs.Range.{range_of, range}
use Rattle.choosing.specs.Named.{meant_method}
use Rattle.asked.proofs.range.Goals as goal

pub returns-in_err-cheapest : goal.returns-in_err-cheapest
unfolding range range_of meant_method
returns-in_err-cheapest c =
    let p = err_from_is_err_and c.from_residual.result c.from_residual.ensures.1 in
    rw (p.1, p.2, ← c.in_err-cheapest.ensures)

pub returns-in_err-heft : goal.returns-in_err-heft
unfolding range range_of meant_method
returns-in_err-heft c =
    let p = err_from_is_err_and c.from_residual-in_err-heft.result c.from_residual-in_err-heft.ensures.1 in
    rw (p.1, p.2, ← c.in_ok-cheapest.ensures, ← c.in_err-heft.ensures)

pub returns : goal.returns
unfolding range range_of meant_method
returns c = rw (← c.in_ok-cheapest.ensures, ← c.in_ok-heft.ensures)
