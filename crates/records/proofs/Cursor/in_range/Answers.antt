use Rattle.records.proofs.Cursor.in_range.Goals as goal
use Rattle.std.proofs.Common.{arith, ◌≡◌}
use Rattle.std.specs.Prelude.{leb, ◌&&◌}
use Rattle.std.proofs.lemmas.Bool.Decides.{nat_tests}
use Rattle.rules.specs.Records.{within}

pub returns : goal.returns
unfolding within
returns c =
    let a = c.args in
    let same : c.contains.result ≡ (leb a.low a.x && leb a.x a.high) = grind (arith, nat_tests, c.contains.ensures.value, c.new.ensures.start, c.new.ensures.end, c.new.ensures.exhausted) in
    rw same at c.check.ensures
