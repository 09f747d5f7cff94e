-- 0 gives 1, and any other number itself.
use mathlib.Core.Path.{sym}
use Rattle.rules.specs.Method.{or_one}
use Rattle.laws.specs.Method.{or_one_of_positive}
use native.Mathlib.Omega.{arith}
use Rattle.numbers.proofs.or_one.Goals as goal

pub returns-then-x-eq0 : goal.returns-then-x-eq0
unfolding or_one
returns-then-x-eq0 c = rw c.if-x-eq0.true

pub returns-else-x-eq0 : goal.returns-else-x-eq0
returns-else-x-eq0 c = sym (or_one_of_positive _ (omega arith))
