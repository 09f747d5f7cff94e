-- The digits of `front` are still to be written, and those past them stand from `place` on.
use Rattle.std.proofs.Common.{◌≡◌, ◌≤◌, ◌++◌, length, drop}
use Rattle.rules.specs.Text.{decimal}
use Rattle.decimals.proofs.Text.decimal.Given as goal

abbrev pub invariant-loop-front : goal.invariant-loop-front
invariant-loop-front g l =
    record {
      parts : decimal l.x ≡ decimal l.front ++ drop l.place l.digits;
      room : length (decimal l.front) ≤ l.place;
      within : l.place ≤ length l.digits;
      wide : length l.digits ≡ 20;
    }

abbrev pub decreases-loop-front : goal.decreases-loop-front
decreases-loop-front g l = l.front
