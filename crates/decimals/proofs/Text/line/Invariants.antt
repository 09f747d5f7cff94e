-- What is appended and the numbers that are left are the line.
use Rattle.std.proofs.Common.{◌≡◌, ◌++◌, drop}
use Rattle.decimals.specs.Lines.{spaced}
use Rattle.decimals.proofs.Text.line.Given as goal

abbrev pub invariant-loop-x : goal.invariant-loop-x
invariant-loop-x g l = l.self ++ spaced (drop l.x-index l.numbers) ≡ l.fn.self ++ (l.opening ++ spaced l.numbers)
