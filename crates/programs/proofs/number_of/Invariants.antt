-- After i turns the first i bytes are read.
use Rattle.std.proofs.Common.{◌≡◌}
use Rattle.programs.specs.Spelled.{spelled, Small}
use Rattle.programs.proofs.number_of.Given as goal

abbrev pub invariant-loop-b : goal.invariant-loop-b
invariant-loop-b l = Small l.b-index l.x × (l.x ≡ spelled l.b-index l.digits)
