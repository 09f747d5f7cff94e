-- Each call reads the window that is due.
use Rattle.std.proofs.Common.{rules}
use Rattle.rules.specs.Reading.{windows_part, then}
use Rattle.rules.specs.Records.{window_at}
use Rattle.good.specs.Runs.{window_steps}
use Rattle.parts.proofs.read_windows.Goals as goal

pub returns : goal.returns
unfolding windows_part then
returns c = let a = c.args in c.run.ensures (window_at a.s.now a.m) (λ next k r answers. search rules) (window_steps a.s.now a.m)
