-- Each call reads the edge that is due.
use Rattle.std.proofs.Common.{rules}
use Rattle.rules.specs.Reading.{edges_part, then}
use Rattle.rules.specs.Records.{edge_at}
use Rattle.good.specs.Runs.{edge_steps}
use Rattle.parts.proofs.read_edges.Goals as goal

pub returns : goal.returns
unfolding edges_part then
returns c = let a = c.args in c.run.ensures (edge_at a.s.now a.n) (λ next k r answers. search rules) (edge_steps a.s.now a.n)
