-- At the edge's place stands the number of the workflow.
use mathlib.Core.Path.{sym, ◌∙◌}
use Rattle.rules.specs.Fields.{E_transfer}
use Rattle.rules.specs.Workflow.{workflow}
use Rattle.good.specs.Inside.{transfer_there}
use Rattle.reader.specs.Meaning.{meant_view}
use Rattle.lookup.specs.Views.{view_in_range}
use Rattle.lookup.proofs.request.Request.transfer.Goals as goal

pub returns : goal.returns
unfolding workflow E_transfer
returns c =
    let a = c.args in
    let read = rw c.edge_place.ensures.0 at c.two_bytes.ensures.0 in
    let is = read ∙ sym (transfer_there a.self.now.bytes.now (meant_view a.self.now.view) a.edge c.requires) in
    (is, rw is ((view_in_range a.self.now.bytes.now a.self.now.view c.args.self.now.good).transfer_in a.edge))
