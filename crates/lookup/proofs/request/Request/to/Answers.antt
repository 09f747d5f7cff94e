-- At the edge's place stands the number of the workflow.
use mathlib.Core.Path.{sym, ◌∙◌}
use Rattle.rules.specs.Fields.{E_to}
use Rattle.rules.specs.Workflow.{workflow}
use Rattle.good.specs.Inside.{to_there}
use Rattle.reader.specs.Meaning.{meant_view}
use Rattle.lookup.specs.Views.{view_in_range}
use Rattle.lookup.proofs.request.Request.to.Goals as goal

pub returns : goal.returns
unfolding workflow E_to
returns c =
    let a = c.args in
    let read = rw c.edge_place.ensures.0 at c.field.ensures.0 in
    let is = read ∙ sym (to_there a.self.now.bytes.now (meant_view a.self.now.view) a.edge c.requires) in
    (is, rw is ((view_in_range a.self.now.bytes.now a.self.now.view c.args.self.now.good).to_below a.edge c.requires))
