-- The record lies inside the request, and there stands the number of the workflow.
use mathlib.Core.Path.{sym, ◌∙◌}
use Rattle.rules.specs.Fields.{size, body, W_minutes}
use Rattle.rules.specs.Workflow.{minutes_place, workflow}
use Rattle.good.specs.Inside.{minutes_there}
use Rattle.reader.specs.Meaning.{meant_view}
use Rattle.lookup.specs.Views.{view_in_range}
use Rattle.lookup.proofs.Places.{task_most}
use Rattle.lookup.proofs.request.Request.minutes.Goals as goal

pub returns : goal.returns
unfolding workflow minutes_place W_minutes size body
returns c =
    let a = c.args in
    let (task, processor) = c.requires in
    let read = rw c.task_place.ensures at c.two_bytes.ensures.0 in
    let is = read ∙ sym (minutes_there a.self.now.bytes.now (meant_view a.self.now.view) a.task a.processor task processor) in
    (is, rw is ((view_in_range a.self.now.bytes.now a.self.now.view c.args.self.now.good).minutes_most a.task a.processor))
