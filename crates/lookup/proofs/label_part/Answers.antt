-- Nothing for a refused request and for a task not below n.
use Rattle.std.proofs.Common.{◌≡◌, sym}
use Rattle.good.specs.Labels.{no_label_refused, no_label_beyond}
use Rattle.lookup.specs.Flow.{ReadAs}
use Rattle.lookup.proofs.label_part.Goals as goal

pub returns-in_default : goal.returns-in_default
returns-in_default c =
    let same : c.in-Ok.r.bytes.now ≡ c.args.s.now = c.in-Ok.ensures in
    sym (no_label_beyond c.args.s.now c.args.task (rw same at c.in-Ok.r.good) c.if-task-r.false)

pub returns-in_default-2 : goal.returns-in_default-2
returns-in_default-2 c = sym (no_label_refused c.args.s.now c.args.task (rw c.in_default.is at c.read.ensures))
