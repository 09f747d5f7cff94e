-- `label::is_label` meets its contract: a label stands where its length is 1 or more.
use Rattle.label.specs.Laws.{told_by_length}
use Rattle.label.proofs.is_label.Goals as goal

pub returns : goal.returns
returns c = told_by_length c.label_len.ensures
