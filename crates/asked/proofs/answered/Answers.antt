-- What the rows are then is not told.
use Rattle.rules.specs.Answer.{answer_asked}
use Rattle.asked.proofs.answered.Goals as goal

pub returns : goal.returns
unfolding answer_asked
returns c = c.plan_columns.ensures.answer_is
