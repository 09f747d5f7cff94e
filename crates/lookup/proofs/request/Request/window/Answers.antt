-- The window's numbers are read where they stand.
use Rattle.rules.specs.Fields.{size, body, M_processor, M_begin, M_end}
use Rattle.rules.specs.Workflow.{window_place}
use Rattle.lookup.proofs.request.Request.window.Goals as goal

pub returns : goal.returns
unfolding window_place size body M_processor M_begin M_end
returns c = (c.field-processor.ensures.0, c.four_bytes-begin.ensures, c.four_bytes-end.ensures)
