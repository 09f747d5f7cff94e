-- Four arrays of 0.
use Rattle.placing.specs.Arrays.{columns_first}
use Rattle.budgets.proofs.Rows.none.Goals as goal

pub returns : goal.returns
returns c = columns_first
