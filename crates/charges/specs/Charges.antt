-- What the record of one processor says that it charges, and what all of a workflow's do.
use Rattle.std.specs.Prelude.{ℕ, ◌+◌, ◌≡◌, List}
use Rattle.rules.specs.Fields.{size, P_price}
use Rattle.rules.specs.Workflow.{Workflow, processor_kind, processor_minimum}
use Rattle.laws.specs.Filled.{Filled}

-- The price and the minimum of the processor record at `at`, and the place past it.
pub record ChargeAt (s : List ℕ) (at price minimum next : ℕ) : Type 0 where
  pub price_is : price ≡ P_price s at
  pub minimum_is : minimum ≡ processor_minimum s at
  pub next_is : next ≡ at + size (processor_kind s at)

-- The prices and the minimums of the workflow's processors.
pub record ChargesOf (W : Workflow) (prices minimums : List ℕ) : Type 0 where
  pub prices_are : Filled W.processors W.price prices
  pub minimums_are : Filled W.processors W.minimum minimums
