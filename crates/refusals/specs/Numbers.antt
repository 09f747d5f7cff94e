-- The number of each fault, as the page answers it, and what `{}` writes of a refusal.
use Rattle.std.specs.Prelude.{ℕ, List, ◌++◌, ◌∷◌, codes}
use Rattle.std.specs.Fmt.{decimal}
use Rattle.refusals.specs.declared.Fault.{Fault}
use Rattle.refusals.specs.declared.Refusal.{Refusal}
use Rattle.refusals.specs.declared.Fault.TheVariants.{CutShort, OtherKind, OutOfOrder, OutOfRange, BadLabel, BytesAfter, FewRows, Cycle, LowBudget, Late}

abbrev pub number : Fault → ℕ
number CutShort = 1
number OtherKind = 2
number OutOfOrder = 3
number OutOfRange = 4
number BadLabel = 5
number BytesAfter = 6
number FewRows = 7
number Cycle = 8
number LowBudget = 9
number Late = 11

abbrev pub refusal_text : Refusal → List ℕ
refusal_text r = codes "no " ++ (decimal (number r.fault) ++ (32 ∷ decimal r.place))
