-- What the lent rows hold after the call.
use Rattle.std.specs.Prelude.{ℕ, ◌≡◌, List, map, length, replicate}
use Rattle.rules.specs.Rows as rules
use Rattle.rules.specs.Method.{Name}
use Rattle.rules.specs.Answer.{answer_asked, rows_asked}
use Rattle.laws.specs.Stores.{at}
use Rattle.budgets.specs.declared.Rows.{Rows}
use Rattle.planner.specs.Planned.{Answer, meant_answer}
use Rattle.rows.specs.declared.Row.{Row}
use Rattle.rows.specs.declared.WholePlan.{WholePlan}

-- What the code's row means: document 01's, field by field.
abbrev pub meant_row : Row → rules.Row
meant_row r = record { processor = r.processor; start = r.start; finish = r.finish; cost = r.cost }

-- Row i of the four arrays.
abbrev pub row_at : Rows → ℕ → Row
row_at r i = record { processor = at r.processors i; start = at r.starts i; finish = at r.finishes i; cost = at r.costs i }

-- The answer is the rules' by the method that is asked for, and so are all rows after the call, the untouched ones too.
pub record PlannedRows (M : Name) (s : List ℕ) (lent after : List Row) (r : Answer) : Type 0 where
  pub answer_is : meant_answer r ≡ answer_asked M s (length lent)
  pub rows_are : map meant_row after ≡ rows_asked M s (map meant_row lent)

-- The same of 64 rows that hold `blank` before the call.
abbrev pub PlannedWhole : Name → List ℕ → Row → WholePlan → Type 0
PlannedWhole M s blank r = PlannedRows M s (replicate 64 blank) r.rows r.answer
