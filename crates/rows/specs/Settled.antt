-- Two answers that the contract of `plan` allows are one answer, and two exits of the lent rows are one list: the contract settles the answer, each row
-- that is written and each that is kept. So does that of `plan_whole`.
use Rattle.std.specs.Prelude.{ℕ, ◌≡◌, refl, List, [], ◌∷◌, map, replicate}
use Rattle.std.proofs.Common.{sym, ap, ◌∙◌}
use Rattle.rules.specs.Method.{Name}
use Rattle.rules.specs.Rows as rules
use Rattle.planner.specs.Planned.{Answer}
use Rattle.planner.specs.Settled.{answer_settled}
use Rattle.rows.specs.declared.Row.{Row}
use Rattle.rows.specs.declared.WholePlan.{WholePlan}
use Rattle.rows.specs.Planned.{meant_row, PlannedRows, PlannedWhole}

-- The row that means this.
abbrev row_for : rules.Row → Row
row_for r = record { processor = r.processor; start = r.start; finish = r.finish; cost = r.cost }

rows_again : (rows : List Row) → map row_for (map meant_row rows) ≡ rows
rows_again [] = refl
rows_again (row ∷ rows) = ap (λ rest. row ∷ rest) (rows_again rows)

rows_settled : (a b : List Row) → map meant_row a ≡ map meant_row b → a ≡ b
rows_settled a b same = sym (rows_again a) ∙ ap (map row_for) same ∙ rows_again b

pub planned_rows_settled :
    (M : Name) (s : List ℕ) (lent a b : List Row) (r t : Answer) → PlannedRows M s lent a r → PlannedRows M s lent b t → (a ≡ b) × (r ≡ t)
planned_rows_settled M s lent a b r t one other =
    (rows_settled a b (one.rows_are ∙ sym other.rows_are), answer_settled r t (one.answer_is ∙ sym other.answer_is))

pub planned_whole_settled : (M : Name) (s : List ℕ) (blank : Row) (a b : WholePlan) → PlannedWhole M s blank a → PlannedWhole M s blank b → a ≡ b
planned_whole_settled M s blank a b one other =
    let both = planned_rows_settled M s (replicate 64 blank) a.rows b.rows a.answer b.answer one other in
    λ t. record { answer = both.1 t; rows = both.0 t }
