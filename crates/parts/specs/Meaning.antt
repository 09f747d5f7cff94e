-- What the code's answers mean: for each case the rules' own, with document 01's number and place for a refusal.
use Rattle.std.specs.Prelude.{ℕ, ◌≡◌, Result, Ok, Err}
use Rattle.refusals.specs.declared.Refusal.{Refusal}
use Rattle.refusals.specs.Numbers.{number}
use Rattle.rules.specs.Records.{Read, read, stopped}
use Rattle.rules.specs.Reading.{then}
use Rattle.records.specs.declared.Cursor.{Cursor}

-- A part of the request that has a value: the place past it and the value, or the refusal.
abbrev pub meant_part : {A : Type 0} → Result Cursor Refusal → A → Read A
meant_part (Ok next) a = read next.at a
meant_part (Err r) a = stopped (number r.fault) r.place

-- The place past what was read, or the refusal.
abbrev pub past : {A : Type 0} → Read A → Read (Unit {0})
past x = then x (λ next _. read next tt)

-- Calls read the part that is due where they begin: each answers, by where it began and how many parts came before it, as the rules do.
abbrev pub Reads : (Cursor → ℕ → Result Cursor Refusal → Type 0) → (ℕ → ℕ → Read (Unit {0})) → Type 0
Reads answers part = (c : Cursor) (k : ℕ) (r : Result Cursor Refusal) → answers c k r → meant_part r tt ≡ part c.at k
