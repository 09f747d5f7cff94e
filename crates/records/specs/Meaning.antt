-- What the code's records mean: document 01's record, number and place for each case.
use Rattle.std.specs.Prelude.{ℕ, ◌≡◌, ◌+◌, ◌≤◌, List, length, Result, Ok, Err}
use Rattle.refusals.specs.declared.Refusal.{Refusal}
use Rattle.refusals.specs.Numbers.{number}
use Rattle.rules.specs.Fields as fields
use Rattle.rules.specs.Records as rules
use Rattle.records.specs.declared.Cursor.{Cursor}
use Rattle.records.specs.declared.Header.{Header}
use Rattle.records.specs.declared.Processor.{Processor}
use Rattle.records.specs.declared.Processor.TheVariants.{Price, Minimum}
use Rattle.records.specs.declared.Window.{Window}
use Rattle.records.specs.declared.Task.{Task}
use Rattle.records.specs.declared.Minutes.{Minutes}
use Rattle.records.specs.declared.Edge.{Edge}

-- A record with its fields.
abbrev pub meant_header : Header → rules.Record
meant_header h = rules.header h.tasks h.processors h.budget

abbrev pub meant_processor : Processor → rules.Record
meant_processor (Price processor price) = rules.price processor price
meant_processor (Minimum processor price minimum) = rules.minimum processor price minimum

abbrev pub meant_window : Window → rules.Record
meant_window w = rules.window w.processor w.begin w.end

abbrev pub meant_task : Task → rules.Record
meant_task t = rules.task t.task t.label

abbrev pub meant_minutes : Minutes → rules.Record
meant_minutes w = rules.minutes w.task w.processor w.minutes

abbrev pub meant_edge : Edge → rules.Record
meant_edge e = rules.edge e.from e.to e.transfer

abbrev pub meant_end : Unit {0} → rules.Record
meant_end _ = rules.end

-- What was read, by what its value means, with the place past it; or the refusal's number and its place.
abbrev pub meant : {T A : Type 0} → (T → A) → Result (T × Cursor) Refusal → rules.Read A
meant meaning (Ok (x, next)) = rules.read next.at (meaning x)
meant meaning (Err r) = rules.stopped (number r.fault) r.place

-- A check of the record at `at` is passed where the rules' check is 0, and else refuses the record with its number.
abbrev pub Checked : ℕ → ℕ → Result (Unit {0}) Refusal → Type 0
Checked check at (Ok _) = check ≡ 0
Checked check at (Err r) = (check ≡ number r.fault) × (at ≡ r.place)

-- The opening of a record of kind k at `at`: nothing is wrong with it, and the cursor is the one past the record; or the refusal.
abbrev pub Opened : List ℕ → ℕ → fields.Kind → Result Cursor Refusal → Type 0
Opened s at k (Ok past) =
    (rules.first_fault (rules.opening s at k) ≡ 0) × (past.at ≡ at + fields.size k) × (at + fields.size k ≤ length s)
Opened s at k (Err r) = (rules.first_fault (rules.opening s at k) ≡ number r.fault) × (at ≡ r.place)
