-- Which kind of the rules' table each kind of the code is, and what a check answers.
use Rattle.std.specs.Prelude.{ℕ, ◌≡◌, Result, Ok, Err}
use Rattle.refusals.specs.declared.Fault.{Fault}
use Rattle.refusals.specs.Numbers.{number}
use Rattle.rules.specs.Fields as rules
use Rattle.fields.specs.declared.Kind.{Kind}
use Rattle.fields.specs.declared.Kind.TheVariants.{Header, Deadline, Share, Price, Minimum, Window, Task, Minutes, Edge, End}

abbrev pub meant_kind : Kind → rules.Kind
meant_kind Header = rules.H
meant_kind Deadline = rules.D
meant_kind Share = rules.K
meant_kind Price = rules.P
meant_kind Minimum = rules.Q
meant_kind Window = rules.M
meant_kind Task = rules.T
meant_kind Minutes = rules.W
meant_kind Edge = rules.E
meant_kind End = rules.Z

-- A check that is passed where the rules' check is 0, and else refuses with its number.
abbrev pub Told : ℕ → Result (Unit {0}) Fault → Type 0
Told check (Ok _) = check ≡ 0
Told check (Err fault) = check ≡ number fault
