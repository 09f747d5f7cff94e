-- What a check says is settled: two answers that one check of the rules allows are one.
use Rattle.std.specs.Prelude.{ℕ, ◌≡◌, refl, Result, Ok, Err}
use Rattle.std.proofs.Common.{sym, ap, ◌∙◌}
use Rattle.refusals.specs.declared.Fault.{Fault}
use Rattle.refusals.specs.Settled.{number_settled, number_not_0}
use Rattle.fields.specs.Meaning.{Told}

pub told_settled : (check : ℕ) (a b : Result (Unit {0}) Fault) → Told check a → Told check b → a ≡ b
told_settled check (Ok _) (Ok _) one other = refl
told_settled check (Ok _) (Err fault) one other = absurd (number_not_0 fault (sym one ∙ other))
told_settled check (Err fault) (Ok _) one other = absurd (number_not_0 fault (sym other ∙ one))
told_settled check (Err fault) (Err found) one other = ap Err (number_settled fault found (sym one ∙ other))
