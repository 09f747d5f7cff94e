-- Two answers of a part with one meaning are one answer: a contract that settles the meaning settles the answer.
use Rattle.std.specs.Prelude.{ℕ, ◌≡◌, Result, Ok, Err}
use Rattle.std.proofs.Common.{ap}
use Rattle.refusals.specs.declared.Refusal.{Refusal}
use Rattle.records.specs.declared.Cursor.{Cursor}
use Rattle.records.specs.Meaning.{meant}
use Rattle.records.specs.Settled.{refusal_settled, answer_settled}
use Rattle.parts.specs.Meaning.{meant_part}

pub passed_settled : {A : Type 0} (a : A) (p q : Result Cursor Refusal) → meant_part p a ≡ meant_part q a → p ≡ q
passed_settled a (Ok next) (Ok after) same =
    let place : next.at ≡ after.at = cc in
    λ i. Ok (record { at = place i })
passed_settled a (Ok next) (Err r) same = cc
passed_settled a (Err r) (Ok next) same = cc
passed_settled a (Err r) (Err q) same = ap Err (refusal_settled r q same)

-- How many records of one kind were read, with the cursor past them, or the refusal.
pub run_settled : (a b : Result (ℕ × Cursor) Refusal) → meant (λ k. k) a ≡ meant (λ k. k) b → a ≡ b
run_settled a b same = answer_settled (λ k. k) (λ j k e. e) a b same
