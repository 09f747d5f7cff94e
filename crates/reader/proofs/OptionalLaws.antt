-- At most one record of a kind, a `D` or a `K`: by the value that is read where it stands.
use Rattle.std.specs.Prelude.{ℕ, ◌≡◌, refl, Bool, true, false, cond, List, Option, None, Some, Result, Ok, Err}
use Rattle.std.proofs.Common.{sym, ◌∙◌, ap}
use Rattle.refusals.specs.declared.Refusal.{Refusal}
use Rattle.rules.specs.Fields.{D_deadline, K_share}
use Rattle.rules.specs.Records.{Record, Read, read, stopped, deadline, share, deadline_at, share_at}
use Rattle.rules.specs.Reading.{then}
use Rattle.good.specs.Records.{record_read}
use Rattle.records.specs.declared.Cursor.{Cursor}
use Rattle.records.specs.Meaning.{meant}
use Rattle.reader.specs.Meaning.{one_or_none}

-- A record that is read as a deadline has the deadline of the rules, and one that is read as a share the share.
pub deadline_found : (s : List ℕ) (at : ℕ) {next d : ℕ} → read next (deadline d) ≡ deadline_at s at → d ≡ D_deadline s at
unfolding deadline_at
deadline_found s at e = let same = (record_read _ _ _ _ _ (sym e)).same in cc

pub share_found : (s : List ℕ) (budget at : ℕ) {next k : ℕ} → read next (share k) ≡ share_at s budget at → k ≡ K_share s at
unfolding share_at
share_found s budget at e = let same = (record_read _ _ _ _ _ (sym e)).same in cc

-- A value that was read, where each that is read as this record is d.
pub value_read : (value_of : ℕ → Record) (due : Read Record) (d : ℕ) (r : Result (ℕ × Cursor) Refusal) →
    ((next x : ℕ) → read next (value_of x) ≡ due → x ≡ d) → meant value_of r ≡ due → meant (λ x. x) r ≡ then due (λ next _. read next d)
unfolding then
value_read value_of due d (Ok (x, next)) only e = rw (← e, only next.at x e) refl
value_read value_of due d (Err r) only e = rw (← e) refl

-- What none and one mean.
pub meaning_of : {A : Type 0} (meaning : Option ℕ → A) (r : Result (Option ℕ × Cursor) Refusal) (stands : Bool) (due : Read Record) (at d : ℕ) →
    meant (λ x. x) r ≡ one_or_none stands (then due (λ next _. read next d)) at →
    meant meaning r ≡ cond stands (then due (λ next _. read next (meaning (Some d)))) (read at (meaning None))
unfolding then
meaning_of {A = A} meaning r stands due at d e = sym (by_cases r) ∙ ap (λ x. then x (λ next x. read next (meaning x))) e ∙ by_part stands due
  where
    by_cases : (r : Result (Option ℕ × Cursor) Refusal) → then (meant (λ x. x) r) (λ next x. read next (meaning x)) ≡ meant meaning r
    by_cases (Ok (x, next)) = refl
    by_cases (Err r) = refl

    by_part : (stands : Bool) (due : Read Record) →
        then (one_or_none stands (then due (λ next _. read next d)) at) (λ next x. read next (meaning x))
        ≡ cond stands (then due (λ next _. read next (meaning (Some d)))) (read at (meaning None))
    by_part true (read next x) = refl
    by_part true (stopped number place) = refl
    by_part false due = refl
