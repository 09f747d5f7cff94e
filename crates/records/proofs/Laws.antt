-- How a reader answers: by its first check that fails, else by the record with the cursor past it.
use Rattle.std.specs.Prelude.{ℕ, zero, suc, ◌≡◌, refl, ◌+◌, List, [], ◌∷◌, ◌++◌, Result, Ok, Err}
use Rattle.std.specs.Result.{IsErrAnd}
use Rattle.std.proofs.Common.{◌∙◌, sym, ap, arith}
use Rattle.refusals.specs.declared.Refusal.{Refusal}
use Rattle.refusals.specs.declared.Fault.{Fault}
use Rattle.refusals.specs.declared.Fault.TheVariants.{CutShort, OtherKind, OutOfOrder, OutOfRange, BadLabel, BytesAfter, FewRows, Cycle, LowBudget, Late}
use Rattle.refusals.specs.Numbers.{number}
use Rattle.refusals.specs.Settled.{number_not_0}
use Rattle.rules.specs.Fields.{Kind, size}
use Rattle.rules.specs.Records.{Record, Read, read, stopped, first_fault, opening, answered, record_at}
use Rattle.records.specs.declared.Cursor.{Cursor}
use Rattle.records.specs.Meaning.{meant, Checked}

-- What a refusal that is handed up means.
pub handed_up : {T A : Type 0} (f : T → A) (res : Result (T × Cursor) Refusal) (r : Refusal) {a : Read A} →
    IsErrAnd res (λ y. y ≡ r) → stopped (number r.fault) r.place ≡ a → meant f res ≡ a
handed_up f (Ok x) r h e = absurd h
handed_up f (Err y) r h e = rw h e

-- The first fault of the opening, or else of the checks after it.
faults_after : (checks more : List ℕ) → first_fault checks ≡ 0 → first_fault (checks ++ more) ≡ first_fault more
unfolding first_fault
faults_after [] more e = refl
faults_after (zero ∷ checks) more e = faults_after checks more e
faults_after (suc number ∷ checks) more e = absurd (omega arith)

fault_kept : (checks more : List ℕ) (fault : Fault) → first_fault checks ≡ number fault → first_fault (checks ++ more) ≡ number fault
unfolding first_fault
fault_kept [] more fault e = absurd (number_not_0 fault e)
fault_kept (zero ∷ checks) more fault e = fault_kept checks more fault e
fault_kept (suc number ∷ checks) more fault e = e

only_check : {number : ℕ} (check : ℕ) → check ≡ number → first_fault (check ∷ []) ≡ number
unfolding first_fault
only_check zero e = e
only_check (suc check) e = e

answered_fault : (fault : Fault) {first : ℕ} (at next : ℕ) {place : ℕ} (r : Record) →
    first ≡ number fault → at ≡ place → stopped (number fault) place ≡ answered first at next r
unfolding answered
answered_fault CutShort at next r e same = rw (e, same)
answered_fault OtherKind at next r e same = rw (e, same)
answered_fault OutOfOrder at next r e same = rw (e, same)
answered_fault OutOfRange at next r e same = rw (e, same)
answered_fault BadLabel at next r e same = rw (e, same)
answered_fault BytesAfter at next r e same = rw (e, same)
answered_fault FewRows at next r e same = rw (e, same)
answered_fault Cycle at next r e same = rw (e, same)
answered_fault LowBudget at next r e same = rw (e, same)
answered_fault Late at next r e same = rw (e, same)

module _ (s : List ℕ) (at : ℕ) (k : Kind) (checks : List ℕ) (r : Record) where
  -- The record is not whole, or of another kind.
  pub refused_at_opening : (fault : Fault) {place : ℕ} →
      first_fault (opening s at k) ≡ number fault → at ≡ place → stopped (number fault) place ≡ record_at s at k checks r
  unfolding record_at
  refused_at_opening fault e same = answered_fault fault at _ r (fault_kept (opening s at k) checks fault e) same

  -- The record is whole and of this kind: its own checks answer.
  pub past_opening : {a : Read Record} →
      first_fault (opening s at k) ≡ 0 → a ≡ answered (first_fault checks) at (at + size k) r → a ≡ record_at s at k checks r
  unfolding record_at
  past_opening e answer = answer ∙ ap (λ first. answered first at (at + size k) r) (sym (faults_after (opening s at k) checks e))

module _ (check at next : ℕ) (more : List ℕ) (r : Record) where
  -- A check fails: the record is refused.
  pub refused_at_check : (fault : Fault) {place : ℕ} →
      check ≡ number fault → at ≡ place → stopped (number fault) place ≡ answered (first_fault (check ∷ more)) at next r
  refused_at_check fault e same = answered_fault fault at next r (fault_kept (check ∷ []) more fault (only_check check e)) same

  -- It is passed: those after it answer.
  pub past_check : {a : Read Record} → check ≡ 0 → a ≡ answered (first_fault more) at next r → a ≡ answered (first_fault (check ∷ more)) at next r
  unfolding first_fault
  past_check e answer = rw e answer

-- All are passed.
pub past_all : (at : ℕ) {next next' : ℕ} {r r' : Record} → next ≡ next' → r ≡ r' → read next r ≡ answered (first_fault []) at next' r'
unfolding answered first_fault
past_all at same r_same = rw (same, r_same)

module _ (one other at next : ℕ) (more : List ℕ) (r : Record) where
  -- Two checks that were made together.
  pub refused_at_two : (fault : Fault) {place : ℕ} →
      first_fault (one ∷ other ∷ []) ≡ number fault → at ≡ place → stopped (number fault) place ≡ answered (first_fault (one ∷ other ∷ more)) at next r
  refused_at_two fault e same = answered_fault fault at next r (fault_kept (one ∷ other ∷ []) more fault e) same

  pub past_two : {a : Read Record} →
      first_fault (one ∷ other ∷ []) ≡ 0 → a ≡ answered (first_fault more) at next r → a ≡ answered (first_fault (one ∷ other ∷ more)) at next r
  past_two e answer = rw (faults_after (one ∷ other ∷ []) more e) answer

-- The checks that are left were made together.
module _ (checks : List ℕ) (at next : ℕ) (r : Record) where
  pub refused_at_rest : (fault : Fault) {place : ℕ} →
      first_fault checks ≡ number fault → at ≡ place → stopped (number fault) place ≡ answered (first_fault checks) at next r
  refused_at_rest fault e same = answered_fault fault at next r e same

  pub past_rest : {next' : ℕ} {r' : Record} → first_fault checks ≡ 0 → next' ≡ next → r' ≡ r → read next' r' ≡ answered (first_fault checks) at next r
  unfolding answered
  past_rest none same r_same = rw (none, same, r_same)

-- Checks that are made one after the other: the first that fails is handed up, or else the last answers.
module _ (check at : ℕ) (more : List ℕ) where
  pub checked_first : (res : Result (Unit {0}) Refusal) (r : Refusal) →
      IsErrAnd res (λ y. y ≡ r) → check ≡ number r.fault → at ≡ r.place → Checked (first_fault (check ∷ more)) at res
  checked_first (Ok x) r h e same = absurd h
  checked_first (Err y) r h e same = rw h (fault_kept (check ∷ []) more r.fault (only_check check e), same)

  pub checked_later : (res : Result (Unit {0}) Refusal) → check ≡ 0 → Checked (first_fault more) at res → Checked (first_fault (check ∷ more)) at res
  checked_later res none answer = rw (faults_after (check ∷ []) more (only_check check none)) answer

pub checked_last : (check at : ℕ) (res : Result (Unit {0}) Refusal) → Checked check at res → Checked (first_fault (check ∷ [])) at res
unfolding first_fault
checked_last zero at res answer = answer
checked_last (suc number) at res answer = answer

pub ruleset reading = (
  handed_up,
  refused_at_opening,
  past_opening,
  refused_at_check,
  past_check,
  refused_at_two,
  past_two,
  refused_at_rest,
  past_rest,
  past_all,
  checked_first,
  checked_later,
  checked_last,
)
