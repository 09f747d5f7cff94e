-- The whole request, step by step: past a part that was read, what is left to read is the request's answer; a part's refusal is the request's.
use Rattle.std.specs.Prelude.{ℕ, ◌≡◌, refl, Bool, true, false, List, length, leb, Result, Ok, Err}
use Rattle.std.specs.Result.{IsErrAnd}
use Rattle.std.proofs.Common.{sym, arith, leb-true, leb-false}
use Rattle.std.proofs.lemmas.Bool.{le-ltb, lt-ltb}
use Rattle.refusals.specs.declared.Fault.{Fault}
use Rattle.refusals.specs.declared.Refusal.{Refusal}
use Rattle.refusals.specs.Numbers.{number}
use Rattle.rules.specs.Fields.{H_tasks, H_processors, H_budget}
use Rattle.rules.specs.Records.{Read, read, stopped, unless, header, header_at}
use Rattle.rules.specs.Reading.{Request, nothing_after, read_request}
use Rattle.good.specs.Records.{record_read}
use Rattle.good.specs.ReadIsGood.{read_to_the_end}
use Rattle.refusals.specs.Settled.{number_not_0}
use Rattle.reader.specs.declared.View.{View}
use Rattle.reader.specs.Meaning.{meant_reading}

-- What a refusal that is handed up means.
pub reading_refused : (s : List ℕ) (res : Result View Refusal) (r : Refusal) {a : Read Request} →
    IsErrAnd res (λ y. y ≡ r) → stopped (number r.fault) r.place ≡ a → meant_reading s res ≡ a
reading_refused s (Ok v) r h e = absurd h
reading_refused s (Err y) r h e = rw h e

-- A header that was read has the numbers of the rules.
pub header_numbers : (s : List ℕ) {next n m b : ℕ} → read next (header n m b) ≡ header_at s 0 →
    (H_tasks s 0 ≡ n) × (H_processors s 0 ≡ m) × (H_budget s 0 ≡ b)
unfolding header_at
header_numbers s e = let same = (record_read _ _ _ _ _ (sym e)).same in (cc, cc, cc)

-- Past the end there are bytes or none.
module _ (s : List ℕ) (end : ℕ) (r : Request) where
  pub bytes_after : (fault : Fault) {place : ℕ} →
      unless (leb (length s) end) 6 ≡ number fault → end ≡ place → stopped (number fault) place ≡ nothing_after s end r
  unfolding unless nothing_after
  bytes_after fault {place = place} e same = go (leb (length s) end) refl
    where
      go : (t : Bool) → leb (length s) end ≡ t → stopped (number fault) place ≡ nothing_after s end r
      go true is = absurd (number_not_0 fault (rw is at e))
      go false is = rw (lt-ltb end (length s) (leb-false _ _ is), ← (rw is at e), same) refl

  pub good_request : unless (leb (length s) end) 6 ≡ 0 → read_request s ≡ nothing_after s end r → read (length s) r ≡ read_request s
  unfolding unless nothing_after
  good_request e left = go (leb (length s) end) refl
    where
      go : (t : Bool) → leb (length s) end ≡ t → read (length s) r ≡ read_request s
      go true is =
          let all : read_request s ≡ read end r = rw (left, le-ltb end (length s) (leb-true _ _ is)) refl in
          rw (all, read_to_the_end s all) refl
      go false is = let six : ◌≡◌ {A = ℕ} 6 0 = rw is at e in absurd (omega arith)
