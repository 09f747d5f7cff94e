-- Laws of reading one record: what one that was read has passed.
use Rattle.std.specs.Prelude.{◌≡◌, refl, ℕ, zero, suc, ◌+◌, ◌≤◌, Bool, true, false, List, [], ◌∷◌, ◌++◌, length}
use Rattle.std.proofs.Common.{arith, leb-true, eqb-true}
use Rattle.rules.specs.Fields.{Kind, kind_byte, size, byte}
use Rattle.rules.specs.Records.{Record, read, stopped, unless, first_fault, opening_by, opening, answered, record_at}

-- What was read is no refusal.
pub stopped_not_read : {A : Type 0} {number place next : ℕ} {a : A} → stopped number place ≡ read next a → ⊥
stopped_not_read e = let z : ◌≡◌ {A = ℕ} 0 1 = cc in omega arith

-- The first of two faults.
first_of : ℕ → ℕ → ℕ
first_of zero later = later
first_of (suc number) later = suc number

fault_append : (checks more : List ℕ) → first_fault (checks ++ more) ≡ first_of (first_fault checks) (first_fault more)
unfolding first_fault first_of
fault_append [] more = refl
fault_append (zero ∷ checks) more = fault_append checks more
fault_append (suc number ∷ checks) more = refl

no_faults : (one other : ℕ) → first_of one other ≡ 0 → (one ≡ 0) × (other ≡ 0)
unfolding first_of
no_faults zero other e = (refl, e)
no_faults (suc number) other e = absurd (omega arith)

-- Checks that find nothing: the first test holds, and the others find nothing.
pub passed : (t : Bool) (number : ℕ) (checks : List ℕ) →
    first_fault (unless t (suc number) ∷ checks) ≡ 0 → (t ≡ true) × (first_fault checks ≡ 0)
unfolding first_fault unless
passed true number checks e = (refl, e)
passed false number checks e = absurd (omega arith)

answered_read : (fault at end : ℕ) (r : Record) {next : ℕ} {r' : Record} →
    answered fault at end r ≡ read next r' → (fault ≡ 0) × (next ≡ end) × (r' ≡ r)
unfolding answered
answered_read zero at end r {next} {r'} e = (refl, cc, cc)
answered_read (suc number) at end r e = absurd (stopped_not_read e)

-- The record at `at`, where what was read is `was` and reading goes on at `next`: it is whole, of its kind, and its checks find nothing.
pub record RecordRead (s : List ℕ) (at : ℕ) (k : Kind) (checks : List ℕ) (r : Record) (next : ℕ) (was : Record) : Type 0 where
  pub ends : next ≡ at + size k
  pub whole : at + size k ≤ length s
  pub of_kind : byte s at ≡ kind_byte k
  pub no_fault : first_fault checks ≡ 0
  pub same : was ≡ r

pub record_read : (s : List ℕ) (at : ℕ) (k : Kind) (checks : List ℕ) (r : Record) {next : ℕ} {was : Record} →
    record_at s at k checks r ≡ read next was → RecordRead s at k checks r next was
unfolding record_at opening opening_by
record_read s at k checks r e =
    let (none, ends, same) = answered_read _ at (at + size k) r e in
    let (opens, no_fault) = no_faults _ _ (rw (fault_append (opening s at k) checks) at none) in
    let (there, then) = passed _ 0 _ opens in
    let (kind, then) = passed _ 1 _ then in
    let (whole, then) = passed _ 0 _ then in
    record {
      ends = ends;
      whole = leb-true _ _ whole;
      of_kind = eqb-true _ _ kind;
      no_fault = no_fault;
      same = same;
    }
