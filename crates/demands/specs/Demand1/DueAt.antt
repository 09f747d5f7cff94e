-- A record that is due at a place: where it is not whole, or of another kind, that is a fault; else its own checks decide.
use Rattle.std.specs.Prelude.{ℕ, ◌+◌, ◌≤◌, ◌≡◌, refl, List, length}
use Rattle.std.proofs.Math.Path.{ap}
use Rattle.std.proofs.Common.{◌∙◌, arith}
use Rattle.rules.specs.Fields.{kind_byte, size, byte}
use Rattle.rules.specs.Records.{Record, opening_by, opening, record_at}
use Rattle.demands.specs.Demand1.Wanted.{Wanted, kind_of, Whole, Passes}
use Rattle.demands.specs.Demand1.Reads.{DueHere, only, IsDue, that_one, Fault, no_kind_byte, cut_short, kind_not_due}
use Rattle.demands.specs.Demand1.Tells.{leb_tells, ltb_tells, eqb_tells}
use Rattle.demands.specs.Demand1.Goes.{Goes, Checked, goes_check}

-- At `at`, not past the input's end, w is due, and no other record of the kind that stands there.
pub record DueAt (s : List ℕ) (due : DueHere) (at : ℕ) (w : Wanted) : Type 0 where
  pub inside : at ≤ length s
  pub is_due : IsDue due w
  pub no_other : (v : Wanted) → IsDue due v → byte s at ≡ kind_byte (kind_of v) → v ≡ w

pub only_due : {s : List ℕ} {at : ℕ} (w : Wanted) → at ≤ length s → DueAt s (only w) at w
only_due w inside = record { inside = inside; is_due = that_one; no_other = λ v d k. one d }
  where
    one : {v : Wanted} → IsDue (only w) v → v ≡ w
    one that_one = refl

-- The record at `at` passes, and `next` is the place past it.
pub record Past (s : List ℕ) (at : ℕ) (w : Wanted) (next : ℕ) (r : Record) : Type 0 where
  pub ends : next ≡ at + size (kind_of w)
  pub passes : Passes s at w

-- There is a fault at `at`.
pub record Faulty (s : List ℕ) (due : DueHere) (at number place : ℕ) : Type 0 where
  pub there : place ≡ at
  pub fault : Fault s due at number

module _ (s : List ℕ) {due : DueHere} (at : ℕ) (w : Wanted) (a : DueAt s due at w) where
  pub stop : {number : ℕ} → Fault s due at number → Faulty s due at number at
  stop fault = record { there = refl; fault = fault }

  -- Kind and whole body; then what the kind checks of its own.
  abbrev pub Own : List ℕ → Record → Type 0
  Own checks r = Checked (Past s at w) (Faulty s due at) at (at + size (kind_of w)) r checks

  pub opened_goes :
      (checks : List ℕ) (r : Record) → (Whole s at w → Own checks r)
      → Goes (Past s at w) (Faulty s due at) (record_at s at (kind_of w) checks r)
  unfolding record_at opening opening_by
  opened_goes checks r own =
      (goes_check (ltb_tells at (length s)) 0
      (λ there.
      goes_check (eqb_tells (byte s at) (kind_byte (kind_of w))) 1
      (λ kind.
      goes_check (leb_tells (at + size (kind_of w)) (length s)) 0 (λ whole. own (record { of_kind = kind; to_its_end = whole }))
      (λ short. stop (cut_short a.is_due there kind (omega arith))))
      (λ other. stop (kind_not_due a.is_due there (λ v d k. other (k ∙ ap (λ x. kind_byte (kind_of x)) (a.no_other v d k))))))
      (λ missing. stop (no_kind_byte a.is_due (omega (arith, a.inside))))
      ).goes
