-- What holds of a part that is read, or of the refusal that ends it: through steps, through parts in a row, and through the checks of a record.
use Rattle.std.specs.Prelude.{ℕ, zero, suc, ◌<◌, ◌≡◌, Bool, List, [], ◌∷◌}
use Rattle.std.proofs.Common.{arith}
use Rattle.rules.specs.Records.{Record, Read, read, stopped, unless, first_fault, answered}
use Rattle.rules.specs.Reading.{then, each}
use Rattle.demands.specs.Demand1.Tells.{Tells, holds, fails}

-- P of the place past what was read, or Q of number and place.
pub data Goes {A : Type 0} (P : ℕ → A → Type 0) (Q : ℕ → ℕ → Type 0) : Read A → Type 0 where
  on : {next : ℕ} {a : A} → P next a → Goes P Q (read next a)
  ends : {number place : ℕ} → Q number place → Goes P Q (stopped number place)

pub goes_on : {A : Type 0} {P : ℕ → A → Type 0} {Q : ℕ → ℕ → Type 0} {x : Read A} {next : ℕ} {a : A} → Goes P Q x → x ≡ read next a → P next a
goes_on {P} {Q} {next} {a} g e = go (rw e at g)
  where
    go : Goes P Q (read next a) → P next a
    go (on p) = p

pub goes_ends :
    {A : Type 0} {P : ℕ → A → Type 0} {Q : ℕ → ℕ → Type 0} {x : Read A} {number place : ℕ} → Goes P Q x → x ≡ stopped number place
    → Q number place
goes_ends {P} {Q} {number} {place} g e = go (rw e at g)
  where
    go : Goes P Q (stopped number place) → Q number place
    go (ends q) = q

pub goes_further :
    {A : Type 0} {P P' : ℕ → A → Type 0} {Q : ℕ → ℕ → Type 0} {x : Read A} → Goes P Q x → ((next : ℕ) (a : A) → P next a → P' next a) → Goes P' Q x
goes_further (on {next = next} {a = a} p) further = on (further next a p)
goes_further (ends q) further = ends q

pub goes_then :
    {A B : Type 0} {P : ℕ → A → Type 0} {P' : ℕ → B → Type 0} {Q : ℕ → ℕ → Type 0} {x : Read A} {step : ℕ → A → Read B} → Goes P Q x
    → ((next : ℕ) (a : A) → P next a → Goes P' Q (step next a)) → Goes P' Q (then x step)
unfolding then
goes_then (on {next = next} {a = a} p) later = later next a p
goes_then (ends q) later = ends q

-- P j holds of the place at which the j-th part begins.
pub goes_each :
    {A : Type 0} {Q : ℕ → ℕ → Type 0} (P : ℕ → ℕ → Type 0) {part : ℕ → ℕ → Read A} {at : ℕ} (k : ℕ) → P 0 at
    → ((j place : ℕ) → j < k → P j place → Goes (λ next _. P (suc j) next) Q (part place j)) → Goes (λ next _. P k next) Q (each part at k)
unfolding each
goes_each P zero first step = on first
goes_each P (suc k) first step =
    goes_then (goes_each P k first (λ j place l. step j place (omega arith)))
    (λ place _ here. goes_then (step k place (omega arith) here) (λ next _ p. on p))

-- How a record goes that has these checks.
pub record Checked (P : ℕ → Record → Type 0) (Q : ℕ → ℕ → Type 0) (at next : ℕ) (r : Record) (checks : List ℕ) : Type 0 where
  pub goes : Goes P Q (answered (first_fault checks) at next r)

module _ {P : ℕ → Record → Type 0} {Q : ℕ → ℕ → Type 0} {at next : ℕ} {r : Record} where
  -- The first of the checks, then the others.
  pub goes_check :
      {C : Type 0} {t : Bool} {more : List ℕ} → Tells C t → (number : ℕ) → (C → Checked P Q at next r more) → ((C → ⊥) → Q (suc number) at)
      → Checked P Q at next r (unless t (suc number) ∷ more)
  unfolding unless first_fault answered
  goes_check (holds c) number passes refused = record { goes = (passes c).goes }
  goes_check (fails n) number passes refused = record { goes = ends (refused n) }

  pub goes_checked : P next r → Checked P Q at next r []
  unfolding first_fault answered
  goes_checked p = record { goes = on p }
