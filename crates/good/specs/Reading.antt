-- Laws of reading records one after another: a step that was read, and the parts of `each`, forward and taken apart.
use Rattle.std.specs.Prelude.{◌≡◌, refl}
use Prim.Native.Nat.{ℕ, zero, suc, ◌+◌, ◌*◌, ◌<◌}
use Rattle.std.proofs.Common.{eq-or-lt_of_le, le_of_suc-le-suc, zero-mul, suc-mul, arith}
use Rattle.std.proofs.Math.Logic.{⊎_elim}
use Rattle.rules.specs.Records.{Read, read, stopped}
use Rattle.rules.specs.Reading.{then, each}
use Rattle.good.specs.Records.{stopped_not_read}

-- A step and what comes after it were read: each of the two was.
pub then_read : {A B : Type 0} (x : Read A) (step : ℕ → A → Read B) {next : ℕ} {b : B} →
    then x step ≡ read next b → (place : ℕ) × (a : A) × (x ≡ read place a) × (step place a ≡ read next b)
unfolding then
then_read (read place a) step e = (place, a, refl, e)
then_read (stopped number place) step e = absurd (stopped_not_read e)

module _ {A : Type 0} (part : ℕ → ℕ → Read A) where
  -- One part more.
  pub each_more : (at k : ℕ) {next after : ℕ} {a : A} →
      each part at k ≡ read next tt → part next k ≡ read after a → each part at (suc k) ≡ read after tt
  unfolding each then
  each_more at k before here = rw (before, here)

  -- A refusal ends all.
  pub each_stopped : (at k m : ℕ) {next number place : ℕ} →
      each part at k ≡ read next tt → part next k ≡ stopped number place → k < m → each part at m ≡ stopped number place
  unfolding each then
  each_stopped at k zero before here h = absurd (omega arith)
  each_stopped at k (suc m) before here h =
      ⊎_elim (λ same. rw (← same, before, here)) (λ less. rw (each_stopped at k m before here less)) (eq-or-lt_of_le (le_of_suc-le-suc h))

-- Each part that is read takes d bytes.
abbrev pub Steps : {A : Type 0} → (ℕ → ℕ → Read A) → ℕ → Type 0
Steps {A} part d = (at j next : ℕ) (a : A) → part at j ≡ read next a → next ≡ at + d

-- Where each part begins: the first at `at`, and each other where the one before it ends.
pub record Walks {A : Type 0} (part : ℕ → ℕ → Read A) (at : ℕ) (place : ℕ → ℕ) : Type 0 where
  pub begins : place 0 ≡ at
  pub goes_on : (j next : ℕ) (a : A) → part (place j) j ≡ read next a → next ≡ place (suc j)

pub by_stride : {A : Type 0} {part : ℕ → ℕ → Read A} (d : ℕ) → Steps part d → (at : ℕ) → Walks part at (λ j. at + j * d)
by_stride d step at =
    record {
      begins = omega (arith, zero-mul d);
      goes_on = λ j next a e. omega (arith, suc-mul j d, step (at + j * d) j next a e);
    }

module _ {A : Type 0} {part : ℕ → ℕ → Read A} {at : ℕ} {place : ℕ → ℕ} (walk : Walks part at place) where
  -- The last of the parts that were read, and where it begins.
  last : (k : ℕ) {next : ℕ} → each part at (suc k) ≡ read next tt →
      (begin : ℕ) × (a : A) × (each part at k ≡ read begin tt) × (part begin k ≡ read next a)
  unfolding each
  last k {next} e =
      let (begin, u, before, rest) = then_read (each part at k) (λ begin _. then (part begin k) (λ after _. read after tt)) e in
      let (after, a, here, done) = then_read (part begin k) (λ after _. read after tt) rest in
      let same : after ≡ next = cc in
      (begin, a, before, rw same at here)

  -- k parts that were read end where one more would begin.
  pub each_ends : (k : ℕ) {next : ℕ} → each part at k ≡ read next tt → next ≡ place k
  unfolding each
  each_ends zero {next} e =
      let same : at ≡ next = cc in
      omega (arith, walk.begins)
  each_ends (suc k) {next} e =
      let (begin, a, before, here) = last k e in
      walk.goes_on k next a (rw (each_ends k before) at here)

  -- Each of the parts that were read was read at its place.
  pub each_part : (k : ℕ) {next : ℕ} → each part at k ≡ read next tt →
      (j : ℕ) → j < k → (after : ℕ) × (a : A) × (part (place j) j ≡ read after a)
  each_part zero e j h = absurd (omega arith)
  each_part (suc k) {next} e j h =
      let (begin, a, before, here) = last k e in
      ⊎_elim
      (λ same. (next, a, rw same (rw (each_ends k before) at here)))
      (λ less. each_part k before j less)
      (eq-or-lt_of_le (le_of_suc-le-suc h))
