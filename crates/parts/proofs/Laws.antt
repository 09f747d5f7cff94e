-- Reading parts one after the other, as the loops meet them.
use Rattle.std.specs.Prelude.{Result, Ok, Err}
use Rattle.std.specs.Result.{IsErrAnd}
use Rattle.refusals.specs.declared.Refusal.{Refusal}
use Rattle.refusals.specs.Numbers.{number}
use mathlib.Core.Path.{◌≡◌, refl, sym, ◌∙◌}
use Prim.Native.Nat.{ℕ, zero, suc, ◌+◌, ◌<◌, ◌≤◌}
use native.Mathlib.Omega.{arith}
use Rattle.rules.specs.Records.{Read, read, stopped}
use Rattle.rules.specs.Reading.{each, then}
use Rattle.good.specs.Reading.{each_more, each_stopped}
use Rattle.records.specs.declared.Cursor.{Cursor}
use Rattle.parts.specs.Meaning.{meant_part, past}

-- Of m parts the first k were read, up to `next`.
pub record Reached {A : Type 0} (part : ℕ → ℕ → Read A) (at m k next : ℕ) : Type 0 where
  pub so_far : each part at k ≡ read next tt
  pub within : k ≤ m

pub none_reached : {A : Type 0} {part : ℕ → ℕ → Read A} {at m : ℕ} → Reached part at m 0 at
unfolding each
none_reached = record { so_far = refl; within = omega arith }

module _ {A : Type 0} {part : ℕ → ℕ → Read A} {at m k next : ℕ} (reached : Reached part at m k next) where
  pub all_reached : m ≤ k → read next tt ≡ each part at m
  all_reached h =
      let same : k ≡ m = omega (arith, reached.within) in
      sym (rw same at reached.so_far)

  -- The part that is due was read, or refused.
  module _ (due : k < m) {here : Read A} (is : here ≡ part next k) where
    pub one_more_reached : {after : ℕ} {a : A} → here ≡ read after a → Reached part at m (k + 1) after
    one_more_reached e =
        let one_more : k + 1 ≡ suc k = omega arith in
        record { so_far = rw one_more (each_more part at k reached.so_far (sym is ∙ e)); within = omega arith }

    pub refused_there : {number place : ℕ} → here ≡ stopped number place → stopped number place ≡ each part at m
    refused_there e = sym (each_stopped part at k m reached.so_far (sym is ∙ e) due)

-- What was read up to a place, or refused, by what is known past it.
module _ {A : Type 0} where
  pub past_read : (x : Read A) {next : ℕ} → read next tt ≡ past x → (a : A) × (x ≡ read next a)
  unfolding then
  past_read (read place a) e = (a, cc)
  past_read (stopped number place) e = absurd cc

  pub past_stopped : (x : Read A) {number place : ℕ} → stopped number place ≡ past x → x ≡ stopped number place
  unfolding then
  past_stopped (read next a) e = absurd cc
  past_stopped (stopped number place) e = cc

-- What a refusal that is handed up means.
pub part_refused : {A : Type 0} (value : A) (res : Result Cursor Refusal) (r : Refusal) {a : Read A} →
    IsErrAnd res (λ y. y ≡ r) → stopped (number r.fault) r.place ≡ a → meant_part res value ≡ a
part_refused value (Ok next) r h e = absurd h
part_refused value (Err y) r h e = rw h e

-- Where a part ends is all that the next one needs of it.
pub each_past : {A : Type 0} (part : ℕ → ℕ → Read A) (at n : ℕ) → each (λ at k. past (part at k)) at n ≡ each part at n
unfolding each then
each_past part at zero = refl
each_past {A = A} part at (suc n) = rw (each_past part at n) (go (each part at n))
  where
    same : (x : Read A) → then (past x) (λ after _. read after (tt {0})) ≡ then x (λ after _. read after (tt {0}))
    same (read next a) = refl
    same (stopped k place) = refl

    go : (x : Read (Unit {0})) →
        then x (λ next _. then (past (part next n)) (λ after _. read after (tt {0}))) ≡ then x (λ next _. then (part next n) (λ after _. read after (tt {0})))
    go (read next u) = same (part next n)
    go (stopped k place) = refl
