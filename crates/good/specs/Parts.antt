-- The parts of a request that were read, each record at its place: processors, tasks with their minutes, the deadline and the share.
use Rattle.std.specs.Prelude.{◌≡◌, refl, ℕ, ◌+◌, ◌*◌, ◌<◌, ◌≤◌, Bool, true, false, cond, List, eqb}
use Rattle.std.proofs.Common.{subst₂, arith, eqb-true}
use Rattle.std.proofs.lemmas.Bool.{eqb-false}
use Rattle.label.specs.Label.{Label}
use Rattle.label.specs.Length.{label_length}
use Rattle.rules.specs.Fields.{Kind, D, K, T, W, size, kind_byte, byte, D_deadline, K_share, T_label, W_minutes}
use Rattle.rules.specs.Records.{Record, Read, read, minutes_at}
use Rattle.rules.specs.Reading.{then, Deadline, by, Share, thousandths, optional, deadline_part, share_part, prices_part, task_part, tasks_part}
use Rattle.rules.specs.Workflow.{past_processors}
use Rattle.good.specs.Good.{Between}
use Rattle.good.specs.Reading.{then_read, Steps, by_stride, each_ends, each_part}
use Rattle.good.specs.Kinds.{deadline_read, share_read, ProcessorRead, processor_read, task_read, minutes_read}
use Rattle.good.specs.Processors.{processors_walk}

pub minutes_steps : (s : List ℕ) (i : ℕ) → Steps (λ at j. minutes_at s at i j) (size W)
minutes_steps s i at j next a e = (minutes_read s at i j e).0

-- A task's records, `T` and then its `W`s, begin at `at`.
pub record TaskRead (s : List ℕ) (m at next : ℕ) : Type 0 where
  pub ends : next ≡ at + (size T + m * size W)
  pub labelled : Label s (T_label at) (label_length s (T_label at))
  pub minutes_in : (j : ℕ) → j < m → W_minutes s (at + (size T + j * size W)) ≤ 2_000

task_part_read : (s : List ℕ) (m at i : ℕ) {next : ℕ} → task_part s m at i ≡ read next tt → TaskRead s m at next
unfolding task_part
task_part_read s m at i {next} e =
    let (place, was, first, rest) = then_read _ _ e in
    let (ends, labelled) = task_read s at i first in
    let walk = by_stride (size W) (minutes_steps s i) place in
    record {
      ends = omega (arith, each_ends walk m rest);
      labelled = labelled;
      minutes_in =
          λ j h.
          let (after, was, here) = each_part walk m rest j h in
          let there : at + (size T + j * size W) ≡ place + j * size W = omega arith in
          rw there (minutes_read s _ i j here).1;
    }

pub task_steps : (s : List ℕ) (m : ℕ) → Steps (task_part s m) (size T + m * size W)
task_steps s m at i next a e = (task_part_read s m at i e).ends

-- "at most one" of a kind was read: the one that stands there, with what it gives, or none.
pub optional_cases : {A : Type 0} {next : ℕ} {a : A} (s : List ℕ) (kind : Kind) (part : Read Record) (at : ℕ) (given without : A) (P : ℕ → A → Type 0) →
    ((next : ℕ) (was : Record) → byte s at ≡ kind_byte kind → part ≡ read next was → P next given) →
    ((byte s at ≡ kind_byte kind → ⊥) → P at without) → optional s kind part at given without ≡ read next a → P next a
unfolding optional
optional_cases {A} {next} {a} s kind part at given without P one none e = go (eqb (byte s at) (kind_byte kind)) refl e
  where
    go : (t : Bool) → eqb (byte s at) (kind_byte kind) ≡ t →
        cond t (then part (λ next _. read next given)) (read at without) ≡ read next a → P next a
    go true is p =
        let (place, was, here, done) = then_read _ _ p in
        let there : place ≡ next = cc in
        let same : given ≡ a = cc in
        subst₂ P there same (one place was (eqb-true _ _ is) here)
    go false is p =
        let there : at ≡ next = cc in
        let same : without ≡ a = cc in
        subst₂ P there same (none (eqb-false _ _ is))

-- What comes after it begins at `next`, and this holds of what was read.
pub record OptionalRead (kind : Kind) (at next : ℕ) (Holds : Type 0) : Type 0 where
  pub begins : at ≤ next
  pub ends : next ≤ at + size kind
  pub holds : Holds

optional_read : {A : Type 0} {next : ℕ} {a : A} (s : List ℕ) (kind : Kind) (part : Read Record) (at : ℕ) (given without : A) (Holds : A → Type 0) →
    ((next : ℕ) (was : Record) → part ≡ read next was → (next ≡ at + size kind) × Holds given) → Holds without →
    optional s kind part at given without ≡ read next a → OptionalRead kind at next (Holds a)
optional_read s kind part at given without Holds one none =
    optional_cases s kind part at given without (λ next a. OptionalRead kind at next (Holds a))
    (λ next was there e. let (ends, holds) = one next was e in record { begins = omega arith; ends = omega arith; holds = holds })
    (λ other. record { begins = omega arith; ends = omega arith; holds = none })

pub deadline_part_read : (s : List ℕ) (at : ℕ) {next : ℕ} {d : Deadline} → deadline_part s at ≡ read next d →
    OptionalRead D at next ((x : ℕ) → d ≡ by x → Between 1 x 200_000)
unfolding deadline_part
deadline_part_read s at =
    optional_read s D _ at _ _ (λ d. (x : ℕ) → d ≡ by x → Between 1 x 200_000)
    (λ next was e. let (ends, deadline_in) = deadline_read s at e in (ends, λ x is. let given : D_deadline s at ≡ x = cc in rw given at deadline_in))
    (λ x is. let z : ◌≡◌ {A = ℕ} 0 1 = cc in absurd (omega arith))

pub share_part_read : (s : List ℕ) (budget at : ℕ) {next : ℕ} {k : Share} → share_part s budget at ≡ read next k →
    OptionalRead K at next ((x : ℕ) → k ≡ thousandths x → (x ≤ 1_000) × (budget ≡ 0))
unfolding share_part
share_part_read s budget at =
    optional_read s K _ at _ _ (λ k. (x : ℕ) → k ≡ thousandths x → (x ≤ 1_000) × (budget ≡ 0))
    (λ next was e. let (ends, share_in, beside) = share_read s budget at e in (ends, λ x is. let given : K_share s at ≡ x = cc in (rw given at share_in, beside)))
    (λ x is. let z : ◌≡◌ {A = ℕ} 0 1 = cc in absurd (omega arith))

pub prices_read : (s : List ℕ) (m at : ℕ) {next : ℕ} → prices_part s m at ≡ read next tt →
    (next ≡ past_processors s at m) × ((j : ℕ) → j < m → (after : ℕ) × ProcessorRead s (past_processors s at j) after)
unfolding prices_part
prices_read s m at e =
    let walk = processors_walk s at in (
      each_ends walk m e,
      λ j h. let (after, was, here) = each_part walk m e j h in (after, processor_read s _ j here),
    )

pub tasks_read : (s : List ℕ) (n m at : ℕ) {next : ℕ} → tasks_part s n m at ≡ read next tt →
    (next ≡ at + n * (size T + m * size W))
    × ((i : ℕ) → i < n → (after : ℕ) × TaskRead s m (at + i * (size T + m * size W)) after)
unfolding tasks_part
tasks_read s n m at e =
    let walk = by_stride (size T + m * size W) (task_steps s m) at in (
      each_ends walk n e,
      λ i h. let (after, was, here) = each_part walk n e i h in (after, task_part_read s m _ i here),
    )
