-- At a place where this is due there is at most one fault, and none where a record passes: in the order of the checks it is the first that
-- fails, and of the records due only one is of the kind that stands there.
use Rattle.std.specs.Prelude.{ℕ, ◌+◌, ◌≤◌, ◌<◌, ◌≡◌, refl, List, [], ◌∷◌, ◌⊎◌}
use Rattle.std.proofs.Common.{sym, ◌∙◌, subst}
use Rattle.std.proofs.Math.Logic.{inl, inr}
use native.Mathlib.Omega.{arith}
use Rattle.std.proofs.Math.ListN.{length}
use Rattle.rules.specs.Fields.{kind_byte, size, byte}
use Rattle.demands.specs.Demand1.Wanted.{Single, deadline, share, ProcessorKind, as_P, as_Q, Wanted, header, single, processor, window, task, minutes}
use Rattle.demands.specs.Demand1.Wanted.{edge, end, kind_of, Room, NumbersDue, FieldsInRange, HasLabel, Whole, Passes}
use Rattle.demands.specs.Demand1.Reads.{DueHere, nothing, IsDue, that_one, that_single, or_later, either_kind, a_window, or_the_first_task, an_edge}
use Rattle.demands.specs.Demand1.Reads.{or_the_end}
use Rattle.demands.specs.Demand1.Reads.{Fault, no_kind_byte, cut_short, kind_not_due, not_the_one_due, out_of_range, no_room, bad_label, bytes_after}

-- The kinds of processor records are told apart by their bytes.
kinds_told : (k k' : ProcessorKind) (j : ℕ) → kind_byte (kind_of (processor k j)) ≡ kind_byte (kind_of (processor k' j)) → processor k j ≡ processor k' j
unfolding kind_byte
kinds_told as_P as_P j e = refl
kinds_told as_P as_Q j e = absurd (omega arith)
kinds_told as_Q as_P j e = absurd (omega arith)
kinds_told as_Q as_Q j e = refl

-- So is a `D` or a `K` from every other record.
pub single_told : (o : Single) (v : Wanted) → kind_byte (kind_of v) ≡ kind_byte (kind_of (single o)) → v ≡ single o
unfolding kind_byte
single_told deadline (single deadline) e = refl
single_told deadline header e = absurd (omega arith)
single_told deadline (single share) e = absurd (omega arith)
single_told deadline (processor as_P j) e = absurd (omega arith)
single_told deadline (processor as_Q j) e = absurd (omega arith)
single_told deadline (task i) e = absurd (omega arith)
single_told deadline (minutes i j) e = absurd (omega arith)
single_told deadline (window before) e = absurd (omega arith)
single_told deadline (edge before) e = absurd (omega arith)
single_told deadline end e = absurd (omega arith)
single_told share (single share) e = refl
single_told share header e = absurd (omega arith)
single_told share (single deadline) e = absurd (omega arith)
single_told share (processor as_P j) e = absurd (omega arith)
single_told share (processor as_Q j) e = absurd (omega arith)
single_told share (task i) e = absurd (omega arith)
single_told share (minutes i j) e = absurd (omega arith)
single_told share (window before) e = absurd (omega arith)
single_told share (edge before) e = absurd (omega arith)
single_told share end e = absurd (omega arith)

-- Of the records due no two are of one kind.
pub due_unique : {due : DueHere} {v w : Wanted} → IsDue due v → IsDue due w → kind_byte (kind_of v) ≡ kind_byte (kind_of w) → v ≡ w
unfolding kind_byte
due_unique that_one that_one e = refl
due_unique that_single that_single e = refl
due_unique (that_single {o = o}) (or_later d) e = sym (single_told o _ (sym e))
due_unique (or_later d) (that_single {o = o}) e = single_told o _ e
due_unique (or_later d) (or_later d') e = due_unique d d' e
due_unique (either_kind {k = k} {j = j}) (either_kind {k = k'}) e = kinds_told k k' j e
due_unique a_window a_window e = refl
due_unique a_window or_the_first_task e = absurd (omega arith)
due_unique or_the_first_task a_window e = absurd (omega arith)
due_unique or_the_first_task or_the_first_task e = refl
due_unique an_edge an_edge e = refl
due_unique an_edge or_the_end e = absurd (omega arith)
due_unique or_the_end an_edge e = absurd (omega arith)
due_unique or_the_end or_the_end e = refl

pub nothing_not_due : {due : DueHere} {w : Wanted} → IsDue due w → due ≡ nothing → ⊥
nothing_not_due that_one e = let z : ◌≡◌ {A = ℕ} 0 1 = cc in omega arith
nothing_not_due that_single e = let z : ◌≡◌ {A = ℕ} 0 1 = cc in omega arith
nothing_not_due (or_later d) e = let z : ◌≡◌ {A = ℕ} 0 1 = cc in omega arith
nothing_not_due either_kind e = let z : ◌≡◌ {A = ℕ} 0 1 = cc in omega arith
nothing_not_due a_window e = let z : ◌≡◌ {A = ℕ} 0 1 = cc in omega arith
nothing_not_due or_the_first_task e = let z : ◌≡◌ {A = ℕ} 0 1 = cc in omega arith
nothing_not_due an_edge e = let z : ◌≡◌ {A = ℕ} 0 1 = cc in omega arith
nothing_not_due or_the_end e = let z : ◌≡◌ {A = ℕ} 0 1 = cc in omega arith

-- A condition, and the number of the fault where it fails.
record Check : Type 1 where
  holds : Type 0
  number : ℕ

-- The first that fails has this number.
FirstFails : List Check → ℕ → Type 0
FirstFails [] number = ⊥
FirstFails (c ∷ more) number = ((c.holds → ⊥) × (number ≡ c.number)) ⊎ (c.holds × FirstFails more number)

AllHold : List Check → Type 0
AllHold [] = Unit {0}
AllHold (c ∷ more) = c.holds × AllHold more

first_settled : (checks : List Check) {number number' : ℕ} → FirstFails checks number → FirstFails checks number' → number ≡ number'
unfolding FirstFails
first_settled [] f f' = absurd f
first_settled (c ∷ more) (inl (fails, e)) (inl (fails', e')) = e ∙ sym e'
first_settled (c ∷ more) (inl (fails, e)) (inr (holds, rest)) = absurd (fails holds)
first_settled (c ∷ more) (inr (holds, rest)) (inl (fails, e)) = absurd (fails holds)
first_settled (c ∷ more) (inr (holds, rest)) (inr (holds', rest')) = first_settled more rest rest'

none_fails : (checks : List Check) (number : ℕ) → AllHold checks → FirstFails checks number → ⊥
unfolding AllHold FirstFails
none_fails [] number all f = f
none_fails (c ∷ more) number all (inl (fails, e)) = fails all.0
none_fails (c ∷ more) number all (inr (holds, rest)) = none_fails more number all.1 rest

module _ (s : List ℕ) (due : DueHere) (at : ℕ) where
  -- Of the record due whose kind stands there.
  abbrev OfThat : (Wanted → Type 0) → Type 0
  OfThat P = (w : Wanted) → IsDue due w → byte s at ≡ kind_byte (kind_of w) → P w

  own_checks : List Check
  own_checks =
      record { holds = OfThat Room; number = 4 }
      ∷ record { holds = OfThat (NumbersDue s at); number = 3 }
      ∷ record { holds = OfThat (FieldsInRange s at); number = 4 }
      ∷ record { holds = OfThat (HasLabel s at); number = 5 }
      ∷ []

  checks : List Check
  checks =
      record { holds = (w : Wanted) × IsDue due w; number = 6 }
      ∷ record { holds = at < length s; number = 1 }
      ∷ record { holds = (w : Wanted) × IsDue due w × (byte s at ≡ kind_byte (kind_of w)); number = 2 }
      ∷ record { holds = OfThat (λ w. at + size (kind_of w) ≤ length s); number = 1 }
      ∷ own_checks

  of_that : {w : Wanted} → IsDue due w → byte s at ≡ kind_byte (kind_of w) → (P : Wanted → Type 0) → P w → OfThat P
  of_that d k P p v d' k' = subst P (due_unique d d' (sym k ∙ k')) p

  there : {w : Wanted} → Whole s at w → at < length s
  unfolding size
  there whole = omega (arith, whole.to_its_end)

  -- Past the opening: so far all hold.
  past_opening : (number : ℕ) {w : Wanted} → IsDue due w → Whole s at w → FirstFails own_checks number → FirstFails checks number
  unfolding checks FirstFails
  past_opening number {w} d whole rest =
      let k = whole.of_kind in
      inr ((w, d), inr (there whole, inr ((w, d, k), inr (of_that d k (λ v. at + size (kind_of v) ≤ length s) whole.to_its_end, rest))))

  first_fails : {number : ℕ} → Fault s due at number → FirstFails checks number
  unfolding checks own_checks FirstFails
  first_fails (no_kind_byte {w} d e) = inr ((w, d), inl (λ h. omega arith, refl))
  first_fails (cut_short {w} d h k short) = inr ((w, d), inr (h, inr ((w, d, k), inl (λ whole. omega (arith, whole w d k), refl))))
  first_fails (kind_not_due {w} d h none) = inr ((w, d), inr (h, inl (λ found. none found.0 found.1 found.2, refl)))
  first_fails (not_the_one_due {w} d whole room fails) =
      let k = whole.of_kind in
      past_opening 3 d whole (inr (of_that d k Room room, inl (λ each. fails (each w d k), refl)))
  first_fails (out_of_range {w} d whole room numbers fails) =
      let k = whole.of_kind in
      past_opening 4 d whole (inr (of_that d k Room room, inr (of_that d k (NumbersDue s at) numbers, inl (λ each. fails (each w d k), refl))))
  first_fails (no_room {w} d whole fails) = past_opening 4 d whole (inl (λ each. fails (each w d whole.of_kind), refl))
  first_fails (bad_label {w} d whole room numbers ranges fails) =
      let k = whole.of_kind in
      past_opening 5 d whole
      (inr (
        of_that d k Room room,
        inr (of_that d k (NumbersDue s at) numbers, inr (of_that d k (FieldsInRange s at) ranges, inl (λ each. fails (each w d k), refl))),
      ))
  first_fails (bytes_after e h) = inl (λ found. nothing_not_due found.1 e, refl)

  all_hold : {w : Wanted} → IsDue due w → Passes s at w → AllHold checks
  unfolding checks own_checks AllHold
  all_hold {w} d p =
      let whole = p.whole in
      let k = whole.of_kind in
      let of : (P : Wanted → Type 0) → P w → OfThat P = of_that d k in
      let fields = of (FieldsInRange s at) p.in_range in
      let own : AllHold own_checks = (of Room p.room, (of (NumbersDue s at) p.numbers, (fields, (of (HasLabel s at) p.label, tt)))) in
      ((w, d), (there whole, ((w, d, k), (of (λ v. at + size (kind_of v) ≤ length s) whole.to_its_end, own))))

module _ {s : List ℕ} {due : DueHere} {at : ℕ} where
  -- Two faults at a place are the same.
  pub fault_settled : {number number' : ℕ} → Fault s due at number → Fault s due at number' → number ≡ number'
  fault_settled f f' = first_settled (checks s due at) (first_fails s due at f) (first_fails s due at f')

  -- No record that is due passes where there is a fault.
  pub none_passes : {number : ℕ} {w : Wanted} → Fault s due at number → IsDue due w → Passes s at w → ⊥
  none_passes {number} f d p = none_fails (checks s due at) number (all_hold s due at d p) (first_fails s due at f)

-- At the input's end nothing is due, and there is no fault.
pub no_fault_at_end : {s : List ℕ} {due : DueHere} {at number : ℕ} → Fault s due at number → due ≡ nothing → at ≡ length s → ⊥
no_fault_at_end (no_kind_byte d e) none ended = nothing_not_due d none
no_fault_at_end (cut_short d h k short) none ended = nothing_not_due d none
no_fault_at_end (kind_not_due d h other) none ended = nothing_not_due d none
no_fault_at_end (not_the_one_due d whole room fails) none ended = nothing_not_due d none
no_fault_at_end (out_of_range d whole room numbers fails) none ended = nothing_not_due d none
no_fault_at_end (no_room d whole fails) none ended = nothing_not_due d none
no_fault_at_end (bad_label d whole room numbers ranges fails) none ended = nothing_not_due d none
no_fault_at_end (bytes_after e h) none ended = omega arith
