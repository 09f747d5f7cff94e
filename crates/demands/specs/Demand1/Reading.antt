-- Demand 1, reading: each input is read to its end or stops at its first fault, as document 01 has it (`Reads`); the rules compute just that.
use Rattle.std.specs.Prelude.{ℕ, ◌≡◌, refl, List, ◌⊎◌, ◌↔◌, length}
use Rattle.std.proofs.Common.{sym, subst, inl, inr, arith}
use Rattle.rules.specs.Records.{Read, read, stopped}
use Rattle.rules.specs.Reading.{Request, read_request}
use Rattle.good.specs.Good.{Between}
use Rattle.demands.specs.Demand1.Reads.{DueHere, nothing, Comes, Fault, no_kind_byte, cut_short, kind_not_due, not_the_one_due, out_of_range, no_room}
use Rattle.demands.specs.Demand1.Reads.{bad_label, bytes_after, Stops}
use Rattle.demands.specs.Demand1.FaultSettled.{nothing_not_due, fault_settled, none_passes, no_fault_at_end}
use Rattle.demands.specs.Demand1.ReadsSettled.{last_settled}
use Rattle.demands.specs.Demand1.RecordsPass.{RecordsPass, read_records_pass}
use Rattle.demands.specs.Demand1.Stands.{PassesReading, read_stands, stands_settled}
use Rattle.demands.specs.Demand1.Goes.{goes_on, goes_ends}
use Rattle.demands.specs.Demand1.ReadingGoes.{reading_goes}

module _ (s : List ℕ) where
  -- A refusal in reading is a fault at a place to which reading comes, past records that pass.
  pub reading_stops : {number place : ℕ} → read_request s ≡ stopped number place → Stops s number place
  reading_stops e = goes_ends (reading_goes s) e

  -- What is read is read to the input's end, each record passing.
  pub reading_ends : {end : ℕ} {r : Request} → read_request s ≡ read end r → Comes s nothing (length s)
  reading_ends e = goes_on (reading_goes s) e

  -- Two faults to which reading comes have one number and one place.
  pub stops_settled : {number number' place place' : ℕ} → Stops s number place → Stops s number' place' → (number ≡ number') × (place ≡ place')
  stops_settled {number} {place} one other =
      let (due, places) = last_settled (λ w. none_passes one.fault) (λ w. none_passes other.fault) one.comes other.comes in
      let there : Fault s other.due place number = subst (λ d. Fault s d place number) due one.fault in
      (fault_settled (subst (λ p. Fault s other.due p number) places there) other.fault, places)

  -- No input is read to its end and has a fault.
  pub ends_or_stops : {number place : ℕ} → Comes s nothing (length s) → Stops s number place → ⊥
  ends_or_stops ended stop =
      let (due, place) = last_settled (λ w d passes. nothing_not_due d refl) (λ w. none_passes stop.fault) ended stop.comes in
      no_fault_at_end stop.fault (sym due) (sym place)

  -- A fault to which reading comes is the refusal, with its place.
  pub fault_stops : {due : DueHere} {number place : ℕ} → Comes s due place → Fault s due place number → read_request s ≡ stopped number place
  fault_stops {due} {number} {place} comes fault = go (read_request s) refl
    where
      stop : Stops s number place
      stop = record { due = due; comes = comes; fault = fault }

      go : (x : Read Request) → read_request s ≡ x → read_request s ≡ stopped number place
      go (read end r) e = absurd (ends_or_stops (reading_ends e) stop)
      go (stopped number' place') e = let (numbers, places) = stops_settled (reading_stops e) stop in cc

  -- Where reading comes to the input's end and nothing is due, a request is read.
  pub end_is_read : Comes s nothing (length s) → (end : ℕ) × (r : Request) × (read_request s ≡ read end r)
  end_is_read ended = go (read_request s) refl
    where
      go : (x : Read Request) → read_request s ≡ x → (end : ℕ) × (r : Request) × (read_request s ≡ read end r)
      go (read end r) e = (end, r, e)
      go (stopped number place) e = absurd (ends_or_stops ended (reading_stops e))

  -- What is read is the request that passes reading.
  pub read_iff_passes : (r : Request) → ((end : ℕ) × (read_request s ≡ read end r)) ↔ PassesReading s r
  read_iff_passes r = (passes, back)
    where
      passes : (end : ℕ) × (read_request s ≡ read end r) → PassesReading s r
      passes (end, e) = record { comes = reading_ends e; stands = read_stands s e }

      back : PassesReading s r → (end : ℕ) × (read_request s ≡ read end r)
      back p =
          let (end, r', e) = end_is_read p.comes in
          (end, subst (λ x. read_request s ≡ read end x) (stands_settled (read_stands s e) p.stands) e)

  -- Each record of a request that passes reading stands at its place, and passes there.
  pub records_pass : {r : Request} → PassesReading s r → RecordsPass s r
  records_pass {r} passes = read_records_pass s ((read_iff_passes r).1 passes).1

  -- Each input does one or the other.
  pub every_input_ends_or_stops : Comes s nothing (length s) ⊎ ((number : ℕ) × (place : ℕ) × Stops s number place)
  every_input_ends_or_stops = go (read_request s) refl
    where
      go : (x : Read Request) → read_request s ≡ x → Comes s nothing (length s) ⊎ ((number : ℕ) × (place : ℕ) × Stops s number place)
      go (read end r) e = inl (reading_ends e)
      go (stopped number place) e = inr (number, place, reading_stops e)

-- Refusals 1 to 6 are those of reading.
fault_is_1_to_6 : {s : List ℕ} {due : DueHere} {at number : ℕ} → Fault s due at number → Between 1 number 6
fault_is_1_to_6 (no_kind_byte d e) = record { from_low = omega arith; to_high = omega arith }
fault_is_1_to_6 (cut_short d h k short) = record { from_low = omega arith; to_high = omega arith }
fault_is_1_to_6 (kind_not_due d h other) = record { from_low = omega arith; to_high = omega arith }
fault_is_1_to_6 (not_the_one_due d whole room fails) = record { from_low = omega arith; to_high = omega arith }
fault_is_1_to_6 (out_of_range d whole room numbers fails) = record { from_low = omega arith; to_high = omega arith }
fault_is_1_to_6 (no_room d whole fails) = record { from_low = omega arith; to_high = omega arith }
fault_is_1_to_6 (bad_label d whole room numbers ranges fails) = record { from_low = omega arith; to_high = omega arith }
fault_is_1_to_6 (bytes_after e h) = record { from_low = omega arith; to_high = omega arith }

pub stopped_with_1_to_6 : {s : List ℕ} {number place : ℕ} → Stops s number place → Between 1 number 6
stopped_with_1_to_6 stop = fault_is_1_to_6 stop.fault
