-- Reading as document 01 has it: which record is due where, and which fault ends reading. No word of a test or of a way to read.
use Rattle.std.specs.Prelude.{ℕ, suc, ◌+◌, ◌<◌, ◌≡◌, List, length}
use Rattle.rules.specs.Fields.{kind_byte, size, byte, H_tasks, H_processors}
use Rattle.demands.specs.Demand1.Wanted.{Single, deadline, share, ProcessorKind, Wanted, header, single, processor, window, task, minutes, edge, end}
use Rattle.demands.specs.Demand1.Wanted.{kind_of, Room, NumbersDue, FieldsInRange, HasLabel, Whole, Passes}

-- What is due at a place: one record, "at most one" of a kind and else what is due after it, one of several, or nothing. "A `Q` may stand wherever a `P` is
-- due."
pub data DueHere : Type 0 where
  only : Wanted → DueHere
  at_most_one : Single → (later : DueHere) → DueHere
  either_processor : (j : ℕ) → DueHere
  window_or_task : (before : ℕ) → DueHere
  edge_or_end : (before : ℕ) → DueHere
  nothing : DueHere

pub data IsDue : DueHere → Wanted → Type 0 where
  that_one : {w : Wanted} → IsDue (only w) w
  that_single : {o : Single} {later : DueHere} → IsDue (at_most_one o later) (single o)
  or_later : {o : Single} {later : DueHere} {w : Wanted} → IsDue later w → IsDue (at_most_one o later) w
  either_kind : {k : ProcessorKind} {j : ℕ} → IsDue (either_processor j) (processor k j)
  a_window : {before : ℕ} → IsDue (window_or_task before) (window before)
  or_the_first_task : {before : ℕ} → IsDue (window_or_task before) (task 0)
  an_edge : {before : ℕ} → IsDue (edge_or_end before) (edge before)
  or_the_end : {before : ℕ} → IsDue (edge_or_end before) end

-- "Order: `H`; at most one `D`; at most one `K`; `P` or `Q` for 0 to m-1; then any number of `M` within the limit, [..]; then for each task 0 to n-1 its
-- `T` followed by `W` for processors 0 to m-1; then any number of `E` [..]; then `Z`; then nothing": what is due after the record at `at`. n and m are the
-- header's.
pub data Follows (s : List ℕ) (at : ℕ) : Wanted → DueHere → Type 0 where
  after_header : Follows s at header (at_most_one deadline (at_most_one share (either_processor 0)))
  after_deadline : Follows s at (single deadline) (at_most_one share (either_processor 0))
  after_share : Follows s at (single share) (either_processor 0)
  next_processor : {k : ProcessorKind} {j : ℕ} → suc j < H_processors s 0 → Follows s at (processor k j) (either_processor (suc j))
  first_window : {k : ProcessorKind} {j : ℕ} → suc j ≡ H_processors s 0 → Follows s at (processor k j) (window_or_task 0)
  next_window : {before : ℕ} → Follows s at (window before) (window_or_task (suc before))
  first_minutes : {i : ℕ} → Follows s at (task i) (only (minutes i 0))
  next_minutes : {i j : ℕ} → suc j < H_processors s 0 → Follows s at (minutes i j) (only (minutes i (suc j)))
  next_task : {i j : ℕ} → suc j ≡ H_processors s 0 → suc i < H_tasks s 0 → Follows s at (minutes i j) (only (task (suc i)))
  first_edge :
      {i j : ℕ} → suc j ≡ H_processors s 0 → suc i ≡ H_tasks s 0
      → Follows s at (minutes i j) (edge_or_end 0)
  next_edge : {before : ℕ} → Follows s at (edge before) (edge_or_end (suc before))
  after_end : Follows s at end nothing

-- "Records are checked from the front": reading comes to a place, past records that pass, and there this is due.
pub data Comes (s : List ℕ) : DueHere → ℕ → Type 0 where
  at_the_front : Comes s (only header) 0
  past :
      {due next : DueHere} {at : ℕ} {w : Wanted} → Comes s due at → IsDue due w → Passes s at w → Follows s at w next
      → Comes s next (at + size (kind_of w))

-- "the first fault ends reading": the table's lines 1 to 6, each with what is checked before it. "Inside a record: kind (a missing byte gives 1),
-- whole body, the 513th edge, 3, 4 in field order, 5."
pub data Fault (s : List ℕ) (due : DueHere) (at : ℕ) : ℕ → Type 0 where
  -- "input ends before the record due is whole"; "not even a kind byte is there"
  no_kind_byte : {w : Wanted} → IsDue due w → at ≡ length s → Fault s due at 1
  cut_short :
      {w : Wanted} → IsDue due w → at < length s → byte s at ≡ kind_byte (kind_of w) → length s < at + size (kind_of w) → Fault s due at 1
  -- "the kind byte is not one due here"
  kind_not_due :
      {w : Wanted} → IsDue due w → at < length s → ((v : Wanted) → IsDue due v → byte s at ≡ kind_byte (kind_of v) → ⊥) → Fault s due at 2
  -- "a number, or an edge's place in the rising order, is not the one due; an `M` out of rising order or one that begins before the same processor's
  -- previous window ends"
  not_the_one_due : {w : Wanted} → IsDue due w → Whole s at w → Room w → (NumbersDue s at w → ⊥) → Fault s due at 3
  -- "a field out of range, or a 513th edge; a processor's fifth window; a nonzero budget in `H` beside a `K`, at the `K` record"
  out_of_range :
      {w : Wanted} → IsDue due w → Whole s at w → Room w → NumbersDue s at w → (FieldsInRange s at w → ⊥) → Fault s due at 4
  no_room : {w : Wanted} → IsDue due w → Whole s at w → (Room w → ⊥) → Fault s due at 4
  -- "bad label"
  bad_label :
      {w : Wanted} → IsDue due w → Whole s at w → Room w → NumbersDue s at w → FieldsInRange s at w → (HasLabel s at w → ⊥)
      → Fault s due at 5
  -- "bytes after `Z`"
  bytes_after : due ≡ nothing → at < length s → Fault s due at 6

-- Reading stops with that number at that place.
pub record Stops (s : List ℕ) (number place : ℕ) : Type 0 where
  pub due : DueHere
  pub comes : Comes s due place
  pub fault : Fault s due place number
