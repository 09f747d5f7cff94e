-- Demand 1: every byte string is answered, one way, a refusal changes nothing, and no label off the list gets through. Below: what reading is (`Wanted`,
-- `Reads`), that reading does just that (`Reading`), the request that stands in the bytes (`Stands`), which records may not stand past a `D` or a `K`
-- (`NoMore`), what a fifth window is (`FifthWindow`), and which of document 01's ranges has changed (`NoMinutes`). The other files are what these rest on.
pub mod Wanted
pub mod Tells
pub mod Reads
pub mod FaultSettled
pub mod ReadsSettled
pub mod Goes
pub mod DueAt
pub mod Awaits
pub mod RecordGoes
pub mod ReadPasses
pub mod PartsGo
pub mod ReadingGoes
pub mod PartsRead
pub mod RecordsPass
pub mod Stands
pub mod Reading
pub mod LabelBytes
pub mod NoMore
pub mod FifthWindow
pub mod NoMinutes
use Rattle.std.specs.Prelude.{ℕ, ◌+◌, ◌≤◌, ◌<◌, ◌≡◌, refl, ◌⊎◌, ◌↔◌, length, take, get_or}
use Rattle.std.proofs.Common.{sym, ◌∙◌, inl, inr, arith}
use Rattle.std.proofs.Math.Path.{ap}
use mathlib.Core.List.{List, Memᴰ}
use Rattle.label.specs.Label.{Label, Listed}
use Rattle.rules.specs.Fields.{byte}
use Rattle.rules.specs.Records.{Read, read, stopped}
use Rattle.rules.specs.Reading.{Request, read_request}
use Rattle.rules.specs.Workflow.{Workflow, task_place}
use Rattle.rules.specs.Labels.{label_place, label_lookup, label}
use Rattle.rules.specs.Rows.{Row}
use Rattle.rules.specs.Method.{Name, by_HBCS, by_cheapest, by_HEFT}
use Rattle.rules.specs.Budget.{workflow_for}
use Rattle.rules.specs.Answer.{Outcome, plan, refusal, outcome_asked, refused, answer_of, answer_asked, written, rows_asked}
use Rattle.rules.specs.Buffers.{Buffers, rows_lent, column_after, buffers_written, buffers_asked}
use Rattle.rules.specs.Text.{text_asked, program_asked}
use Rattle.rules.specs.Range.{range, range_text, range_program}
use Rattle.rules.specs.Why.{why_not, why_text, why_program}
use Rattle.good.specs.Ranges.{request_most}
use Rattle.good.specs.ReadIsGood.{read_is_good}
use Rattle.good.specs.RangeLaws.{good_length}
use Rattle.good.specs.Labels.{good_label, label_begins}
use Rattle.good.specs.Program.{answer_asked_first, rows_asked_first, buffers_asked_first, program_asked_is_text, range_first, range_program_is_text}
use Rattle.good.specs.Program.{why_not_first, why_program_is_text, label_lookup_first, label_first}
use Rattle.demands.specs.Demand1.Wanted.{task, Passes}
use Rattle.demands.specs.Demand1.Reads.{Stops}
use Rattle.demands.specs.Demand1.Stands.{PassesReading}
use Rattle.demands.specs.Demand1.Reading.{reading_stops, fault_stops, read_iff_passes, records_pass, stopped_with_1_to_6}
use Rattle.demands.specs.Demand1.LabelBytes.{label_bytes_length, label_byte, label_byte_listed, each_member}
use Rattle.demands.specs.Ground.GoodWorkflow.{good_workflow}
use Rattle.demands.specs.Ground.GoodRequest.{outcome_of_good, outcome_of_stopped}
use Rattle.demands.specs.Demand2.WhatIsDue as due
use Rattle.demands.specs.Demand2.WhatIsDue.{Due, requests_get_their_due}
use Rattle.demands.specs.Demand2.DueSettled.{due_is_outcome}

-- "It returns the label, without its spaces, as a part of the caller's own bytes": the label field in the record of task i is 1 to 8 bytes of
-- the list and then spaces, and the lookup gives those bytes, where they stand.
pub record LabelGiven (s : List ℕ) (r : Request) (i len : ℕ) : Type 0 where
  pub its_record : Passes s (task_place r i) (task i)
  pub field : Label s (label_place r i) len
  pub begins : (label_lookup s i).begin ≡ label_place r i
  pub part_length : (label_lookup s i).length ≡ len
  pub bytes_length : length (label s i) ≡ len
  pub each_byte : (k : ℕ) → k < len → get_or (label s i) k 0 ≡ byte s (label_place r i + k)

-- For a request that passes reading.
pub labels_are_given : (s : List ℕ) {r : Request} → PassesReading s r → (i : ℕ) → i < r.tasks → (len : ℕ) × LabelGiven s r i len
labels_are_given s {r} passes i below =
    let (end, e) = (read_iff_passes s r).1 passes in (
      (label_lookup s i).length,
      record {
        its_record = (records_pass s passes).tasks i below;
        field = good_label s i e below;
        begins = label_begins s i e below;
        part_length = refl;
        bytes_length = label_bytes_length s i;
        each_byte = λ k h. label_byte s i k h ∙ ap (λ place. byte s (place + k)) (label_begins s i e below);
      },
    )

-- Whatever the input and the task number: each byte of what the lookup gives is on the list.
pub no_stray_byte : (s : List ℕ) (i : ℕ) {b : ℕ} → Memᴰ b (label s i) → Listed b
no_stray_byte s i = each_member Listed (label s i) (label_byte_listed s i)

-- "So a good request, one not refused with 1 to 6, has at most 9,056 bytes."
pub good_request_length : (s : List ℕ) {r : Request} → PassesReading s r → length s ≤ request_most
good_request_length s {r} passes = good_length s r (read_is_good s ((read_iff_passes s r).1 passes).1)

-- "reads at most 16,384 bytes from standard input; by the size limit its answer is that of the whole input": by each method, and of the range and of a start.
pub record FirstBytesDecide (s : List ℕ) : Type 0 where
  pub answers : (M : Name) (lent : ℕ) → answer_asked M (take 16_384 s) lent ≡ answer_asked M s lent
  pub rows : (M : Name) (lent : List Row) → rows_asked M (take 16_384 s) lent ≡ rows_asked M s lent
  pub buffers : (M : Name) (lent : Buffers) → buffers_asked M (take 16_384 s) lent ≡ buffers_asked M s lent
  pub labels : (i : ℕ) → label (take 16_384 s) i ≡ label s i
  pub parts : (i : ℕ) → label_lookup (take 16_384 s) i ≡ label_lookup s i
  pub texts : (M : Name) → program_asked M s ≡ text_asked M s
  pub ranges : range (take 16_384 s) ≡ range s
  pub range_texts : range_program s ≡ range_text s
  pub reasons : (i t : ℕ) → why_not (take 16_384 s) i t ≡ why_not s i t
  pub reason_texts : (i t : ℕ) → why_program s i t ≡ why_text (why_not s i t)

pub first_bytes_decide : (s : List ℕ) → FirstBytesDecide s
first_bytes_decide s =
    record {
      answers = λ M. answer_asked_first M s;
      rows = λ M. rows_asked_first M s;
      buffers = λ M. buffers_asked_first M s;
      labels = label_first s;
      parts = label_lookup_first s;
      texts = λ M. program_asked_is_text M s;
      ranges = range_first s;
      range_texts = range_program_is_text s;
      reasons = why_not_first s;
      reason_texts = why_program_is_text s;
    }

-- What an input and so many rows lent get, by the method that is asked for: the refusal of the first fault, or, for a request that passes reading, what is
-- due to its workflow with what is in force.
pub data Answered (M : Name) (s : List ℕ) (lent : ℕ) : Outcome → Type 0 where
  refused_in_reading : {number place : ℕ} → Stops s number place → Answered M s lent (refusal number place)
  passed_reading : {r : Request} {o : Outcome} → PassesReading s r → Due (workflow_for M s r) lent M o → Answered M s lent o

-- Every input is answered,
pub every_input_is_answered : (M : Name) (s : List ℕ) (lent : ℕ) → Answered M s lent (outcome_asked M s lent)
every_input_is_answered M s lent = go (read_request s) refl
  where
    go : (x : Read Request) → read_request s ≡ x → Answered M s lent (outcome_asked M s lent)
    go (read end r) e = passed_reading ((read_iff_passes s r).0 (end, e)) (requests_get_their_due M s e lent)
    go (stopped number place) e = rw (outcome_of_stopped M s e lent) (refused_in_reading (reading_stops s e))

answered_is_outcome : {M : Name} {s : List ℕ} {lent : ℕ} {o : Outcome} → Answered M s lent o → o ≡ outcome_asked M s lent
answered_is_outcome {M} {s} {lent} (refused_in_reading stop) = sym (outcome_of_stopped M s (fault_stops s stop.comes stop.fault) lent)
answered_is_outcome {M} {s} {lent} (passed_reading {r = r} passes due) =
    let (end, e) = (read_iff_passes s r).1 passes in
    due_is_outcome (workflow_for M s r) (good_workflow M s e) lent due ∙ sym (outcome_of_good M s e lent)

-- and one way: two outcomes so described are one.
pub answered_settled : {M : Name} {s : List ℕ} {lent : ℕ} {o o' : Outcome} → Answered M s lent o → Answered M s lent o' → o ≡ o'
answered_settled one other = answered_is_outcome one ∙ sym (answered_is_outcome other)

refused_outcome : (o : Outcome) {number place : ℕ} → answer_of o ≡ refused number place → o ≡ refusal number place
unfolding answer_of
refused_outcome (plan W rows) e = let z : ◌≡◌ {A = ℕ} 0 1 = cc in absurd (omega arith)
refused_outcome (refusal number' place') {number} {place} e = cc

-- A refusal is given exactly where it is described so: "number, place".
pub refused_iff_answered :
    (M : Name) (s : List ℕ) (lent number place : ℕ) → (answer_asked M s lent ≡ refused number place) ↔ Answered M s lent (refusal number place)
unfolding answer_asked
refused_iff_answered M s lent number place = (
  λ e. rw (refused_outcome (outcome_asked M s lent) e) at (every_input_is_answered M s lent),
  λ a. unfold answer_of in ap answer_of (sym (answered_is_outcome a)),
)

-- Refusals from 7 on come only for requests that pass reading, where they are due.
pub later_refusals_are_due :
    (M : Name) (s : List ℕ) (lent : ℕ) {number place : ℕ} → answer_asked M s lent ≡ refused number place → 7 ≤ number
    → (r : Request) × PassesReading s r × Due (workflow_for M s r) lent M (refusal number place)
unfolding answer_asked
later_refusals_are_due M s lent {number} {place} e later = go (read_request s) refl
  where
    given : outcome_asked M s lent ≡ refusal number place
    given = refused_outcome (outcome_asked M s lent) e

    go : (x : Read Request) → read_request s ≡ x
        → (r : Request) × PassesReading s r × Due (workflow_for M s r) lent M (refusal number place)
    go (read end r) read_so = (r, (read_iff_passes s r).0 (end, read_so), rw given at (requests_get_their_due M s read_so lent))
    go (stopped number' place') stopped_so =
        let early = stopped_with_1_to_6 (reading_stops s stopped_so) in
        let same : number ≡ number' = cc (given, outcome_of_stopped M s stopped_so lent) in
        absurd (omega arith)

-- The numbers in the table of refusals; "asked for alone, [..] refusals 1 to 8 only".
abbrev pub OfTheTable : Name → ℕ → Type 0
OfTheTable by_HBCS number = ((1 ≤ number) × (number ≤ 9)) ⊎ (number ≡ 11)
OfTheTable by_cheapest number = (1 ≤ number) × (number ≤ 8)
OfTheTable by_HEFT number = (1 ≤ number) × (number ≤ 8)

pub refusal_numbers : (M : Name) (s : List ℕ) (lent : ℕ) {number place : ℕ} → answer_asked M s lent ≡ refused number place → OfTheTable M number
refusal_numbers M s lent {number} {place} e = go ((refused_iff_answered M s lent number place).0 e) refl
  where
    up_to_eight : (N : Name) → 1 ≤ number → number ≤ 8 → OfTheTable N number
    up_to_eight by_HBCS low high = inl (low, omega arith)
    up_to_eight by_cheapest low high = (low, high)
    up_to_eight by_HEFT low high = (low, high)

    of_due : {W : Workflow} {N : Name} {o : Outcome} → Due W lent N o → o ≡ refusal number place → OfTheTable N number
    of_due {N = N} (due.seven few) is = let same : 7 ≡ number = cc in up_to_eight N (omega arith) (omega arith)
    of_due {N = N} (due.eight enough lowest) is = let same : 8 ≡ number = cc in up_to_eight N (omega arith) (omega arith)
    of_due (due.nine placeable dear) is = let same : 9 ≡ number = cc in inl (omega arith, omega arith)
    of_due (due.eleven placeable p within late) is = let same : 11 ≡ number = cc in inr (sym same)
    of_due (due.planned placeable p keeps) is = let z : ◌≡◌ {A = ℕ} 0 1 = cc in absurd (omega arith)

    go : {o : Outcome} → Answered M s lent o → o ≡ refusal number place → OfTheTable M number
    go (refused_in_reading {number = n} stop) is =
        let early = stopped_with_1_to_6 stop in
        let same : n ≡ number = cc in
        up_to_eight M (omega arith) (omega arith)
    go (passed_reading passes its_due) is = of_due its_due is

-- "A refusal changes no row."
pub refusal_changes_no_row :
    (M : Name) (s : List ℕ) (rows : List Row) {number place : ℕ} → answer_asked M s (length rows) ≡ refused number place → rows_asked M s rows ≡ rows
unfolding answer_asked rows_asked written
refusal_changes_no_row M s rows e = rw (refused_outcome (outcome_asked M s (length rows)) e)

-- Nor one of four buffers, whatever their lengths.
pub refusal_changes_no_buffer :
    (M : Name) (s : List ℕ) (lent : Buffers) {number place : ℕ} → answer_asked M s (rows_lent lent) ≡ refused number place → buffers_asked M s lent ≡ lent
unfolding answer_asked buffers_asked buffers_written column_after
refusal_changes_no_buffer M s lent e = rw (refused_outcome (outcome_asked M s (rows_lent lent)) e)
