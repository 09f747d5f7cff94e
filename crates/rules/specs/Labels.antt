-- "The label lookup takes a request's bytes and a task number."
use Rattle.std.specs.Prelude.{ℕ, cond, List, take, drop, ltb}
use Rattle.label.specs.Length.{label_length}
use Rattle.rules.specs.Fields.{T_label}
use Rattle.rules.specs.Records.{Read, read, stopped}
use Rattle.rules.specs.Reading.{Request, read_request}
use Rattle.rules.specs.Workflow.{task_place}

-- A part of the caller's own bytes.
pub record Part : Type 0 where
  pub begin : ℕ
  pub length : ℕ

unfoldable pub part_of : List ℕ → Part → List ℕ
part_of s p = take p.length (drop p.begin s)

-- "the empty part at the start"
abbrev pub empty_start : Part
empty_start = record { begin = 0; length = 0 }

-- The label of task i in a good request, "without its spaces".
unfoldable pub label_place : Request → ℕ → ℕ
label_place r i = T_label (task_place r i)

unfoldable pub label_part : List ℕ → Request → ℕ → Part
label_part s r i = record { begin = label_place r i; length = label_length s (label_place r i) }

-- "for a request refused in reading (1 to 6), or a task not below n, the empty part at the start"
unfoldable pub label_in : List ℕ → Read Request → ℕ → Part
label_in s (read next r) i = cond (ltb i r.tasks) (label_part s r i) empty_start
label_in s (stopped number place) i = empty_start

unfoldable pub label_lookup : List ℕ → ℕ → Part
label_lookup s i = label_in s (read_request s) i

unfoldable pub label : List ℕ → ℕ → List ℕ
label s i = part_of s (label_lookup s i)
