-- What is looked up in a request: the numbers of its workflow, and a label as a part of its bytes.
use Rattle.std.specs.Prelude.{List, ℕ, ◌+◌, ◌≡◌}
use Rattle.rules.specs.Workflow.{Workflow, workflow}
use Rattle.rules.specs.Labels as rules
use Rattle.reader.specs.declared.View.{View}
use Rattle.reader.specs.Meaning.{meant_view}
use Rattle.lookup.specs.declared.Part.{Part}

-- The workflow of a good request, by its view.
abbrev pub workflow_of : List ℕ → View → Workflow
workflow_of s v = workflow s (meant_view v)

abbrev pub meant_part : Part → rules.Part
meant_part p = record { begin = p.begin; length = p.length }

-- A slice of these bytes, at this pointer, is the task's label in the request s that stands at `start`: "without its spaces, as a part of the caller's own
-- bytes".
pub record LabelOf {A : Type 0} (s : List ℕ) (start : A × ℕ) (task : ℕ) (bytes : List ℕ) (pointer : A × ℕ) : Type 0 where
  pub bytes_are : bytes ≡ rules.part_of s (rules.label_lookup s task)
  pub stands_at : pointer ≡ (start.0, (rules.label_lookup s task).begin + start.1)
