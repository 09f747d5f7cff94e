-- The workflow of a good request, and how a request is read.
use Rattle.std.specs.Prelude.{ℕ, ◌≡◌, List, Result, Ok, Err}
use Rattle.refusals.specs.declared.Refusal.{Refusal}
use Rattle.refusals.specs.Numbers.{number}
use Rattle.rules.specs.Records.{stopped}
use Rattle.rules.specs.Reading.{read_request}
use Rattle.rules.specs.Workflow.{Workflow}
use Rattle.lookup.specs.Lookup.{workflow_of}
use Rattle.lookup.specs.declared.request.Request.{Request}

abbrev pub flow : Request → Workflow
flow r = workflow_of r.bytes.now r.view

-- The request is that of these bytes; that it is good is in its type. Or these bytes are refused so.
abbrev pub ReadAs : List ℕ → Result Request Refusal → Type 0
ReadAs s (Ok r) = r.bytes.now ≡ s
ReadAs s (Err r) = read_request s ≡ stopped (number r.fault) r.place
