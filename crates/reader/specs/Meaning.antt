-- What the code's answers mean: for each case the rules' own, with document 01's number and place for a refusal.
use Rattle.std.specs.Prelude.{ℕ, ◌≡◌, Bool, cond, List, length, Option, None, Some, Result, Ok, Err}
use Rattle.refusals.specs.declared.Refusal.{Refusal}
use Rattle.refusals.specs.Numbers.{number}
use Rattle.rules.specs.Records.{read, stopped}
use Rattle.rules.specs.Records as rules
use Rattle.rules.specs.Reading as request
use Rattle.reader.specs.declared.View.{View}

-- At most one record of a kind: what is read where one stands, else none.
abbrev pub one_or_none : Bool → rules.Read ℕ → (at : ℕ) → rules.Read (Option ℕ)
one_or_none stands due at = cond stands (request.then due (λ next x. read next (Some x))) (read at None)

-- "No `D` means no deadline."
abbrev pub meant_deadline : Option ℕ → request.Deadline
meant_deadline None = request.no_deadline
meant_deadline (Some minutes) = request.by minutes

-- "No `K` means the budget of `H`."
abbrev pub meant_share : Option ℕ → request.Share
meant_share None = request.no_share
meant_share (Some thousandths) = request.thousandths thousandths

-- A view holds the numbers of a good request, and where its parts begin.
abbrev pub meant_view : View → request.Request
meant_view v =
    record {
      tasks = v.tasks;
      processors = v.processors;
      budget = v.budget;
      deadline = meant_deadline v.deadline;
      share = meant_share v.share;
      prices_at = v.prices_at;
      windows_at = v.windows_at;
      windows = v.windows;
      tasks_at = v.tasks_at;
      edges_at = v.edges_at;
      edges = v.edges;
    }

-- A good request, read to the end of the input; or the refusal.
abbrev pub meant_reading : List ℕ → Result View Refusal → rules.Read request.Request
meant_reading s (Ok v) = read (length s) (meant_view v)
meant_reading s (Err r) = stopped (number r.fault) r.place

-- The view is that of the good request s.
abbrev pub ViewOf : List ℕ → View → Type 0
ViewOf s v = request.read_request s ≡ read (length s) (meant_view v)
