-- The workflow that a good request's bytes mean: numbers, and functions of numbers.
use Rattle.std.specs.Prelude.{ℕ, zero, suc, ◌+◌, ◌*◌, cond, ◌&&◌, List, [], ◌∷◌, ltb, eqb}
use Rattle.rules.specs.Fields.{Kind, P, Q, M, T, W, E, kind_byte, size, byte, P_price, Q_minimum, M_processor, M_begin, M_end}
use Rattle.rules.specs.Fields.{W_minutes, E_from, E_to, E_transfer}
use Rattle.rules.specs.Reading.{Deadline, Request}

-- What a processor is busy with: from `begin` on, up to `end`.
pub record Interval : Type 0 where
  pub begin : ℕ
  pub end : ℕ

-- Tasks, processors and edges are numbered from 0; past the last of them each function is 0.
pub record Workflow : Type 0 where
  pub tasks : ℕ
  pub processors : ℕ
  pub budget : ℕ
  pub deadline : Deadline
  pub price : ℕ → ℕ
  pub minimum : ℕ → ℕ
  -- What each processor is busy with at first, and the minute before which no data is ready.
  pub busy_at_first : ℕ → List Interval
  pub clock : ℕ
  pub minutes : ℕ → ℕ → ℕ
  pub edges : ℕ
  pub from : ℕ → ℕ
  pub to : ℕ → ℕ
  pub transfer : ℕ → ℕ

-- The kind of the processor record at `at`, and its minimum: "a `P` has minimum 0".
unfoldable pub processor_kind : List ℕ → ℕ → Kind
processor_kind s at = cond (eqb (byte s at) (kind_byte Q)) Q P

unfoldable pub processor_minimum : List ℕ → ℕ → ℕ
processor_minimum s at = cond (eqb (byte s at) (kind_byte Q)) (Q_minimum s at) 0

-- Past the first j of the processor records that begin at `at`: each is as long as its kind, so that one walks over those before.
unfoldable pub past_processors : List ℕ → ℕ → ℕ → ℕ
past_processors s at zero = at
past_processors s at (suc j) = let place = past_processors s at j in place + size (processor_kind s place)

-- Where the records of a good request stand, in the order that document 01 gives them.
unfoldable pub processor_place : List ℕ → Request → ℕ → ℕ
processor_place s r j = past_processors s r.prices_at j

unfoldable pub window_place : Request → ℕ → ℕ
window_place r e = r.windows_at + e * size M

unfoldable pub task_place : Request → ℕ → ℕ
task_place r i = r.tasks_at + i * (size T + r.processors * size W)

unfoldable pub minutes_place : Request → ℕ → ℕ → ℕ
minutes_place r i j = task_place r i + (size T + j * size W)

unfoldable pub edge_place : Request → ℕ → ℕ
edge_place r e = r.edges_at + e * size E

-- The kind that processor j was read in, `P` or `Q`. The workflow has what is in force, and does not tell a `P` from a `Q` with minimum 0.
unfoldable pub read_in : List ℕ → Request → ℕ → Kind
read_in s r j = processor_kind s (processor_place s r j)

-- One interval more, which processor `on` is busy with.
unfoldable pub busy_with : (on : ℕ) → Interval → (ℕ → List Interval) → ℕ → List Interval
busy_with on v busy j = cond (eqb on j) (v ∷ busy j) (busy j)

-- "`M` is a maintenance window: the processor is down from begin on, up to end": the window at `at`.
unfoldable pub window_of : List ℕ → ℕ → Interval
window_of s at = record { begin = M_begin s at; end = M_end s at }

-- "what j is busy with at first are its windows": of the first k windows.
unfoldable pub windows_on : List ℕ → Request → ℕ → ℕ → List Interval
windows_on s r zero = λ j. []
windows_on s r (suc k) = busy_with (M_processor s (window_place r k)) (window_of s (window_place r k)) (windows_on s r k)

-- With the budget and the deadline as they were read; those in force may be others.
unfoldable pub workflow : List ℕ → Request → Workflow
workflow s r =
    record {
      tasks = r.tasks;
      processors = r.processors;
      budget = r.budget;
      deadline = r.deadline;
      price = λ j. cond (ltb j r.processors) (P_price s (processor_place s r j)) 0;
      minimum = λ j. cond (ltb j r.processors) (processor_minimum s (processor_place s r j)) 0;
      busy_at_first = windows_on s r r.windows;
      clock = 0;
      minutes = λ i j. cond (ltb i r.tasks && ltb j r.processors) (W_minutes s (minutes_place r i j)) 0;
      edges = r.edges;
      from = λ e. cond (ltb e r.edges) (E_from s (edge_place r e)) 0;
      to = λ e. cond (ltb e r.edges) (E_to s (edge_place r e)) 0;
      transfer = λ e. cond (ltb e r.edges) (E_transfer s (edge_place r e)) 0;
    }
