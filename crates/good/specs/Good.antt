-- What "a good request, one not refused with 1 to 6" is, said of its bytes: numbers in their ranges, and records where their places say.
use Rattle.std.specs.Prelude.{◌≡◌, ℕ, ◌+◌, ◌<◌, ◌≤◌, List, length}
use Rattle.label.specs.Label.{Label}
use Rattle.label.specs.Length.{label_length}
use Rattle.rules.specs.Fields.{Z, size, P_price, M_processor, M_begin, M_end, W_minutes, E_from, E_to, E_transfer}
use Rattle.rules.specs.Reading.{by, thousandths, Request}
use Rattle.rules.specs.Workflow.{processor_minimum, processor_place, window_place, task_place, minutes_place, edge_place}
use Rattle.rules.specs.Labels.{label_place}

-- x is from low to high.
pub record Between (low x high : ℕ) : Type 0 where
  pub from_low : low ≤ x
  pub to_high : x ≤ high

-- "edge ends below n and unequal", "transfer 0..1,000", in the record of an edge at `at`.
pub record GoodEdge (s : List ℕ) (n at : ℕ) : Type 0 where
  pub from_below : E_from s at < n
  pub to_below : E_to s at < n
  pub unequal : E_from s at ≡ E_to s at → ⊥
  pub transfer_in : E_transfer s at ≤ 1_000

-- "a window's processor below m, its begin below its end, its end at most 20,000", in the record of a window at `at`.
pub record GoodWindow (s : List ℕ) (m at : ℕ) : Type 0 where
  pub processor_below : M_processor s at < m
  pub has_minutes : M_begin s at < M_end s at
  pub end_in : M_end s at ≤ 20_000

-- The record at `at` is above the one at `before`, by its first number and then its second.
pub record Above (first second : ℕ → ℕ) (before at : ℕ) : Type 0 where
  pub by_first : first before ≤ first at
  pub then_second : first before ≡ first at → second before < second at

-- The windows at `before` and at `at`: a later one of the same processor begins when the one before it has ended.
abbrev pub Apart : List ℕ → (before at : ℕ) → Type 0
Apart s before at = M_processor s before ≡ M_processor s at → M_end s before ≤ M_begin s at

-- A request read from s: its numbers, where its parts stand, and what each record holds. The parts fill s to its end.
pub record Good (s : List ℕ) (r : Request) : Type 0 where
  pub tasks_in : Between 1 r.tasks 64
  pub processors_in : Between 1 r.processors 16
  pub budget_in : r.budget ≤ 20_000_000
  pub deadline_in : (d : ℕ) → r.deadline ≡ by d → Between 1 d 200_000
  pub share_in : (k : ℕ) → r.share ≡ thousandths k → (k ≤ 1_000) × (r.budget ≡ 0)
  pub windows_in : r.windows ≤ 64
  pub edges_in : r.edges ≤ 512
  pub prices_begin : Between 7 r.prices_at 15
  pub windows_begin : r.windows_at ≡ processor_place s r r.processors
  pub tasks_begin : r.tasks_at ≡ window_place r r.windows
  pub edges_begin : r.edges_at ≡ task_place r r.tasks
  pub ends : length s ≡ edge_place r r.edges + size Z
  pub price_in : (j : ℕ) → j < r.processors → P_price s (processor_place s r j) ≤ 100
  pub minimum_in : (j : ℕ) → j < r.processors → processor_minimum s (processor_place s r j) ≤ 10_000
  pub window_in : (e : ℕ) → e < r.windows → GoodWindow s r.processors (window_place r e)
  pub windows_rise : (e : ℕ) → e + 1 < r.windows → Above (M_processor s) (M_begin s) (window_place r e) (window_place r (e + 1))
  pub windows_apart : (e : ℕ) → e + 1 < r.windows → Apart s (window_place r e) (window_place r (e + 1))
  pub four_at_most : (e : ℕ) → e + 4 < r.windows → M_processor s (window_place r e) ≡ M_processor s (window_place r (e + 4)) → ⊥
  pub labelled : (i : ℕ) → i < r.tasks → Label s (label_place r i) (label_length s (label_place r i))
  pub minutes_in : (i j : ℕ) → i < r.tasks → j < r.processors → W_minutes s (minutes_place r i j) ≤ 2_000
  pub edge_in : (e : ℕ) → e < r.edges → GoodEdge s r.tasks (edge_place r e)
  pub rises : (e : ℕ) → e + 1 < r.edges → Above (E_from s) (E_to s) (edge_place r e) (edge_place r (e + 1))
