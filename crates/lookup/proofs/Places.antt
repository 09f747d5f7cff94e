-- The records of a good request lie inside it, at the places that the code computes.
use Rattle.std.specs.Prelude.{ℕ, ◌+◌, ◌*◌, ◌<◌, ◌≤◌, List, length}
use Rattle.rules.specs.Fields.{size, body}
use Rattle.rules.specs.Workflow.{window_place, task_place, minutes_place, edge_place}
use Rattle.good.specs.Ranges.{request_most}
use Rattle.good.specs.ReadIsGood.{read_is_good}
use Rattle.good.specs.RangeLaws.{good_length}
use Rattle.good.specs.Inside.{task_inside, window_inside, minutes_inside, edge_inside}
use Rattle.reader.specs.declared.View.{View}
use Rattle.reader.specs.Meaning.{ViewOf, meant_view}
use native.Mathlib.Omega.{arith}

module _ (s : List ℕ) (v : View) (view_of : ViewOf s v) where
  pub edge_ends : (edge : ℕ) → edge < v.edges → v.edges_at + edge * 5 + 5 ≤ length s
  unfolding edge_place size body
  edge_ends edge below = edge_inside s (meant_view v) (read_is_good _ view_of) edge below

  pub window_ends : (window : ℕ) → window < v.windows → v.windows_at + window * 10 + 10 ≤ length s
  unfolding window_place size body
  window_ends window below = window_inside s (meant_view v) (read_is_good _ view_of) window below

  pub task_ends : (task : ℕ) → task < v.tasks → task_place (meant_view v) task + (10 + v.processors * 5) ≤ length s
  unfolding size body
  task_ends task below = task_inside s (meant_view v) (read_is_good _ view_of) task below

  pub task_most : (task : ℕ) → task < v.tasks → (v.processors ≤ 16) × (task_place (meant_view v) task ≤ request_most)
  task_most task below =
      let good = read_is_good _ view_of in
      (good.processors_in.to_high, omega (arith, task_ends task below, good_length s (meant_view v) good))

  pub minutes_end : (task processor : ℕ) → task < v.tasks → processor < v.processors
      → task_place (meant_view v) task + (10 + processor * 5) + 5 ≤ length s
  unfolding minutes_place size body
  minutes_end task processor below place =
      minutes_inside s (meant_view v) (read_is_good _ view_of) task processor below place
