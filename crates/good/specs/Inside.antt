-- Every record of a good request lies inside it, at the place that the rules compute; and there stands the number of its workflow.
use Rattle.std.specs.Prelude.{◌≡◌, ℕ, suc, ◌+◌, ◌*◌, ◌<◌, ◌≤◌, List, length}
use Rattle.std.proofs.Common.{suc-mul, mul-le-mul_right}
use native.Mathlib.Omega.{arith}
use borrow.Author.Tests.{lt-ltb}
use Rattle.rules.specs.Fields.{M, T, W, E, size, body, P_price, W_minutes, E_from, E_to, E_transfer}
use Rattle.rules.specs.Reading.{Request}
use Rattle.rules.specs.Workflow.{processor_kind, processor_minimum, past_processors, processor_place, window_place, task_place, minutes_place, edge_place, workflow}
use Rattle.good.specs.Good.{Good}
use Rattle.good.specs.Processors.{past_processors_rise}

-- The i-th of n rows of k bytes each ends where they all do or before.
row_inside : (i n k : ℕ) → i < n → i * k + k ≤ n * k
row_inside i n k h = rw (← suc-mul i k) (mul-le-mul_right k h)

module _ (s : List ℕ) (r : Request) (g : Good s r) where
  edges_inside : r.edges_at ≤ length s
  unfolding edge_place size body
  edges_inside = omega (arith, g.ends)

  pub task_inside : (i : ℕ) → i < r.tasks → task_place r i + (size T + r.processors * size W) ≤ length s
  unfolding task_place
  task_inside i h = omega (arith, row_inside i r.tasks (size T + r.processors * size W) h, g.edges_begin, edges_inside)

  pub processor_inside :
      (j : ℕ) → j < r.processors → processor_place s r j + size (processor_kind s (processor_place s r j)) ≤ length s
  unfolding processor_place past_processors window_place task_place
  processor_inside j h =
      omega (
        arith,
        past_processors_rise s r.prices_at (suc j) r.processors h,
        g.windows_begin,
        g.tasks_begin,
        g.edges_begin,
        edges_inside,
      )

  pub window_inside : (e : ℕ) → e < r.windows → window_place r e + size M ≤ length s
  unfolding window_place task_place
  window_inside e h = omega (arith, row_inside e r.windows (size M) h, g.tasks_begin, g.edges_begin, edges_inside)

  pub minutes_inside : (i j : ℕ) → i < r.tasks → j < r.processors → minutes_place r i j + size W ≤ length s
  unfolding minutes_place
  minutes_inside i j h h' = omega (arith, row_inside j r.processors (size W) h', task_inside i h)

  pub edge_inside : (e : ℕ) → e < r.edges → edge_place r e + size E ≤ length s
  unfolding edge_place
  edge_inside e h = omega (arith, row_inside e r.edges (size E) h, g.ends)

module _ (s : List ℕ) (r : Request) where
  pub price_there : (j : ℕ) → j < r.processors → (workflow s r).price j ≡ P_price s (processor_place s r j)
  unfolding workflow
  price_there j h = rw (lt-ltb _ _ h)

  pub minimum_there : (j : ℕ) → j < r.processors → (workflow s r).minimum j ≡ processor_minimum s (processor_place s r j)
  unfolding workflow
  minimum_there j h = rw (lt-ltb _ _ h)

  pub minutes_there : (i j : ℕ) → i < r.tasks → j < r.processors → (workflow s r).minutes i j ≡ W_minutes s (minutes_place r i j)
  unfolding workflow
  minutes_there i j h h' = rw (lt-ltb _ _ h, lt-ltb _ _ h')

  pub from_there : (e : ℕ) → e < r.edges → (workflow s r).from e ≡ E_from s (edge_place r e)
  unfolding workflow
  from_there e h = rw (lt-ltb _ _ h)

  pub to_there : (e : ℕ) → e < r.edges → (workflow s r).to e ≡ E_to s (edge_place r e)
  unfolding workflow
  to_there e h = rw (lt-ltb _ _ h)

  pub transfer_there : (e : ℕ) → e < r.edges → (workflow s r).transfer e ≡ E_transfer s (edge_place r e)
  unfolding workflow
  transfer_there e h = rw (lt-ltb _ _ h)
