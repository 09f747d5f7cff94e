-- Ready, start and finish of a task on a processor.
use Rattle.std.specs.Prelude.{ℕ, ◌+◌, ◌≤◌, ◌<◌, max, min, Bool, true, cond, not, ◌&&◌, eqb, ltb}
use mathlib.Core.List.{List, [], ◌∷◌, Memᴰ}
use Rattle.rules.specs.Folds.{largest}
use Rattle.rules.specs.Workflow.{Interval, Workflow}

-- When the data of edge e is on processor j: "finish(p), plus the transfer if p sits on another processor".
-- `sits` and `ends` say on which processor a placed task is and when it finishes.
unfoldable pub arrival : Workflow → (sits ends : ℕ → ℕ) → ℕ → ℕ → ℕ
arrival W sits ends j e =
    let p = W.from e in
    ends p + cond (eqb (sits p) j) 0 (W.transfer e)

-- The minute that edge e has task i wait for on j; 0 where it does not lead to the task.
abbrev pub awaited : Workflow → (sits ends : ℕ → ℕ) → ℕ → ℕ → ℕ → ℕ
awaited W sits ends i j e = cond (eqb (W.to e) i) (arrival W sits ends j e) 0

-- "A task's data is ready on j at the largest, over its predecessors p, [..]; 0 without predecessors."
unfoldable pub arrived : Workflow → (sits ends : ℕ → ℕ) → ℕ → ℕ → ℕ
arrived W sits ends i j = largest W.edges (awaited W sits ends i j)

-- And not before the clock, which is 0 for a request.
unfoldable pub ready : Workflow → (sits ends : ℕ → ℕ) → ℕ → ℕ → ℕ
ready W sits ends i j = max W.clock (arrived W sits ends i j)

-- The minutes of a task that starts at t.
abbrev pub minutes_from : (t minutes : ℕ) → Interval
minutes_from t minutes = record { begin = t; end = t + minutes }

-- "Two intervals overlap when they have a minute in common": the larger begin is below the lower end. So one of no minutes overlaps nothing.
abbrev pub Overlap : Interval → Interval → Type 0
Overlap u v = max u.begin v.begin < min u.end v.end

-- A task can start at t: its minutes overlap nothing that is busy.
abbrev pub Free : List Interval → (minutes t : ℕ) → Type 0
Free busy minutes t = (v : Interval) → Memᴰ v busy → Overlap (minutes_from t minutes) v → ⊥

-- "Its start on j is the least minute, not before that, at which the task's minutes overlap no row already placed there and no window of j":
-- as it reads.
pub record Starts (busy : List Interval) (ready minutes t : ℕ) : Type 0 where
  pub not_before_ready : ready ≤ t
  pub overlaps_nothing : Free busy minutes t
  pub none_earlier : (u : ℕ) → ready ≤ u → Free busy minutes u → t ≤ u

-- The same as a number that computes; `start_is` (crate `laws`) says that it is that minute and no other.
unfoldable pub overlap : Interval → Interval → Bool
overlap u v = ltb (max u.begin v.begin) (min u.end v.end)

unfoldable pub free : List Interval → (minutes t : ℕ) → Bool
free [] minutes t = true
free (v ∷ busy) minutes t = not (overlap (minutes_from t minutes) v) && free busy minutes t

-- When all that is busy has ended.
unfoldable pub latest_end : List Interval → ℕ
latest_end [] = 0
latest_end (v ∷ busy) = max (latest_end busy) v.end

-- t where a task can start there and t is the lower, else the other minute.
unfoldable pub if_free : List Interval → (minutes t otherwise : ℕ) → ℕ
if_free busy minutes t otherwise = cond (free busy minutes t) (min t otherwise) otherwise

-- The least minute at which a task can start, of the ends of `some` from ready on; else when all has ended.
unfoldable pub least_end : List Interval → (ready minutes : ℕ) → (some : List Interval) → ℕ
least_end busy ready minutes [] = max ready (latest_end busy)
least_end busy ready minutes (v ∷ some) = if_free busy minutes (max ready v.end) (least_end busy ready minutes some)

-- The least of ready and of the ends of what the processor is busy with at which a task can start.
unfoldable pub start_on : List Interval → (ready minutes : ℕ) → ℕ
start_on busy ready minutes = if_free busy minutes ready (least_end busy ready minutes busy)
