-- Reading a request: "Records are checked from the front and the first fault ends reading."
use Rattle.std.specs.Prelude.{ℕ, suc, zero, ◌+◌, Bool, true, false, cond, List, length, ltb, eqb}
use Rattle.rules.specs.Fields.{Kind, D, K, M, E, kind_byte, size, byte, H_tasks, H_processors, H_budget, D_deadline, K_share}
use Rattle.rules.specs.Records.{Record, Read, read, stopped, header_at, deadline_at, share_at, processor_at, window_at, task_at, minutes_at, edge_at}
use Rattle.rules.specs.Records.{end_at}

-- "a refusal is handed straight up"; what was read goes to the next step, with the place past it.
unfoldable pub then : {A B : Type 0} → Read A → (ℕ → A → Read B) → Read B
then (read next a) step = step next a
then (stopped number place) step = stopped number place

-- The first k of the parts that `part` reads, each from where the one before ends.
unfoldable pub each : {A : Type 0} → (ℕ → ℕ → Read A) → ℕ → ℕ → Read (Unit {0})
each part at zero = read at tt
each part at (suc k) = then (each part at k) (λ next _. then (part next k) (λ after _. read after tt))

-- "No `D` means no deadline."
pub data Deadline : Type 0 where
  no_deadline : Deadline
  by : ℕ → Deadline

-- "No `K` means the budget of `H`."
pub data Share : Type 0 where
  no_share : Share
  thousandths : ℕ → Share

-- "at most one" of a kind: what is given by the record that stands there, and what holds without one.
unfoldable pub optional : {A : Type 0} → List ℕ → Kind → Read Record → (at : ℕ) → (given without : A) → Read A
optional s kind part at given without = cond (eqb (byte s at) (kind_byte kind)) (then part (λ next _. read next given)) (read at without)

-- "`H`; at most one `D`; at most one `K`": after `H` a `D`, a `K` or the first processor record is due; after a `D` a `K` or that; after a `K` only that.
unfoldable pub deadline_part : List ℕ → ℕ → Read Deadline
deadline_part s at = optional s D (deadline_at s at) at (by (D_deadline s at)) no_deadline

unfoldable pub share_part : List ℕ → (budget at : ℕ) → Read Share
share_part s budget at = optional s K (share_at s budget at) at (thousandths (K_share s at)) no_share

-- "`P` or `Q` for 0 to m-1"
unfoldable pub prices_part : List ℕ → ℕ → ℕ → Read (Unit {0})
prices_part s m at = each (processor_at s) at m

-- 1 more than what `later` counts, where the test holds; else 0, and what comes later is not looked at.
unfoldable pub counted : Bool → (later : Unit {0} → ℕ) → ℕ
counted true later = suc (later tt)
counted false later = 0

-- How many of the next `most` records, each as long as this kind's, are of this kind, before one of another.
unfoldable pub how_many : List ℕ → Kind → (at most : ℕ) → ℕ
how_many s kind at zero = 0
how_many s kind at (suc most) = counted (eqb (byte s at) (kind_byte kind)) (λ _. how_many s kind (at + size kind) most)

-- "any number of" one kind "within the limit": those that stand there, and how many. One more than the limit is never read, so that no more need be
-- looked for (`edges_enough` and `windows_enough`, crate `good`).
unfoldable pub run_part : List ℕ → Kind → (ℕ → ℕ → Read Record) → (at most : ℕ) → Read ℕ
run_part s kind part at most =
    let k = how_many s kind at most in
    then (each part at k) (λ next _. read next k)

-- "any number of `M` within the limit": four for each of 16 processors.
unfoldable pub windows_part : List ℕ → ℕ → ℕ → Read ℕ
windows_part s m at = run_part s M (window_at s m) at 65

-- "for each task 0 to n-1 its `T` followed by `W` for processors 0 to m-1"
unfoldable pub task_part : List ℕ → ℕ → ℕ → ℕ → Read (Unit {0})
task_part s m at i = then (task_at s at i) (λ next _. each (λ place j. minutes_at s place i j) next m)

unfoldable pub tasks_part : List ℕ → ℕ → ℕ → ℕ → Read (Unit {0})
tasks_part s n m at = each (task_part s m) at n

-- "any number of `E` within the limit"
unfoldable pub edges_part : List ℕ → ℕ → ℕ → Read ℕ
edges_part s n at = run_part s E (edge_at s n) at 513

-- A good request: "one not refused with 1 to 6". Its numbers, and where its parts begin.
pub record Request : Type 0 where
  pub tasks : ℕ
  pub processors : ℕ
  pub budget : ℕ
  pub deadline : Deadline
  pub share : Share
  pub prices_at : ℕ
  pub windows_at : ℕ
  pub windows : ℕ
  pub tasks_at : ℕ
  pub edges_at : ℕ
  pub edges : ℕ

-- "then `Z`; then nothing": 6, "offset of the first of them".
unfoldable pub nothing_after : List ℕ → ℕ → Request → Read Request
nothing_after s at r = cond (ltb at (length s)) (stopped 6 at) (read at r)

-- The order of the records.
unfoldable pub read_request : List ℕ → Read Request
read_request s =
    let n = H_tasks s 0 in
    let m = H_processors s 0 in
    then (header_at s 0)
    (λ after_header _.
    then (deadline_part s after_header)
    (λ after_deadline deadline.
    then (share_part s (H_budget s 0) after_deadline)
    (λ prices_at share.
    then (prices_part s m prices_at)
    (λ windows_at _.
    then (windows_part s m windows_at)
    (λ tasks_at windows.
    then (tasks_part s n m tasks_at)
    (λ edges_at _.
    then (edges_part s n edges_at)
    (λ after_edges edges.
    then (end_at s after_edges)
    (λ after_end _.
    nothing_after s after_end
    (record {
      tasks = n;
      processors = m;
      budget = H_budget s 0;
      deadline = deadline;
      share = share;
      prices_at = prices_at;
      windows_at = windows_at;
      windows = windows;
      tasks_at = tasks_at;
      edges_at = edges_at;
      edges = edges;
    })))))))))
