-- Where the edges of a task begin, and those of the task before it end: edges rise by from.
use Rattle.std.specs.Prelude.{ℕ, zero, suc, ◌+◌, ◌-◌, ◌≤◌, ◌<◌, ◌≡◌, cond, List, eqb, length, get_or, set}
use Rattle.std.proofs.Common.{◌∙◌, length-set, eq-eqb, ne_eqb, arith, add-zero, ⊎_elim}
use Rattle.std.proofs.Math.Decide.{ℕ_discrete}
use Rattle.rules.specs.Workflow.{Workflow}
use Rattle.good.specs.Ranges.{InRange}
use Rattle.laws.specs.Numbers.{below_or_on}
use Rattle.laws.specs.Stores.{stored}

pub record Begins (W : Workflow) (task at : ℕ) : Type 0 where
  pub within : at ≤ W.edges
  pub before : (e : ℕ) → e < at → W.from e < task
  pub onward : (e : ℕ) → at ≤ e → e < W.edges → task ≤ W.from e

-- An array that has, for each task from `first` on, where its edges begin; for the number of tasks, where all edges end; and 0 past that.
pub record BeginsFrom (W : Workflow) (first : ℕ) (begins : List ℕ) : Type 0 where
  pub size : length begins ≡ 65
  pub begin : (task : ℕ) → first ≤ task → task ≤ W.tasks → Begins W task (get_or begins task 0)
  pub past : (task : ℕ) → W.tasks < task → get_or begins task 0 ≡ 0

-- One task more, on the way back.
pub begins_from : (W : Workflow) (task at : ℕ) (begins : List ℕ) → length begins ≡ 65 → task < 65 → task ≤ W.tasks
    → ((t : ℕ) → W.tasks < t → get_or begins t 0 ≡ 0) → Begins W task at
    → ((later : ℕ) → task + 1 ≤ later → later ≤ W.tasks → Begins W later (get_or begins later 0)) → BeginsFrom W task (set begins task at)
begins_from W task at begins size room is_task past here later =
    record {
      size = length-set begins task at ∙ size;
      begin = λ t l below. rw (stored begins task at 0 t (omega arith)) (go t l below (ℕ_discrete task t));
      past = λ t l. rw (stored begins task at 0 t (omega arith), ne_eqb task t (omega arith)) (past t l);
    }
  where
    go : (t : ℕ) → task ≤ t → t ≤ W.tasks → Dec (task ≡ t) → Begins W t (cond (eqb task t) at (get_or begins t 0))
    go t l below (yes e) = rw (eq-eqb task t e, ← e) here
    go t l below (no n) = rw (ne_eqb task t n) (later t (omega arith) below)

module _ (W : Workflow) (range : InRange W) where
  from_rises_by : (d e : ℕ) → e + d < W.edges → W.from e ≤ W.from (e + d)
  from_rises_by zero e l = rw (add-zero e) (omega arith)
  from_rises_by (suc d) e l =
      let onward : W.from e ≤ W.from (e + d) = from_rises_by d e (omega arith) in
      let step : W.from (e + d) ≤ W.from (e + d + 1) = range.from_rises (e + d) (omega arith) in
      let place : e + suc d ≡ e + d + 1 = omega arith in
      rw place (omega arith)

  from_rises_to : (e last : ℕ) → e ≤ last → last < W.edges → W.from e ≤ W.from last
  from_rises_to e last l below =
      let place : e + (last - e) ≡ last = omega arith in
      rw place at (from_rises_by (last - e) e (omega arith))

  -- Past the last task there are no edges.
  pub begins_at_end : Begins W W.tasks W.edges
  begins_at_end =
      record { within = omega arith; before = range.from_below; onward = λ e l m. absurd (omega arith) }

  module _ (task : ℕ) where
    -- Back to an edge of an earlier task, just before `at`.
    pub begins_after : (last at : ℕ) → last + 1 ≡ at → at ≤ W.edges → W.from last < task
        → ((e : ℕ) → at ≤ e → e < W.edges → task ≤ W.from e) → Begins W task at
    begins_after last at place within earlier onward =
        record { within = within; before = λ e l. omega (arith, from_rises_to e last (omega arith) (omega arith)); onward = onward }

    -- Back to the first edge.
    pub begins_at_start : ((e : ℕ) → 0 ≤ e → e < W.edges → task ≤ W.from e) → Begins W task 0
    begins_at_start onward = record { within = omega arith; before = λ e l. absurd (omega arith); onward = onward }

    -- One edge more passed, on the way back.
    pub onward_from : (at next : ℕ) → at + 1 ≡ next → task ≤ W.from at → ((e : ℕ) → next ≤ e → e < W.edges → task ≤ W.from e)
        → (e : ℕ) → at ≤ e → e < W.edges → task ≤ W.from e
    onward_from at next place here onward e l below =
        ⊎_elim (λ (q : e ≤ at). let same : e ≡ at = omega arith in rw same here) (λ (q : at + 1 ≤ e). onward e (omega arith) below)
        (below_or_on e at)

    -- The edges between where two tasks' edges begin.
    pub from_between : (begin end e : ℕ) → Begins W task begin → Begins W (task + 1) end → begin ≤ e → e < end → W.from e ≡ task
    from_between begin end e first last l below =
        omega (arith, first.onward e l (omega (arith, last.within)), last.before e below)
