-- A request without zeros gets what document 01's order gives: every plan, row and refusal. There a task's R is above each successor's, so that of the tasks
-- left the one with the highest R has all its predecessors placed. With zeros this fails: a marker would start before its input has arrived.
use Prim.Native.Nat.{ℕ, zero, suc, ◌≤◌, ◌<◌}
use Rattle.std.specs.Prelude.{◌≡◌, Bool, true, List, [], ◌∷◌, length}
use Rattle.std.proofs.Math.Path.{refl, ap}
use Rattle.std.proofs.Common.{◌∙◌, arith}
use Rattle.std.proofs.Math.Bool.{false, not}
use borrow.Author.Tests.{not-true}
use Rattle.rules.specs.Orders.{tie, higher, among, first}
use Rattle.rules.specs.Records.{Read, read, stopped}
use Rattle.rules.specs.Reading.{Request, read_request}
use Rattle.rules.specs.Workflow.{Workflow, workflow}
use Rattle.rules.specs.Cycle.{Leads, cyclic}
use Rattle.rules.specs.Ranks.{R, next_task}
use Rattle.rules.specs.Method.{Method, Name, by_HBCS, by_cheapest, by_HEFT, method}
use Rattle.rules.specs.Rows.{Row, Placed, is_placed}
use Rattle.rules.specs.Placing.{place_task, place_next, place}
use Rattle.rules.specs.Budget.{in_force, unbound, held_to, workflow_for}
use Rattle.rules.specs.Answer.{Outcome, refusal, refuse, checked, outcome_of, outcome_by, outcome_read, outcome_asked, answer_of, answer_asked, written}
use Rattle.rules.specs.Answer.{rows_asked, rows_after}
use Rattle.rules.specs.Buffers.{Buffers, rows_lent, buffers_written, buffers_asked}
use Rattle.rules.specs.Cases.{given, four_rows, row}
use Rattle.rules.specs.Corners.{alone, chain, marker_before}
use Rattle.laws.specs.Tests.{true_unless_false}
use Rattle.laws.specs.Folds.{at_most_sum}
use Rattle.laws.specs.First.{first_below, first_passes}
use Rattle.laws.specs.Unmarked.{count_unmarked, some_unmarked}
use Rattle.laws.specs.NextTask.{MayBeNext, next_task_may}
use Rattle.laws.specs.Cycles.{none_leads_back}
use Rattle.laws.specs.Method.{method_chooses_among}
use Rattle.demands.specs.Ground.GoodWorkflow.{GoodWorkflow, good_workflow}
use Rattle.demands.specs.Ground.MethodLaws.{ChoosesProcessors}
use Rattle.demands.specs.Demand2.Order.{Highest, first_highest, highest_settled, next_task_highest, R_at_least}
use Rattle.demands.specs.Demand2.Built.{built_count, place_built}

-- Document 01's order: tasks are placed by falling R; equal R, lower number first.
unfoldable pub next_by_rank : Workflow → (ℕ → Bool) → ℕ
next_by_rank W placed = first W.tasks (among (λ i. not (placed i)) (higher (R W) tie))

-- The first k tasks of that order, each placed as ever.
unfoldable pub place_by_rank : Method → Workflow → ℕ → List Placed
place_by_rank M W zero = []
place_by_rank M W (suc k) = let so_far = place_by_rank M W k in place_task M W so_far (next_by_rank W (is_placed so_far))

-- What is decided by that order, for any input.
unfoldable pub outcome_read_by_rank : Name → List ℕ → Read Request → ℕ → Outcome
outcome_read_by_rank M s (read next r) lent = let W = workflow_for M s r in outcome_of M W lent (place_by_rank (method M) W W.tasks)
outcome_read_by_rank M s (stopped number place) lent = refusal number place

unfoldable pub outcome_by_rank : Name → List ℕ → ℕ → Outcome
outcome_by_rank M s lent = outcome_read_by_rank M s (read_request s) lent

-- Every task takes a minute or more on every processor.
abbrev pub NoZeros : Workflow → Type 0
NoZeros W = (i j : ℕ) → i < W.tasks → j < W.processors → 1 ≤ W.minutes i j

module _ (W : Workflow) (good : GoodWorkflow W) (acyclic : (i : ℕ) → Leads W i i → ⊥) (minutes : NoZeros W) where
  -- A task's R is above each successor's.
  R_falls : (e : ℕ) → e < W.edges → R W (W.to e) < R W (W.from e)
  R_falls e l =
      let own = at_most_sum W.processors (W.minutes (W.from e)) 0 good.processors in
      omega (arith, R_at_least W good acyclic e l, minutes (W.from e) 0 (good.from e l) good.processors)

  module _ (placed : ℕ → Bool) (left : 1 ≤ count_unmarked W.tasks placed) where
    -- Document 01's next task is a task that is left, and of those it has the highest R and then the lowest number.
    by_rank_free : (next_by_rank W placed < W.tasks) × (placed (next_by_rank W placed) ≡ false)
    unfolding next_by_rank
    by_rank_free =
        let (i, below, free) = some_unmarked placed W.tasks left in
        (first_below W.tasks _ (omega arith), not-true _ (first_passes (λ t. not (placed t)) _ W.tasks i below (ap not free)))

    by_rank_highest : Highest W (λ k. placed k ≡ false) (next_by_rank W placed)
    unfolding next_by_rank
    by_rank_highest = first_highest W (λ k. not (placed k)) (λ k. placed k ≡ false) (λ k. ap not)

    -- So its predecessors, whose R is higher, are placed; and it is the next.
    by_rank_may : MayBeNext W placed (next_by_rank W placed)
    by_rank_may =
        record {
          left = by_rank_free.1;
          predecessors_placed = λ e l to.
              true_unless_false (placed (W.from e)) (λ free.
              omega (arith, R_falls e l, ap (R W) to, by_rank_highest.highest (W.from e) (good.from e l) free));
        }

    pub next_as_by_rank : next_task W placed ≡ next_by_rank W placed
    next_as_by_rank =
        let (task, may) = next_task_may W placed good.from acyclic left in
        highest_settled W (MayBeNext W placed) _ _ task by_rank_free.0 may by_rank_may (next_task_highest W placed)
        (record {
          highest = λ k below k_may. by_rank_highest.highest k below k_may.left;
          then_lowest = λ k below k_may. by_rank_highest.then_lowest k below k_may.left;
        })

  -- By any method whose choices are processors.
  pub place_as_by_rank : (M : Method) → ChoosesProcessors M → (k : ℕ) → k ≤ W.tasks → place M W k ≡ place_by_rank M W k
  unfolding place place_next place_by_rank
  place_as_by_rank M chooses zero l = refl
  place_as_by_rank M chooses (suc k) l =
      let (built, count) = place_built M W good.from acyclic chooses good.processors k (omega arith) in
      let left : 1 ≤ count_unmarked W.tasks (is_placed (place M W k)) = omega (arith, built_count M W built) in
      ap (place_task M W (place M W k)) (next_as_by_rank (is_placed (place M W k)) left)
      ∙ ap (λ rows. place_task M W rows (next_by_rank W (is_placed rows))) (place_as_by_rank M chooses k (omega arith))

-- With a cycle it is refused before any task is placed.
outcome_as_by_rank :
    (M : Name) (W : Workflow) → GoodWorkflow W → NoZeros W → (lent : ℕ) → outcome_by M W lent ≡ outcome_of M W lent (place_by_rank (method M) W W.tasks)
unfolding outcome_by
outcome_as_by_rank M W good minutes lent = go (cyclic W) refl
  where
    go : (t : Bool) → cyclic W ≡ t → outcome_of M W lent (place (method M) W W.tasks) ≡ outcome_of M W lent (place_by_rank (method M) W W.tasks)
    go true cycle = unfold outcome_of checked refuse in rw cycle
    go false none =
        ap (outcome_of M W lent)
        (place_as_by_rank W good (none_leads_back W good.to none) minutes (method M) (method_chooses_among M).takes_processor W.tasks (omega arith))

-- A request without zeros: if it passes reading, no minutes in it are 0.
abbrev pub WithoutZeros : List ℕ → Type 0
WithoutZeros s = (end : ℕ) (r : Request) → read_request s ≡ read end r → NoZeros (workflow s r)

no_zeros_held : (M : Name) (s : List ℕ) (r : Request) → NoZeros (workflow s r) → NoZeros (workflow_for M s r)
unfolding held_to unbound in_force
no_zeros_held by_HBCS s r minutes = minutes
no_zeros_held by_cheapest s r minutes = minutes
no_zeros_held by_HEFT s r minutes = minutes

module _ (M : Name) (s : List ℕ) (minutes : WithoutZeros s) where
  pub outcome_kept : (lent : ℕ) → outcome_asked M s lent ≡ outcome_by_rank M s lent
  unfolding outcome_asked outcome_by_rank outcome_read outcome_read_by_rank
  outcome_kept lent = go (read_request s) refl
    where
      go : (x : Read Request) → read_request s ≡ x → outcome_read M s x lent ≡ outcome_read_by_rank M s x lent
      go (read end r) is = outcome_as_by_rank M (workflow_for M s r) (good_workflow M s is) (no_zeros_held M s r (minutes end r is)) lent
      go (stopped number place) is = refl

  -- So the answer, the rows and the buffers.
  pub answer_kept : (lent : ℕ) → answer_asked M s lent ≡ answer_of (outcome_by_rank M s lent)
  unfolding answer_asked
  answer_kept lent = ap answer_of (outcome_kept lent)

  pub rows_kept : (lent : List Row) → rows_asked M s lent ≡ written (outcome_by_rank M s (length lent)) lent
  unfolding rows_asked
  rows_kept lent = ap (λ o. written o lent) (outcome_kept (length lent))

  pub buffers_kept : (lent : Buffers) → buffers_asked M s lent ≡ buffers_written (outcome_by_rank M s (rows_lent lent)) lent
  unfolding buffers_asked
  buffers_kept lent = ap (λ o. buffers_written o lent) (outcome_kept (rows_lent lent))

-- With zeros it need not: marker 0 waits for marker 1, which waits for task 2. By document 01's order it would start at 0; its data is there at 5.
pub marker_by_rank :
    (rows_after marker_before four_rows ≡ row 0 5 5 0 ∷ row 0 5 5 0 ∷ row 0 0 5 5 ∷ row 94 10 11 12 ∷ [])
    × (written (outcome_by_rank by_HBCS marker_before 4) four_rows ≡ row 0 0 0 0 ∷ row 0 5 5 0 ∷ row 0 0 5 5 ∷ row 94 10 11 12 ∷ [])
unfolding given alone chain marker_before next_by_rank place_by_rank outcome_read_by_rank outcome_by_rank
marker_by_rank = (refl, refl)
