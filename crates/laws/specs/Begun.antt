-- A workflow that begins otherwise: its budget and its deadline, what its processors are busy with at first, and its clock, handed in. So what is in force can
-- be, a board's bookings and clock, and a request's own windows are. What is said of tasks, edges and costs stays.
use Prim.Native.Nat.{ℕ, zero, suc, ◌+◌, ◌≤◌, ◌<◌}
use Rattle.std.specs.Prelude.{◌≡◌, Bool, cond, eqb}
use Rattle.std.proofs.Math.Path.{refl, sym, ap, fun_ext}
use Rattle.std.proofs.Common.{◌∙◌}
use Rattle.std.proofs.Math.Bool.{true, false}
use mathlib.Core.List.{List, [], ◌∷◌}
use Rattle.rules.specs.Folds.{any}
use Rattle.rules.specs.Orders as orders
use Rattle.rules.specs.Orders.{tie, higher, first}
use Rattle.rules.specs.Reading.{Deadline}
use Rattle.rules.specs.Workflow.{Interval, Workflow, busy_with}
use Rattle.rules.specs.Cycle.{Leads, edge, along, linked, leads_through, back_to_itself, cyclic, lowest_in_cycle}
use Rattle.rules.specs.Ranks.{cost, lowest_cost, rank_by, rank_within, R, waits, may_be_next, next_task}
use Rattle.rules.specs.Start.{arrival, arrived, ready}
use Rattle.rules.specs.Rows.{Placed, is_placed, taken_up, busy}
use Rattle.rules.specs.Method.{Method}
use Rattle.rules.specs.Placing.{ready_for, start_of, finish_of, RB, RCB, question, row_on, place_task, place_next, place}
use Rattle.laws.specs.SameStart.{SameStart, same_start_more}
use Rattle.laws.specs.Method.{ChoosesAmong}

unfoldable pub begun : (budget : ℕ) → Deadline → (ℕ → List Interval) → (clock : ℕ) → Workflow → Workflow
begun budget deadline busy_at_first clock W =
    record {
      tasks = W.tasks;
      processors = W.processors;
      budget = budget;
      deadline = deadline;
      price = W.price;
      minimum = W.minimum;
      busy_at_first = busy_at_first;
      clock = clock;
      minutes = W.minutes;
      edges = W.edges;
      from = W.from;
      to = W.to;
      transfer = W.transfer;
    }

module _ (budget : ℕ) (deadline : Deadline) (f : ℕ → List Interval) (clock : ℕ) (W : Workflow) where
  abbrev so : Workflow
  so = begun budget deadline f clock W

  -- Ranks don't depend on that.
  rank_begun : (most : ℕ) → rank_within so most ≡ rank_within W most
  unfolding rank_within rank_by begun
  rank_begun zero = refl
  rank_begun (suc most) = ap (rank_by W) (rank_begun most)

  pub R_begun : R so ≡ R W
  unfolding R begun
  R_begun = rank_begun W.tasks

  -- Nor do paths.
  leads_begun : {i k : ℕ} → Leads so i k → Leads W i k
  unfolding begun
  leads_begun (edge e l) = edge e l
  leads_begun (along e l p) = along e l (leads_begun p)

  pub acyclic_begun : ((i : ℕ) → Leads W i i → ⊥) → (i : ℕ) → Leads so i i → ⊥
  acyclic_begun acyclic i p = acyclic i (leads_begun p)

  through_begun : (between i k : ℕ) → leads_through so between i k ≡ leads_through W between i k
  unfolding leads_through linked begun
  through_begun zero i k = refl
  through_begun (suc between) i k = rw (through_begun between i k, through_begun between i between, through_begun between between k) refl

  back_begun : back_to_itself so ≡ back_to_itself W
  unfolding back_to_itself begun
  back_begun = fun_ext (λ i. through_begun W.tasks i i)

  pub cyclic_begun : cyclic so ≡ cyclic W
  unfolding cyclic begun
  cyclic_begun = ap (any W.tasks) back_begun

  pub lowest_in_cycle_begun : lowest_in_cycle so ≡ lowest_in_cycle W
  unfolding lowest_in_cycle begun
  lowest_in_cycle_begun = ap (λ back. first W.tasks (orders.among back tie)) back_begun

-- Where each processor is busy at first with what gives the same starts, the tasks are placed alike; whatever the deadline.
module _ {M : Method} (among : ChoosesAmong M) (W : Workflow) (some : 1 ≤ W.processors) (budget clock : ℕ) (d d' : Deadline) (f g : ℕ → List Interval)
    (alike : (j : ℕ) → j < W.processors → SameStart (f j) (g j)) where
  abbrev one : Workflow
  one = begun budget d f clock W

  abbrev other : Workflow
  other = begun budget d' g clock W

  busy_alike : (rows : List Placed) (j : ℕ) → j < W.processors → SameStart (busy one rows j) (busy other rows j)
  unfolding busy busy_with begun
  busy_alike [] j l = alike j l
  busy_alike (p ∷ rows) j l = either (eqb p.row.processor j) (busy_alike rows j l)
    where
      either :
          (t : Bool) → SameStart (busy one rows j) (busy other rows j)
          → SameStart (cond t (taken_up p.row ∷ busy one rows j) (busy one rows j))
          (cond t (taken_up p.row ∷ busy other rows j) (busy other rows j))
      either true same = same_start_more (taken_up p.row) _ _ same
      either false same = same

  module _ (rows : List Placed) where
    start_alike : (i j : ℕ) → j < W.processors → start_of one rows i j ≡ start_of other rows i j
    unfolding start_of ready_for ready arrived arrival begun
    start_alike i j l = busy_alike rows j l _ _

    finish_alike : (i j : ℕ) → j < W.processors → finish_of one rows i j ≡ finish_of other rows i j
    unfolding finish_of begun
    finish_alike i j l = ap (λ t. t + W.minutes i j) (start_alike i j l)

    choice_alike : (i : ℕ) → M (question one rows i) ≡ M (question other rows i)
    unfolding question RB RCB cost lowest_cost begun
    choice_alike i =
        among.alike _ _ some (record { processors = refl; cost = λ j l. refl; finish = λ j l. finish_alike i j l; RB = refl; RCB = refl })

    row_alike : (i j : ℕ) → j < W.processors → row_on one rows i j ≡ row_on other rows i j
    unfolding row_on cost begun
    row_alike i j l =
        λ t. record { processor = j; start = start_alike i j l t; finish = finish_alike i j l t; cost = cost W i j }

    same_task : next_task one (is_placed rows) ≡ next_task other (is_placed rows)
    unfolding next_task may_be_next waits begun
    same_task =
        ap (λ r. first W.tasks (orders.among (may_be_next W (is_placed rows)) (higher r tie))) (R_begun budget d f clock W ∙ sym (R_begun budget d' g clock W))

    taken : (i : ℕ) → M (question other rows i) < W.processors
    unfolding question begun
    taken i = among.takes_processor _ some

    task_alike : (i : ℕ) → place_task M one rows i ≡ place_task M other rows i
    unfolding place_task
    task_alike i =
        ap (λ r. record { task = i; row = r } ∷ rows)
        (ap (row_on one rows i) (choice_alike i) ∙ row_alike i (M (question other rows i)) (taken i))

    next_alike : place_next M one rows ≡ place_next M other rows
    unfolding place_next
    next_alike = ap (place_task M one rows) same_task ∙ task_alike (next_task other (is_placed rows))

  pub place_begun : (k : ℕ) → place M one k ≡ place M other k
  unfolding place
  place_begun zero = refl
  place_begun (suc k) = ap (place_next M one) (place_begun k) ∙ next_alike (place M other k)
