-- "Once the cheapest total fits, the cheapest processor can always be taken": what is spent and the cheapest of what is left stay within the budget, at
-- every step of the placing. So there is always a processor that may be taken, and what the method takes may be.
use Rattle.std.specs.Prelude.{ℕ, ◌+◌, ◌≤◌, ◌<◌, ◌≡◌, false, List, length}
use Rattle.std.proofs.Math.Path.{subst}
use Rattle.std.proofs.Common.{le_refl}
use native.Mathlib.Omega.{arith}
use Rattle.rules.specs.Workflow.{Workflow}
use Rattle.rules.specs.Cycle.{Leads}
use Rattle.rules.specs.Ranks.{cost, lowest_cost, cheapest_total, next_task}
use Rattle.rules.specs.Rows.{Placed, is_placed, spent}
use Rattle.rules.specs.Method.{Question, Method, best, HBCS}
use Rattle.rules.specs.Placing.{RB, RCB, question, row_on, place}
use Rattle.laws.specs.Unmarked.{sum_unmarked, sum_unmarked_less}
use Rattle.laws.specs.NextTask.{EdgesBegin}
use Rattle.demands.specs.Ground.MethodLaws.{ChoosesProcessors, LeavesEnough, CheapestLeavesEnough, KeepsWithin}
use Rattle.demands.specs.Ground.Best.{MayBeTaken, may_of_test}
use Rattle.demands.specs.Demand2.HBCSChoice.{cheapest_may_be_taken, HBCS_chooses_processors, HBCS_may_be_taken, HBCS_keeps_within}
use Rattle.demands.specs.Demand2.Built.{Built, at_first, one_more, next_may, place_built}

-- No processor has a lower cost for task i than j has.
pub record CheapestFor (W : Workflow) (i j : ℕ) : Type 0 where
  pub processor : j < W.processors
  pub lowest : (k : ℕ) → k < W.processors → cost W i j ≤ cost W i k

-- What is spent, and the lowest costs of the tasks still to come.
abbrev pub Affordable : Workflow → List Placed → Type 0
Affordable W rows = spent rows + sum_unmarked W.tasks (is_placed rows) (lowest_cost W) ≤ W.budget

-- Then a task that is left can have its lowest cost.
enough_left :
    (W : Workflow) (rows : List Placed) → Affordable W rows → (i : ℕ) → i < W.tasks → is_placed rows i ≡ false
    → CheapestLeavesEnough (question W rows i)
unfolding question RB RCB lowest_cost
enough_left W rows fits i task free = omega (arith, sum_unmarked_less (is_placed rows) (lowest_cost W) W.tasks i task free)

pub record AllPlaced (M : Method) (W : Workflow) (rows : List Placed) : Type 0 where
  pub built : Built M W rows
  pub count : length rows ≡ W.tasks
  pub fits : Affordable W rows

module _ (M : Method) (W : Workflow) (keeps : KeepsWithin M) (some : 1 ≤ W.processors) (within : cheapest_total W ≤ W.budget) where
  pub stays_affordable : {rows : List Placed} → Built M W rows → Affordable W rows
  unfolding question RB RCB lowest_cost is_placed spent row_on
  stays_affordable at_first = unfold cheapest_total in omega arith
  stays_affordable (one_more {before = before} {i = i} built next) =
      let fits = stays_affordable built in
      let q = question W before i in
      let kept = subst (LeavesEnough q) next.chosen (keeps q some (enough_left W before fits i next.task next.may.left)) in
      omega (arith, kept, sum_unmarked_less (is_placed before) (lowest_cost W) W.tasks i next.task next.may.left)

  -- All tasks are placed.
  pub places_all : EdgesBegin W → ((i : ℕ) → Leads W i i → ⊥) → ChoosesProcessors M → AllPlaced M W (place M W W.tasks)
  places_all begin acyclic chooses =
      let (built, count) = place_built M W begin acyclic chooses some W.tasks (le_refl W.tasks) in
      record { built = built; count = count; fits = stays_affordable built }

module _ (W : Workflow) (some : 1 ≤ W.processors) (within : cheapest_total W ≤ W.budget) where
  pub HBCS_places_all : EdgesBegin W → ((i : ℕ) → Leads W i i → ⊥) → AllPlaced HBCS W (place HBCS W W.tasks)
  HBCS_places_all begin acyclic = places_all HBCS W HBCS_keeps_within some within begin acyclic HBCS_chooses_processors

  pub HBCS_enough_left :
      {rows : List Placed} → Built HBCS W rows → (i : ℕ) → i < W.tasks → is_placed rows i ≡ false → CheapestLeavesEnough (question W rows i)
  HBCS_enough_left built = enough_left W _ (stays_affordable HBCS W HBCS_keeps_within some within built)

  -- At every step of the placing: k tasks are placed, and the next is in hand.
  module _ (begin : EdgesBegin W) (acyclic : (i : ℕ) → Leads W i i → ⊥) (k : ℕ) (more : k < W.tasks) where
    abbrev in_hand : ℕ
    in_hand = next_task W (is_placed (place HBCS W k))

    abbrev asked : Question
    asked = question W (place HBCS W k) in_hand

    enough : CheapestLeavesEnough asked
    enough =
        let (built, count) = place_built HBCS W begin acyclic HBCS_chooses_processors some k (omega arith) in
        let (task, may) = next_may HBCS W begin acyclic (place HBCS W k) built (omega arith) in
        HBCS_enough_left built in_hand task may.left

    -- The cheapest processor can be taken, and each where there are several;
    pub cheapest_can_always_be_taken : (j : ℕ) → CheapestFor W in_hand j → MayBeTaken asked (best asked) j
    unfolding question
    cheapest_can_always_be_taken j cheapest = cheapest_may_be_taken asked enough j cheapest.processor cheapest.lowest

    -- and so can what the method takes.
    pub what_is_taken_may_be : MayBeTaken asked (best asked) (HBCS asked)
    unfolding question
    what_is_taken_may_be = may_of_test asked (HBCS asked) (HBCS_chooses_processors asked some) (HBCS_may_be_taken asked some enough)
