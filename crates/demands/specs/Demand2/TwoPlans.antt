-- The two plans that a budget is set between, and the budget that a `K` sets. The cheapest plan costs the cheapest total, and no choice of processors costs less; each
-- task of the HEFT plan is on the processor that finishes it first. With a `K` the cheapest total fits, so that 9 cannot come; at 0 the plan costs just that, and at 1,000
-- the budget is what the HEFT plan costs.
use Rattle.std.specs.Prelude.{ℕ, ◌+◌, ◌-◌, ◌≤◌, ◌<◌, ◌≡◌, refl, List, [], ◌∷◌}
use Rattle.std.proofs.Common.{sym, subst, ◌∙◌, le_refl, mul-le-mul_right, arith}
use Rattle.std.proofs.Math.Path.{ap}
use Rattle.rules.specs.Folds.{sum, lowest}
use Rattle.rules.specs.Records.{read}
use Rattle.rules.specs.Reading.{no_deadline, no_share, thousandths, Request, read_request}
use Rattle.rules.specs.Workflow.{Workflow, workflow}
use Rattle.rules.specs.Cycle.{Leads}
use Rattle.rules.specs.Ranks.{cost, lowest_cost, cheapest_total}
use Rattle.rules.specs.Rows.{Row, Placed, row_of, is_placed, spent}
use Rattle.rules.specs.Method.{Cheapest, HEFT, Name, by_HBCS, by_cheapest, by_HEFT, method}
use Rattle.rules.specs.Placing.{finish_of, question, row_on, place}
use Rattle.rules.specs.Budget.{in_force, unbound, cost_alone, budget_between, budget_of, held_to, workflow_for}
use Rattle.rules.specs.Answer.{refused, answer}
use Rattle.good.specs.ReadIsGood.{read_is_good}
use Rattle.laws.specs.Folds.{sum_same}
use Rattle.laws.specs.Unmarked.{sum_unmarked, sum_unmarked_less}
use Rattle.laws.specs.Begun.{begun, acyclic_begun}
use Rattle.laws.specs.Method.{first_is_lowest, method_chooses_among}
use Rattle.demands.specs.Ground.GoodWorkflow.{GoodWorkflow, good_workflow}
use Rattle.demands.specs.Demand1.Stands.{PassesReading}
use Rattle.demands.specs.Demand1.Reading.{read_iff_passes}
use Rattle.demands.specs.Demand2.{PlanGot}
use Rattle.demands.specs.Demand2.Built.{Built, at_first, one_more, place_built}
use Rattle.demands.specs.Demand2.Cheapest.{Assignment, costs_in_all, cheapest_at_most_any, cheapest_attained}
use Rattle.demands.specs.Demand2.Steps.{EachStep, AsTheMethod}
use Rattle.demands.specs.Demand2.WhatIsDue.{methods_plan}
use Rattle.demands.specs.Demand2.DueSettled.{costs_at_least, place_settled}
use Rattle.demands.specs.Demand2.RefusalNine.{nine_iff_no_choice_within_budget}

-- What is spent, and the lowest costs of the tasks still to come, is the cheapest total at every step.
cheapest_spends :
    (W : Workflow) {rows : List Placed} → Built Cheapest W rows
    → spent rows + sum_unmarked W.tasks (is_placed rows) (lowest_cost W) ≡ cheapest_total W
unfolding cheapest_total lowest_cost is_placed spent row_on question Cheapest
cheapest_spends W at_first = omega arith
cheapest_spends W (one_more {before = before} {i = i} {j = j} built next) =
    let taken : cost W i j ≡ lowest W.processors (cost W i) =
    subst (λ k. cost W i k ≡ lowest W.processors (cost W i)) next.chosen (first_is_lowest (cost W i) _ W.processors) in
    omega (arith, cheapest_spends W built, taken, sum_unmarked_less (is_placed before) (lowest_cost W) W.tasks i next.task next.may.left)

module _ (W : Workflow) (good : GoodWorkflow W) (acyclic : (i : ℕ) → Leads W i i → ⊥) where
  -- The cheapest plan costs the cheapest total,
  pub cheapest_place_costs : spent (place Cheapest W W.tasks) ≡ cheapest_total W
  unfolding method
  cheapest_place_costs =
      let takes = (method_chooses_among by_cheapest).takes_processor in
      let (built, count) = place_built Cheapest W good.from acyclic takes good.processors W.tasks (le_refl W.tasks) in
      omega (arith, cheapest_spends W built, costs_at_least (methods_plan W good by_cheapest acyclic tt))

  -- and the HEFT plan at least that.
  pub HEFT_place_costs : cheapest_total W ≤ spent (place HEFT W W.tasks)
  unfolding method
  HEFT_place_costs = costs_at_least (methods_plan W good by_HEFT acyclic tt)

-- The same of a workflow with nothing in force.
module _ (W : Workflow) (good : GoodWorkflow W) (acyclic : (i : ℕ) → Leads W i i → ⊥) where
  unbound_good : GoodWorkflow (unbound W)
  unfolding unbound in_force
  unbound_good = record { processors = good.processors; from = good.from; to = good.to }

  unbound_acyclic : (i : ℕ) → Leads (unbound W) i i → ⊥
  unfolding unbound in_force begun
  unbound_acyclic = acyclic_begun 0 no_deadline W.busy_at_first W.clock W acyclic

  pub cheapest_plan_costs : cost_alone Cheapest W ≡ cheapest_total W
  unfolding cost_alone unbound in_force cheapest_total lowest_cost cost
  cheapest_plan_costs = cheapest_place_costs (unbound W) unbound_good unbound_acyclic

  pub HEFT_plan_costs : cheapest_total W ≤ cost_alone HEFT W
  unfolding cost_alone unbound in_force cheapest_total lowest_cost cost
  HEFT_plan_costs = HEFT_place_costs (unbound W) unbound_good unbound_acyclic

-- What a plan that the caller holds costs is what its rows do.
held_costs :
    {M : Name} {s : List ℕ} {lent n l c left : ℕ} {row : ℕ → Row} (got : PlanGot M s lent n l c left row) → c ≡ spent got.held.placed
held_costs {n = n} got =
    got.held.cost_sum
    ∙ sum_same n _ _ (λ i below. ap (λ r. r.cost) (got.held.rows_placed i below))
    ∙ ap (λ k. sum k (λ i. (row_of got.held.placed i).cost)) got.held.tasks
    ∙ sym got.held.methods_plan.cost_sum

-- The cheapest plan, of the request as it was read: "no choice of machines" is cheaper.
pub record CheapestPlan (s : List ℕ) (r : Request) (c : ℕ) : Type 0 where
  pub costs : c ≡ cheapest_total (workflow s r)
  pub none_cheaper : (on : ℕ → ℕ) → Assignment (workflow s r) on → c ≤ costs_in_all (workflow s r) on

pub cheapest_plan :
    {s : List ℕ} {lent n l c left : ℕ} {row : ℕ → Row} (got : PlanGot by_cheapest s lent n l c left row) → CheapestPlan s got.request c
unfolding method held_to unbound in_force cheapest_total lowest_cost cost
cheapest_plan {s} {c = c} got =
    let W = workflow_for by_cheapest s got.request in
    let (end, is) = (read_iff_passes s got.request).1 got.passes in
    let good = good_workflow by_cheapest s is in
    let its_rows = place_settled W good by_cheapest got.placeable.acyclic tt got.held.placed got.held.methods_plan in
    let total : c ≡ cheapest_total (workflow s got.request) =
    held_costs got ∙ ap spent (sym its_rows) ∙ cheapest_place_costs W good got.placeable.acyclic in
    record {
      costs = total;
      none_cheaper = λ on each. omega (arith, total, cheapest_at_most_any (workflow s got.request) on each);
    }

-- "the plain HEFT plan (each task to best)": on no processor would the task in hand finish earlier.
abbrev pub FinishesFirst : Workflow → List Placed → Placed → Type 0
FinishesFirst W before p = (j : ℕ) → j < W.processors → p.row.finish ≤ finish_of W before p.task j

finish_first : (W : Workflow) (rows : List Placed) → EachStep (AsTheMethod by_HEFT W) rows → EachStep (FinishesFirst W) rows
unfolding question row_on
finish_first W [] steps = tt
finish_first W (p ∷ before) (step, steps) = (
  λ j l. omega (arith, ap (λ r. r.finish) step.row, step.chosen.lowest j l),
  finish_first W before steps,
)

-- Each task of the HEFT plan that the caller holds; and what it costs.
pub record HEFTPlan (s : List ℕ) (r : Request) (c : ℕ) (placed : List Placed) : Type 0 where
  pub finishes_first : EachStep (FinishesFirst (workflow_for by_HEFT s r)) placed
  pub costs : c ≡ cost_alone HEFT (workflow s r)
  pub at_least : cheapest_total (workflow s r) ≤ c

pub HEFT_plan :
    {s : List ℕ} {lent n l c left : ℕ} {row : ℕ → Row} (got : PlanGot by_HEFT s lent n l c left row) → HEFTPlan s got.request c got.held.placed
unfolding method held_to unbound in_force cost_alone cheapest_total lowest_cost cost
HEFT_plan {s} {c = c} got =
    let W = workflow_for by_HEFT s got.request in
    let (end, is) = (read_iff_passes s got.request).1 got.passes in
    let good = good_workflow by_HEFT s is in
    let its_rows = place_settled W good by_HEFT got.placeable.acyclic tt got.held.placed got.held.methods_plan in
    let least : cheapest_total (workflow s got.request) ≤ spent got.held.placed =
    costs_at_least got.held.methods_plan in
    record {
      finishes_first = finish_first W got.held.placed got.held.methods_plan.steps;
      costs = held_costs got ∙ ap spent (sym its_rows);
      at_least = omega (arith, held_costs got, least);
    }

-- At the ends of the range nothing is rounded, and between them the budget is between.
pub at_0 : (low high : ℕ) → budget_between 0 low high ≡ low
unfolding budget_between
at_0 low high = omega arith

pub at_1000 : (low high : ℕ) → budget_between 1_000 low high ≡ low + (high - low)
unfolding budget_between
at_1000 low high = omega arith

pub budget_at_least : (k low high : ℕ) → low ≤ budget_between k low high
unfolding budget_between
budget_at_least k low high = omega arith

pub budget_at_most : (k low high : ℕ) → k ≤ 1_000 → low ≤ high → budget_between k low high ≤ high
unfolding budget_between
budget_at_most k low high within rising = omega (arith, mul-le-mul_right (high - low) within)

-- What is in force changes no cost.
total_held : (s : List ℕ) (r : Request) → cheapest_total (workflow_for by_HBCS s r) ≡ cheapest_total (workflow s r)
unfolding held_to in_force cheapest_total lowest_cost cost
total_held s r = refl

-- Every choice of processors costs more than the budget in force.
abbrev NoneFits : List ℕ → Request → Type 0
NoneFits s r = (on : ℕ → ℕ) → Assignment (workflow_for by_HBCS s r) on → (workflow_for by_HBCS s r).budget < costs_in_all (workflow_for by_HBCS s r) on

-- One input is one request.
pub same_request : {s : List ℕ} {r r' : Request} → PassesReading s r → PassesReading s r' → r ≡ r'
same_request {s} {r} {r'} passes passes' =
    let (end, is) = (read_iff_passes s r).1 passes in
    let (end', is') = (read_iff_passes s r').1 passes' in
    cc (is, is')

-- Without a `K` nothing is in force but what was read.
pub without_K : (s : List ℕ) (r : Request) → r.share ≡ no_share → workflow_for by_HBCS s r ≡ workflow s r
unfolding held_to in_force budget_of
without_K s r none = ap (λ share. held_to by_HBCS share (workflow s r)) none

-- What a request with a `K` is held to: the cheapest total fits, so that 9 cannot come.
module _ {s : List ℕ} {r : Request} (passes : PassesReading s r) {k : ℕ} (share : r.share ≡ thousandths k) where
  pub share_budget : (workflow_for by_HBCS s r).budget ≡ budget_between k (cheapest_total (workflow s r)) (cost_alone HEFT (workflow s r))
  unfolding held_to in_force budget_of
  share_budget = ap (λ x. budget_of x (workflow s r)) share

  cheapest_fits : cheapest_total (workflow s r) ≤ (workflow_for by_HBCS s r).budget
  cheapest_fits = rw share_budget (budget_at_least k (cheapest_total (workflow s r)) (cost_alone HEFT (workflow s r)))

  pub no_nine_with_K : (lent place : ℕ) → answer s lent ≡ refused 9 place → ⊥
  no_nine_with_K lent place e =
      let none = (nine_iff_no_choice_within_budget s lent).0 (place, e) in
      let above = subst (λ x. NoneFits s x) (same_request none.passes passes) none.above in
      let (end, is) = (read_iff_passes s r).1 passes in
      let (on, each, costs) = cheapest_attained (workflow_for by_HBCS s r) (good_workflow by_HBCS s is).processors in
      omega (arith, above on each, costs, cheapest_fits, total_held s r)

-- The workflow as it was read is good, and where the one with what is in force has no cycle, it has none.
read_good : (s : List ℕ) {end : ℕ} {r : Request} → read_request s ≡ read end r → GoodWorkflow (workflow s r)
unfolding held_to in_force
read_good s is = let good = good_workflow by_HBCS s is in record { processors = good.processors; from = good.from; to = good.to }

read_acyclic :
    {s : List ℕ} {lent n l c left : ℕ} {row : ℕ → Row} (got : PlanGot by_HBCS s lent n l c left row) → (i : ℕ) → Leads (workflow s got.request) i i → ⊥
unfolding held_to in_force begun
read_acyclic {s} got =
    let W = workflow_for by_HBCS s got.request in
    acyclic_begun (workflow s got.request).budget (workflow s got.request).deadline W.busy_at_first W.clock W got.placeable.acyclic

-- "at 0 the budget is the cheapest total", and the plan costs just that; nothing is left.
pub at_0_the_cheapest_total :
    {s : List ℕ} {lent n l c left : ℕ} {row : ℕ → Row} (got : PlanGot by_HBCS s lent n l c left row) → got.request.share ≡ thousandths 0
    → (c ≡ cheapest_total (workflow s got.request)) × (left ≡ 0)
at_0_the_cheapest_total {s} {c = c} {left} got share =
    let W = workflow s got.request in
    let budget = share_budget got.passes share ∙ at_0 (cheapest_total W) (cost_alone HEFT W) in
    let least : cheapest_total W ≤ c = omega (arith, held_costs got, costs_at_least got.held.methods_plan, total_held s got.request) in
    let shared = got.held.money_and_time.0 in
    (omega (arith, least, shared, budget), omega (arith, least, shared, budget))

-- "and at 1,000 the HEFT plan's cost": cost and remainder are that together.
pub at_1000_the_HEFT_cost :
    {s : List ℕ} {lent n l c left : ℕ} {row : ℕ → Row} (got : PlanGot by_HBCS s lent n l c left row) → got.request.share ≡ thousandths 1_000
    → c + left ≡ cost_alone HEFT (workflow s got.request)
at_1000_the_HEFT_cost {s} got share =
    let W = workflow s got.request in
    let (end, is) = (read_iff_passes s got.request).1 got.passes in
    let budget = share_budget got.passes share ∙ at_1000 (cheapest_total W) (cost_alone HEFT W) in
    omega (arith, got.held.money_and_time.0, budget, HEFT_plan_costs W (read_good s is) (read_acyclic got))

-- Between them cost and remainder are together between the two costs.
pub between_the_costs :
    {s : List ℕ} {lent n l c left k : ℕ} {row : ℕ → Row} (got : PlanGot by_HBCS s lent n l c left row) → got.request.share ≡ thousandths k →
    let W = workflow s got.request in
    (cheapest_total W ≤ c + left) × (c + left ≤ cost_alone HEFT W)
between_the_costs {s} {k = k} got share =
    let W = workflow s got.request in
    let (end, is) = (read_iff_passes s got.request).1 got.passes in
    let within = ((read_is_good s is).share_in k share).0 in
    let rising = HEFT_plan_costs W (read_good s is) (read_acyclic got) in
    let budget = share_budget got.passes share in
    let shared = got.held.money_and_time.0 in (
      omega (arith, shared, budget, budget_at_least k (cheapest_total W) (cost_alone HEFT W)),
      omega (arith, shared, budget, budget_at_most k (cheapest_total W) (cost_alone HEFT W) within rising),
    )
