-- The budget in force: that of `H`, or the one that a `K` sets between two plans.
use Rattle.std.specs.Prelude.{ℕ, ◌+◌, ◌*◌, ◌-◌, ◌/◌, List}
use Rattle.rules.specs.Reading.{Deadline, no_deadline, Share, no_share, thousandths, Request}
use Rattle.rules.specs.Workflow.{Workflow, workflow}
use Rattle.rules.specs.Ranks.{cheapest_total}
use Rattle.rules.specs.Rows.{spent}
use Rattle.rules.specs.Method.{Method, HEFT, Name, by_HBCS, by_cheapest, by_HEFT}
use Rattle.rules.specs.Placing.{place}

-- The same workflow with this budget and this deadline in force.
unfoldable pub in_force : (budget : ℕ) → Deadline → Workflow → Workflow
in_force budget deadline W =
    record {
      tasks = W.tasks;
      processors = W.processors;
      budget = budget;
      deadline = deadline;
      price = W.price;
      minimum = W.minimum;
      busy_at_first = W.busy_at_first;
      clock = W.clock;
      minutes = W.minutes;
      edges = W.edges;
      from = W.from;
      to = W.to;
      transfer = W.transfer;
    }

-- "Asked for alone, these two are held to no budget" and to no deadline: none is in force.
unfoldable pub unbound : Workflow → Workflow
unbound W = in_force 0 no_deadline W

-- What the plan by a method costs, asked for alone.
unfoldable pub cost_alone : Method → Workflow → ℕ
cost_alone M W = spent (place M (unbound W) W.tasks)

-- "budget = cheapest + floor(k x (HEFT cost - cheapest) / 1000)"
unfoldable pub budget_between : (k cheapest HEFT_cost : ℕ) → ℕ
budget_between k cheapest HEFT_cost = cheapest + k * (HEFT_cost - cheapest) / 1_000

-- "cheapest is the cheapest total, which is what the cheapest plan costs" (`cheapest_plan_costs` in the demands).
unfoldable pub budget_of : Share → Workflow → ℕ
budget_of no_share W = W.budget
budget_of (thousandths k) W = budget_between k (cheapest_total W) (cost_alone HEFT W)

-- What is in force by the method that is asked for: the budget and the deadline for HBCS, neither for the two others.
unfoldable pub held_to : Name → Share → Workflow → Workflow
held_to by_HBCS share W = in_force (budget_of share W) W.deadline W
held_to by_cheapest share W = unbound W
held_to by_HEFT share W = unbound W

-- A good request's workflow with what is in force.
abbrev pub workflow_for : Name → List ℕ → Request → Workflow
workflow_for M s r = held_to M r.share (workflow s r)
