-- What the placing is handed is as it asks for it: the windows as what the processors are busy with at first. And what is in force is in range: a plan costs no
-- more than so much, nor is a budget between two of them more.
use Rattle.std.specs.Prelude.{ℕ, zero, suc, ◌*◌, ◌-◌, ◌≤◌, ◌≡◌, List}
use Rattle.std.proofs.Common.{mul-le-mul_right, arith}
use Rattle.rules.specs.Reading.{Deadline, by}
use Rattle.rules.specs.Workflow.{Workflow}
use Rattle.rules.specs.Ranks.{next_task}
use Rattle.rules.specs.Method.{Method, HEFT}
use Rattle.rules.specs.Rows.{is_placed, spent}
use Rattle.rules.specs.Placing.{question, row_on, place_task, place_next, place}
use Rattle.rules.specs.Budget.{in_force, unbound, cost_alone, budget_between}
use Rattle.good.specs.Good.{Between}
use Rattle.good.specs.Ranges.{InRange}
use Rattle.good.specs.ReadIsGood.{read_is_good}
use Rattle.laws.specs.Bounds.{first_most, cost_most, total_most, budget_most}
use Rattle.laws.specs.Stores.{at}
use Rattle.reader.specs.declared.View.{View}
use Rattle.reader.specs.Meaning.{ViewOf}
use Rattle.lookup.specs.Lookup.{workflow_of}
use Rattle.lookup.specs.Views.{view_in_range}
use Rattle.costs.specs.CostLaws.{cost_at_most}
use Rattle.busy.specs.declared.Processors.{Processors}
use Rattle.busy.specs.Kept.{outset_most, InOrder, EndBy, Keeps}
use Rattle.busy.specs.KeepsLaws.{keeps_end_by}

pub outset_fits :
    (s : List ℕ) (v : View) → ViewOf s v → {p : Processors} → Keeps (workflow_of s v).busy_at_first v.windows p
    → InOrder p.begins p.ends p.first × (at p.first 16 ≤ outset_most) × EndBy first_most p.begins p.ends p.first
outset_fits s v good keeps = (
  keeps.in_order,
  omega (arith, keeps.in_all, (read_is_good s good).windows_in),
  keeps_end_by keeps first_most (λ j l w m. (view_in_range s v good).first_end_in j w m),
)

pub spent_at_most : (M : Method) (W : Workflow) → InRange W → (k : ℕ) → spent (place M W k) ≤ k * cost_most
unfolding place place_next place_task row_on spent
spent_at_most M W range zero = omega arith
spent_at_most M W range (suc k) =
    let before = place M W k in
    let i = next_task W (is_placed before) in
    omega (arith, spent_at_most M W range k, cost_at_most W range i (M (question W before i)))

-- With this budget and this deadline in force a workflow stays in range.
pub in_force_in_range :
    {W : Workflow} → InRange W → {budget : ℕ} → budget ≤ budget_most → {deadline : Deadline} → ((d : ℕ) → deadline ≡ by d → Between 1 d 200_000)
    → InRange (in_force budget deadline W)
unfolding in_force
in_force_in_range range budget_in deadline_in =
    record {
      tasks_in = range.tasks_in;
      processors_in = range.processors_in;
      budget_in = budget_in;
      deadline_in = deadline_in;
      edges_in = range.edges_in;
      price_in = range.price_in;
      minimum_in = range.minimum_in;
      first_minutes = range.first_minutes;
      first_end_in = range.first_end_in;
      clock_in = range.clock_in;
      minutes_most = range.minutes_most;
      from_below = range.from_below;
      to_below = range.to_below;
      unequal = range.unequal;
      transfer_in = range.transfer_in;
      from_rises = range.from_rises;
      to_rises = range.to_rises;
    }

pub unbound_in_range : {W : Workflow} → InRange W → InRange (unbound W)
unfolding unbound
unbound_in_range range = in_force_in_range range (omega arith) (λ d e. let none : ◌≡◌ {A = ℕ} 0 1 = cc in absurd (omega arith))

-- What the HEFT plan costs, asked for alone.
pub HEFT_cost_at_most : (W : Workflow) → InRange W → cost_alone HEFT W ≤ total_most
unfolding cost_alone
HEFT_cost_at_most W range =
    omega (arith, spent_at_most HEFT (unbound W) (unbound_in_range range) W.tasks, mul-le-mul_right cost_most range.tasks_in.to_high)

-- The share of what the HEFT plan costs more is at most that.
pub budget_between_at_most :
    (k cheapest HEFT_cost : ℕ) → k ≤ 1_000 → cheapest ≤ total_most → HEFT_cost ≤ total_most → budget_between k cheapest HEFT_cost ≤ budget_most
unfolding budget_between
budget_between_at_most k cheapest HEFT_cost k_in cheapest_in HEFT_in = omega (arith, mul-le-mul_right (HEFT_cost - cheapest) k_in)
