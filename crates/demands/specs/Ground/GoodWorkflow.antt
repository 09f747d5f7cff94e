-- What document 01's ranges say of a good request's workflow, as far as demand 2 leans on it; whatever is in force.
use Rattle.std.specs.Prelude.{ℕ, ◌≤◌, ◌<◌, ◌≡◌, List}
use Rattle.rules.specs.Records.{read}
use Rattle.rules.specs.Reading.{Request, read_request}
use Rattle.rules.specs.Workflow.{Workflow, workflow}
use Rattle.rules.specs.Method.{Name, by_HBCS, by_cheapest, by_HEFT}
use Rattle.rules.specs.Budget.{in_force, unbound, held_to, workflow_for}
use Rattle.good.specs.ReadIsGood.{read_is_good}
use Rattle.good.specs.RangeLaws.{good_in_range}

-- "m 1..16, [..] edge ends below n"
pub record GoodWorkflow (W : Workflow) : Type 0 where
  pub processors : 1 ≤ W.processors
  pub from : (e : ℕ) → e < W.edges → W.from e < W.tasks
  pub to : (e : ℕ) → e < W.edges → W.to e < W.tasks

good_held : (M : Name) (s : List ℕ) (r : Request) → GoodWorkflow (workflow s r) → GoodWorkflow (workflow_for M s r)
unfolding held_to unbound in_force
good_held by_HBCS s r good = record { processors = good.processors; from = good.from; to = good.to }
good_held by_cheapest s r good = record { processors = good.processors; from = good.from; to = good.to }
good_held by_HEFT s r good = record { processors = good.processors; from = good.from; to = good.to }

pub good_workflow : (M : Name) (s : List ℕ) {end : ℕ} {r : Request} → read_request s ≡ read end r → GoodWorkflow (workflow_for M s r)
good_workflow M s {r = r} good =
    let ranges = good_in_range s r (read_is_good s good) in
    good_held M s r (record { processors = ranges.processors_in.from_low; from = ranges.from_below; to = ranges.to_below })
