-- What is in force changes no task, no path and no cost: by each method a workflow with it has the tasks, cycles and cheapest total of the workflow as it was read.
use Rattle.std.specs.Prelude.{◌≡◌}
use Rattle.std.proofs.Math.Path.{refl}
use Rattle.rules.specs.Reading.{Share}
use Rattle.rules.specs.Workflow.{Workflow}
use Rattle.rules.specs.Cycle.{cyclic, lowest_in_cycle}
use Rattle.rules.specs.Method.{Name, by_HBCS, by_cheapest, by_HEFT}
use Rattle.rules.specs.Budget.{in_force, unbound, held_to}
use Rattle.laws.specs.Begun.{begun, cyclic_begun, lowest_in_cycle_begun}

module _ (share : Share) (W : Workflow) where
  pub tasks_held : (M : Name) → (held_to M share W).tasks ≡ W.tasks
  unfolding held_to unbound in_force
  tasks_held by_HBCS = refl
  tasks_held by_cheapest = refl
  tasks_held by_HEFT = refl

  pub cyclic_held : (M : Name) → cyclic (held_to M share W) ≡ cyclic W
  unfolding held_to unbound in_force begun
  cyclic_held by_HBCS = cyclic_begun _ _ _ _ W
  cyclic_held by_cheapest = cyclic_begun _ _ _ _ W
  cyclic_held by_HEFT = cyclic_begun _ _ _ _ W

  pub lowest_in_cycle_held : (M : Name) → lowest_in_cycle (held_to M share W) ≡ lowest_in_cycle W
  unfolding held_to unbound in_force begun
  lowest_in_cycle_held by_HBCS = lowest_in_cycle_begun _ _ _ _ W
  lowest_in_cycle_held by_cheapest = lowest_in_cycle_begun _ _ _ _ W
  lowest_in_cycle_held by_HEFT = lowest_in_cycle_begun _ _ _ _ W
