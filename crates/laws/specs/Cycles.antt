-- Refusal 8 decided: `cyclic` says whether some task leads back to itself, and `lowest_in_cycle` is the lowest such task.
use Rattle.std.specs.Prelude.{ℕ, ◌≤◌, ◌<◌, ◌≡◌, refl, true, false, ◌↔◌}
use Rattle.std.proofs.Common.{sym, ◌∙◌, true≢false, arith}
use Rattle.rules.specs.Orders.{tie}
use Rattle.rules.specs.Workflow.{Workflow}
use Rattle.rules.specs.Cycle.{Leads, edge, along, back_to_itself, cyclic, lowest_in_cycle}
use Rattle.laws.specs.Any.{any_attained, any_holds}
use Rattle.laws.specs.First.{first_below, first_passes}
use Rattle.laws.specs.Strict.{tie_strict, first_among_lowest}
use Rattle.laws.specs.Leads.{leads_if_through, through_if_leads}

-- Every edge leads to a task.
abbrev pub EdgesEnd : Workflow → Type 0
EdgesEnd W = (e : ℕ) → e < W.edges → W.to e < W.tasks

-- The lowest task with a path back to itself.
pub record LowestInCycle (W : Workflow) (i : ℕ) : Type 0 where
  pub task : i < W.tasks
  pub leads_back : Leads W i i
  pub lowest : (k : ℕ) → Leads W k k → i ≤ k

module _ (W : Workflow) (ends : EdgesEnd W) where
  pub back_to_itself_iff : (i : ℕ) → (back_to_itself W i ≡ true) ↔ Leads W i i
  unfolding back_to_itself
  back_to_itself_iff i = (leads_if_through W W.tasks i i, through_if_leads W W.tasks ends)

  pub cyclic_iff : (cyclic W ≡ true) ↔ ((i : ℕ) × (i < W.tasks) × Leads W i i)
  unfolding cyclic
  cyclic_iff = (
    λ h. let w = any_attained W.tasks (back_to_itself W) h in (w.0, w.1, (back_to_itself_iff w.0).0 w.2),
    λ w. any_holds W.tasks (back_to_itself W) w.0 w.1 ((back_to_itself_iff w.0).1 w.2),
  )

  -- A path ends in an edge, so it leads to a task.
  pub leads_to_task : {i k : ℕ} → Leads W i k → k < W.tasks
  leads_to_task (edge e l) = ends e l
  leads_to_task (along e l p) = leads_to_task p

  pub none_leads_back : cyclic W ≡ false → (i : ℕ) → Leads W i i → ⊥
  none_leads_back h i p = true≢false (sym (cyclic_iff.1 (i, leads_to_task p, p)) ∙ h)

  pub lowest_in_cycle_lowest : cyclic W ≡ true → LowestInCycle W (lowest_in_cycle W)
  unfolding lowest_in_cycle
  lowest_in_cycle_lowest h =
      let (i, below, back) = cyclic_iff.0 h in
      record {
        task = first_below W.tasks _ (omega arith);
        leads_back = (back_to_itself_iff _).0 (first_passes (back_to_itself W) tie W.tasks i below ((back_to_itself_iff i).1 back));
        lowest = λ k p.
            first_among_lowest (back_to_itself W) tie_strict W.tasks k (leads_to_task p) ((back_to_itself_iff k).1 p) (unfold tie in refl);
      }
