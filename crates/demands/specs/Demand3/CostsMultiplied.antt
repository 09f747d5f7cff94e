-- Costs of a multiplied workflow are a times b times; paths and cycles are the same; ranks are a times, so that the placing order is the same.
use Prim.Native.Nat.{ℕ, zero, suc, ◌+◌, ◌*◌, ◌≤◌, max}
use Rattle.std.specs.Prelude.{◌≡◌, Bool, eqb}
use Rattle.std.proofs.Math.Path.{refl, sym, ap, ap₂, fun_ext}
use Rattle.std.proofs.Common.{◌∙◌, arith, mul-zero, mul-add}
use Rattle.std.proofs.Math.Bool.{cond}
use Rattle.rules.specs.Folds.{sum, largest, lowest, any}
use Rattle.rules.specs.Orders.{tie, among, first}
use Rattle.rules.specs.Workflow.{Workflow}
use Rattle.rules.specs.Cycle.{linked, leads_through, back_to_itself, cyclic, lowest_in_cycle}
use Rattle.rules.specs.Ranks.{cost, lowest_cost, cheapest_total, rank_by, rank_within, R, waits, may_be_next, next_task}
use Rattle.rules.specs.Multiplied.{multiplied}
use Rattle.laws.specs.Numbers.{max_multiplied, or_zero_multiplied}
use Rattle.laws.specs.Folds.{sum_multiplied, largest_multiplied, lowest_multiplied}
use Rattle.laws.specs.Orders.{higher_multiplied, among_same}
use Rattle.laws.specs.First.{first_same}

module _ (a b : ℕ) (W : Workflow) where
  pub cost_multiplied : (i j : ℕ) → cost (multiplied a b W) i j ≡ a * b * cost W i j
  unfolding cost multiplied
  cost_multiplied i j =
      ap (max (a * b * W.minimum j)) (omega arith) ∙ max_multiplied (a * b) (W.minimum j) (W.minutes i j * W.price j)

  pub lowest_cost_multiplied : (i : ℕ) → lowest_cost (multiplied a b W) i ≡ a * b * lowest_cost W i
  unfolding lowest_cost multiplied
  lowest_cost_multiplied i =
      ap (lowest W.processors) (fun_ext (cost_multiplied i)) ∙ lowest_multiplied (a * b) W.processors (cost W i)

  pub cheapest_total_multiplied : cheapest_total (multiplied a b W) ≡ a * b * cheapest_total W
  unfolding cheapest_total multiplied
  cheapest_total_multiplied =
      ap (sum W.tasks) (fun_ext lowest_cost_multiplied) ∙ sum_multiplied (a * b) W.tasks (lowest_cost W)

  leads_through_multiplied : (between i k : ℕ) → leads_through (multiplied a b W) between i k ≡ leads_through W between i k
  unfolding leads_through linked multiplied
  leads_through_multiplied zero i k = refl
  leads_through_multiplied (suc between) i k =
      rw (leads_through_multiplied between i k, leads_through_multiplied between i between, leads_through_multiplied between between k)

  back_to_itself_multiplied : back_to_itself (multiplied a b W) ≡ back_to_itself W
  unfolding back_to_itself multiplied
  back_to_itself_multiplied = fun_ext (λ i. leads_through_multiplied W.tasks i i)

  pub cyclic_multiplied : cyclic (multiplied a b W) ≡ cyclic W
  unfolding cyclic multiplied
  cyclic_multiplied = ap (any W.tasks) back_to_itself_multiplied

  pub lowest_in_cycle_multiplied : lowest_in_cycle (multiplied a b W) ≡ lowest_in_cycle W
  unfolding lowest_in_cycle multiplied
  lowest_in_cycle_multiplied = ap (λ p. first W.tasks (among p tie)) back_to_itself_multiplied

  rank_within_multiplied : (most i : ℕ) → rank_within (multiplied a b W) most i ≡ a * rank_within W most i
  unfolding rank_by rank_within multiplied
  rank_within_multiplied zero i = sym (mul-zero a)
  rank_within_multiplied (suc most) i =
      ap₂ ◌+◌ (sum_multiplied a W.processors (W.minutes i))
      (ap (largest W.edges) (fun_ext (λ e.
      rw (rank_within_multiplied most (W.to e))
      (ap (λ z. cond (eqb (W.from e) i) z 0) (omega arith)
      ∙ or_zero_multiplied a (eqb (W.from e) i) (W.processors * W.transfer e + rank_within W most (W.to e)))))
      ∙ largest_multiplied a W.edges _)
      ∙ sym (mul-add a _ _)

  pub R_multiplied : (i : ℕ) → R (multiplied a b W) i ≡ a * R W i
  unfolding R multiplied
  R_multiplied i = rank_within_multiplied W.tasks i

  pub next_task_multiplied : 1 ≤ a → (placed : ℕ → Bool) → next_task (multiplied a b W) placed ≡ next_task W placed
  unfolding next_task may_be_next waits multiplied
  next_task_multiplied pa placed =
      first_same W.tasks _ _ (λ i j k l.
      among_same (may_be_next W placed) (may_be_next W placed) _ _ i j refl refl
      (higher_multiplied a pa _ (R W) tie tie i j (R_multiplied i) (R_multiplied j) refl))
