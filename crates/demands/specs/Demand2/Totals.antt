-- The cost of a plan is the sum of its rows' costs, and its length is their largest finish: a task that is not placed counts 0 in both.
use Prim.Native.Nat.{ℕ, ◌+◌, ◌<◌, max}
use Rattle.std.specs.Prelude.{◌≡◌, cond, List, [], ◌∷◌, eqb}
use Rattle.std.proofs.Math.Path.{refl, sym, ap, fun_ext}
use Rattle.std.proofs.Common.{◌∙◌}
use Rattle.rules.specs.Folds.{sum, largest}
use Rattle.rules.specs.Workflow.{Workflow}
use Rattle.rules.specs.Rows.{Row, Placed, no_row, row_of, spent, length_of}
use Rattle.rules.specs.Method.{Method}
use Rattle.laws.specs.Tests.{cond_mapped}
use Rattle.laws.specs.Folds.{sum_of_none, largest_of_none, sum_changed, largest_changed}
use Rattle.demands.specs.Demand2.Lookup.{row_of_unplaced}
use Rattle.demands.specs.Demand2.Built.{placed_on, Built, at_first, one_more}

module _ (M : Method) (W : Workflow) where
  -- Over a figure of the rows, and how it adds up.
  module _ (figure : Row → ℕ) (join : ℕ → ℕ → ℕ) (total : List Placed → ℕ) (over_tasks : (ℕ → ℕ) → ℕ)
      (none : figure no_row ≡ 0)
      (total_none : total [] ≡ over_tasks (λ i. figure (row_of [] i)))
      (total_more : (p : Placed) (before : List Placed) → total (p ∷ before) ≡ join (total before) (figure p.row))
      (changed : (n : ℕ) (f : ℕ → ℕ) (c : ℕ) → n < W.tasks → f n ≡ 0 → over_tasks (λ i. cond (eqb n i) c (f i)) ≡ join (over_tasks f) c) where
    total_over_tasks : {rows : List Placed} → Built M W rows → total rows ≡ over_tasks (λ i. figure (row_of rows i))
    unfolding row_of
    total_over_tasks at_first = total_none
    total_over_tasks (one_more {before = before} {i = n} {j = j} built next) =
        let r = (placed_on W before n j).row in
        total_more (placed_on W before n j) before
        ∙ ap (λ x. join x (figure r)) (total_over_tasks built)
        ∙ sym (changed n (λ i. figure (row_of before i)) (figure r) next.task (ap figure (row_of_unplaced before n next.may.left) ∙ none))
        ∙ ap over_tasks (fun_ext (λ i. sym (cond_mapped figure (eqb n i) r (row_of before i))))

  pub spent_is_sum : {rows : List Placed} → Built M W rows → spent rows ≡ sum W.tasks (λ i. (row_of rows i).cost)
  unfolding spent row_of
  spent_is_sum =
      total_over_tasks (λ r. r.cost) ◌+◌ spent (sum W.tasks) refl (sym (sum_of_none W.tasks _ (λ i l. refl))) (λ p before. refl)
      (sum_changed W.tasks)

  -- "the length of a plan is the largest finish"
  pub length_is_largest : {rows : List Placed} → Built M W rows → length_of rows ≡ largest W.tasks (λ i. (row_of rows i).finish)
  unfolding length_of row_of
  length_is_largest =
      total_over_tasks (λ r. r.finish) max length_of (largest W.tasks) refl (sym (largest_of_none W.tasks _ (λ i l. refl))) (λ p before. refl)
      (largest_changed W.tasks)
