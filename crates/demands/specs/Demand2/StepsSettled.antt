-- The rules leave no choice: of those that may be next one task has the highest R and then the lowest number, and one processor is the method's choice. So two plans made as the
-- method says are one.
use Rattle.std.specs.Prelude.{◌≡◌, refl, List, [], ◌∷◌, length}
use Rattle.std.proofs.Common.{sym, ap₂, ◌∙◌, subst, arith}
use Rattle.std.proofs.Math.Nat.{suc_inj}
use Rattle.rules.specs.Workflow.{Workflow}
use Rattle.rules.specs.Rows.{Placed, is_placed}
use Rattle.rules.specs.Method.{Name}
use Rattle.rules.specs.Placing.{question, row_on}
use Rattle.laws.specs.NextTask.{MayBeNext}
use Rattle.demands.specs.Demand2.Order.{highest_settled}
use Rattle.demands.specs.Demand2.Choices.{ChosenBy, chosen_settled}
use Rattle.demands.specs.Demand2.Steps.{EachStep, AsTheMethod}

module _ (M : Name) (W : Workflow) where
  step_settled : (before : List Placed) (p p' : Placed) → AsTheMethod M W before p → AsTheMethod M W before p' → p ≡ p'
  step_settled before p p' h h' =
      let task =
      highest_settled W (MayBeNext W (is_placed before)) p.task p'.task h.task h'.task h.may_be_next h'.may_be_next h.highest_left h'.highest_left in
      let chosen' = subst (λ i. ChosenBy M (question W before i) p'.row.processor) (sym task) h'.chosen in
      let processor = chosen_settled M (question W before p.task) p.row.processor p'.row.processor h.chosen chosen' in
      let row : p.row ≡ p'.row = h.row ∙ ap₂ (row_on W before) task processor ∙ sym h'.row in
      λ t. record { task = task t; row = row t }

  pub steps_settled :
      (rows rows' : List Placed) → EachStep (AsTheMethod M W) rows → EachStep (AsTheMethod M W) rows' → length rows ≡ length rows'
      → rows ≡ rows'
  steps_settled [] [] h h' e = refl
  steps_settled [] (p' ∷ before') h h' e = absurd (omega arith)
  steps_settled (p ∷ before) [] h h' e = absurd (omega arith)
  steps_settled (p ∷ before) (p' ∷ before') h h' e =
      let same : before ≡ before' = steps_settled before before' h.1 h'.1 (suc_inj e) in
      ap₂ ◌∷◌ (step_settled before p p' h.0 (subst (λ b. AsTheMethod M W b p') (sym same) h'.0)) same
