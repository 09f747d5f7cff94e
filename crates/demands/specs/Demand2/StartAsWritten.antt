-- The start of each task of a plan, in the words of document 02: the least minute, not before its data is ready, at which its minutes overlap no row that
-- was already placed on its processor, and no window of it.
use Rattle.std.proofs.Common.{ap}
use Rattle.std.proofs.Math.Path.{subst⁻¹}
use Rattle.std.specs.Prelude.{List, [], ◌∷◌}
use Rattle.rules.specs.Workflow.{Workflow}
use Rattle.rules.specs.Start.{Starts}
use Rattle.rules.specs.Rows.{Placed, busy}
use Rattle.rules.specs.Method.{Name}
use Rattle.rules.specs.Placing.{ready_for, start_of, row_on}
use Rattle.laws.specs.StartLaws.{start_is}
use Rattle.demands.specs.Demand2.Steps.{EachStep, AsTheMethod}

abbrev pub StartAsWritten : (W : Workflow) (before : List Placed) (p : Placed) → Type 0
StartAsWritten W before p =
    let j = p.row.processor in
    Starts (busy W before j) (ready_for W before p.task j) (W.minutes p.task j) p.row.start

start_as_written : (M : Name) (W : Workflow) (before : List Placed) (p : Placed) → AsTheMethod M W before p → StartAsWritten W before p
unfolding row_on start_of
start_as_written M W before p step =
    subst⁻¹ (Starts (busy W before p.row.processor) (ready_for W before p.task p.row.processor) (W.minutes p.task p.row.processor))
    (ap (λ r. r.start) step.row) (start_is _ _ _)

pub starts_as_written : (M : Name) (W : Workflow) (rows : List Placed) → EachStep (AsTheMethod M W) rows → EachStep (StartAsWritten W) rows
starts_as_written M W [] steps = tt
starts_as_written M W (p ∷ before) steps = (start_as_written M W before p steps.0, starts_as_written M W before steps.1)
