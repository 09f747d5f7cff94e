-- Two answers that are the charges of one workflow are one answer.
use Rattle.std.specs.Prelude.{◌≡◌}
use Rattle.rules.specs.Workflow.{Workflow}
use Rattle.laws.specs.FilledLaws.{filled_settled}
use Rattle.charges.specs.declared.Charges.{Charges}
use Rattle.charges.specs.Charges.{ChargesOf}

pub charges_settled :
    {W : Workflow} (a b : Charges) → ChargesOf W a.prices a.minimums → ChargesOf W b.prices b.minimums → a ≡ b
charges_settled a b one other =
    let prices = filled_settled a.prices b.prices one.prices_are other.prices_are in
    let minimums = filled_settled a.minimums b.minimums one.minimums_are other.minimums_are in
    λ i. record { prices = prices i; minimums = minimums i }
