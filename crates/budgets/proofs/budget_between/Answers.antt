-- The share of what the HEFT plan costs more is at most that.
use Rattle.rules.specs.Budget.{budget_between}
use Rattle.budgets.specs.Ready.{budget_between_at_most}
use Rattle.budgets.proofs.budget_between.Goals as goal

pub returns : goal.returns
unfolding budget_between
returns c =
    let (k_in, cheapest_in, HEFT_in) = c.requires in
    let less = c.saturating_sub.ensures in
    (rw less, rw less (budget_between_at_most _ _ _ k_in cheapest_in HEFT_in))
