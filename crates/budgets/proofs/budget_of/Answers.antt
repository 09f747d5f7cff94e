-- Without a share the budget is that of the request. With one the HEFT plan is placed without a budget, and what it costs is the upper end of the range; then no
-- task has a row again.
use mathlib.Core.Path.{◌≡◌, sym, ap, ap₂, ◌∙◌}
use Rattle.rules.specs.Reading.{thousandths}
use Rattle.rules.specs.Workflow.{workflow}
use Rattle.rules.specs.Method.{HEFT, method}
use Rattle.rules.specs.Budget.{in_force, unbound, cost_alone, budget_between, budget_of}
use Rattle.good.specs.ReadIsGood.{read_is_good}
use Rattle.choosing.specs.Named.{meant_method}
use Rattle.reader.specs.Meaning.{meant_share}
use Rattle.lookup.specs.Flow.{flow}
use Rattle.lookup.specs.Views.{view_in_range}
use Rattle.budgets.specs.Ready.{HEFT_cost_at_most}
use Rattle.budgets.proofs.budget_of.Goals as goal

pub returns-in_default : goal.returns-in_default
unfolding budget_of workflow
returns-in_default c =
    let range = view_in_range c.args.r.now.bytes.now c.args.r.now.view c.requires.prepared.good in
    (rw c.in_default.is, range.budget_in, c.requires.none)

pub budget_between-requires : goal.budget_between-requires
unfolding workflow cost_alone unbound in_force meant_method method
budget_between-requires c =
    let good = c.requires.prepared.good in
    let share : meant_share c.args.r.now.view.share ≡ thousandths c.in-Some.k = ap meant_share c.in-Some.is in (
      ((read_is_good c.args.r.now.bytes.now good).share_in c.in-Some.k share).0,
      c.requires.prepared.cheapest_in,
      rw c.place_all-heft.ensures.cost_is (HEFT_cost_at_most (flow c.args.r.now) (view_in_range c.args.r.now.bytes.now c.args.r.now.view good)),
    )

pub returns : goal.returns
unfolding budget_of workflow cost_alone unbound in_force meant_method method
returns c =
    let W = flow c.args.r.now in
    let share : meant_share c.args.r.now.view.share ≡ thousandths c.in-Some.k = ap meant_share c.in-Some.is in
    let cost : c.place_all-heft.result.cost ≡ cost_alone HEFT W = c.place_all-heft.ensures.cost_is in (
      c.budget_between.ensures.0 ∙ ap₂ (budget_between c.in-Some.k) c.requires.prepared.cheapest_is cost ∙ sym (ap (λ share. budget_of share W) share),
      c.budget_between.ensures.1,
      c.none.ensures,
    )
