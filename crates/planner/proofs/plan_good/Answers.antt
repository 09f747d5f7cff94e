-- Refusal 7 for too few rows, 8 for a cycle, which is there exactly if not all tasks are ranked; else the later checks.
use mathlib.Core.Path.{sym, ◌∙◌}
use borrow.Author.Tests.{not-true, not-false}
use Rattle.rules.specs.Workflow.{workflow}
use Rattle.choosing.specs.Named.{meant_method}
use Rattle.reader.specs.Meaning.{meant_share}
use Rattle.lookup.specs.Flow.{flow}
use Rattle.lookup.specs.Views.{view_in_range}
use Rattle.ranking.specs.RankedLaws.{ranked_none}
use Rattle.planner.specs.Checks.{too_few_rows, with_cycle, without_cycle}
use Rattle.planner.specs.Plans.{refused_plan}
use Rattle.planner.proofs.plan_good.Goals as goal

pub returns-then-lent-r : goal.returns-then-lent-r
unfolding workflow
returns-then-lent-r c =
    let a = c.args in
    let few = too_few_rows (meant_method a.method) (meant_share a.r.now.view.share) (flow a.r.now) a.lent c.if-lent-r.true in
    rw (few, c.at.ensures) (refused_plan c.requires _)

pub rank_all-requires-clause-ranked_so_far : goal.rank_all-requires-clause-ranked_so_far
unfolding workflow
rank_all-requires-clause-ranked_so_far c =
    let a = c.args in
    ranked_none (flow a.r.now) (view_in_range a.r.now.bytes.now a.r.now.view c.args.r.now.good)

pub returns-then-not-rank_all : goal.returns-then-not-rank_all
unfolding workflow
returns-then-not-rank_all c =
    let a = c.args in
    let cycle = not-false _ (sym c.rank_all.ensures.all_unless_cyclic ∙ c.if-not-rank_all.true) in
    let told = with_cycle (meant_method a.method) (meant_share a.r.now.view.share) (flow a.r.now) a.lent c.if-lent-r.false cycle in
    rw (told, c.at-then-not-rank_all.ensures, ← c.lowest_in_cycle.ensures) (refused_plan c.requires _)

pub returns : goal.returns
unfolding workflow
returns c =
    let a = c.args in
    let none = not-true _ (sym c.rank_all.ensures.all_unless_cyclic ∙ c.if-not-rank_all.false) in
    rw (without_cycle (meant_method a.method) (meant_share a.r.now.view.share) (flow a.r.now) a.lent c.if-lent-r.false none) c.plan_ranked.ensures
