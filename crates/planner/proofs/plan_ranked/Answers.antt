-- The plan by a method that is held to nothing, or HBCS's.
use mathlib.Core.Path.{sym, ◌∙◌}
use Rattle.choosing.specs.Named.{meant_method}
use Rattle.reader.specs.Meaning.{meant_share}
use Rattle.lookup.specs.Flow.{flow}
use Rattle.planner.specs.Checks.{alone_later, within_else}
use Rattle.planner.proofs.plan_ranked.Goals as goal

pub returns-then-alone : goal.returns-then-alone
returns-then-alone c =
    let W = flow c.args.r.now in
    let alone = sym c.alone.ensures ∙ c.if-alone.true in
    rw (alone_later (meant_method c.args.method) (meant_share c.args.r.now.view.share) W alone) c.plan_alone.ensures

pub returns : goal.returns
returns c =
    let W = flow c.args.r.now in
    let held = sym c.alone.ensures ∙ c.if-alone.false in
    rw (within_else (meant_method c.args.method) (meant_share c.args.r.now.view.share) W held) c.plan_within.ensures
