-- The rows that come with the answer are in reach, and stored they are the rules'.
use Rattle.choosing.specs.Named.{meant_method}
use Rattle.rows.specs.Stored.{due_in_reach, rows_planned}
use Rattle.rows.proofs.plan.Goals as goal

pub store-requires : goal.store-requires
store-requires c = due_in_reach (meant_method c.args.method) c.args.request.now _ c.plan-planning.ensures c.rows_of-n.ensures

pub returns : goal.returns
returns c = rows_planned (meant_method c.args.method) c.args.request.now c.plan-planning.ensures c.rows_of-n.ensures c.store.ensures
