-- What placing all tasks takes and gives, said once for each function that does it; and which methods are held to no budget.
use Rattle.std.specs.Prelude.{ℕ, ◌≤◌, ◌≡◌, Bool, true, false, List}
use Rattle.rules.specs.Workflow.{Workflow}
use Rattle.rules.specs.Cycle.{cyclic}
use Rattle.rules.specs.Ranks.{cheapest_total}
use Rattle.rules.specs.Rows.{Placed}
use Rattle.rules.specs.Method.{Name, by_HBCS, by_cheapest, by_HEFT}
use Rattle.laws.specs.Bounds.{total_most}
use Rattle.reader.specs.declared.View.{View}
use Rattle.reader.specs.Meaning.{ViewOf}
use Rattle.lookup.specs.Lookup.{workflow_of}
use Rattle.charges.specs.Charges.{ChargesOf}
use Rattle.successors.specs.Begins.{BeginsFrom}
use Rattle.placing.specs.declared.Placing.{Placing}
use Rattle.placing.specs.Placed.{RanksOf, Columns, PlacedAs}
use Rattle.budgets.specs.declared.Prepared.{Prepared}
use Rattle.budgets.specs.declared.Rows.{Rows}

-- Of a good request without a cycle, by its view: what its processors charge, the ranks, and where each task's edges begin; the number is the cheapest total.
pub record IsPrepared (s : List ℕ) (v : View) (p : Prepared) : Type 0 where
  pub good : ViewOf s v
  pub no_cycle : cyclic (workflow_of s v) ≡ false
  pub ranks_of : RanksOf (workflow_of s v) p.ranks.now
  pub begins : BeginsFrom (workflow_of s v) 0 p.edges_at.now
  pub charges_of : ChargesOf (workflow_of s v) p.charges.now.prices p.charges.now.minimums
  pub cheapest_is : p.cheapest ≡ cheapest_total (workflow_of s v)
  pub cheapest_in : p.cheapest ≤ total_most

-- The four arrays hold these rows.
abbrev pub RowsAre : List Placed → Rows → Type 0
RowsAre rows r = Columns rows r.processors r.starts r.finishes r.costs

-- They hold the rows of all tasks by a method, and the placing tells of them.
abbrev pub PlacedWith : Name → Workflow → Rows → Placing → Type 0
PlacedWith M W r p = PlacedAs M W r.processors r.starts r.finishes r.costs p

abbrev pub held_to_none : Name → Bool
held_to_none by_HBCS = false
held_to_none by_cheapest = true
held_to_none by_HEFT = true
