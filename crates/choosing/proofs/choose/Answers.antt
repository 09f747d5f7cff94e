-- By the cases of the method: HBCS's choice, or the lowest by the one figure and then the other.
use Rattle.rules.specs.Method.{best, Cheapest, HEFT, method}
use Rattle.choosing.specs.Named.{meant_method}
use Rattle.choosing.proofs.choose.Goals as goal

pub returns-in-Hbcs : goal.returns-in-Hbcs
unfolding method meant_method
returns-in-Hbcs c = rw c.in-Hbcs.is c.within_budget.ensures

pub returns-in-Cheapest : goal.returns-in-Cheapest
unfolding method meant_method Cheapest
returns-in-Cheapest c = rw c.in-Cheapest.is c.lowest_by.ensures

pub returns-in-Heft : goal.returns-in-Heft
unfolding method meant_method HEFT best
returns-in-Heft c = rw c.in-Heft.is c.lowest_by-in-Heft.ensures
