use Prim.Native.Nat.{◌≤◌}
use Rattle.choosing.specs.Asked.{asked}
use Rattle.choosing.specs.Leading.{Leads}
use Rattle.choosing.proofs.within_budget.Given as goal

abbrev pub invariant-loop-j : goal.invariant-loop-j
invariant-loop-j l = (l.j ≤ l.m) × Leads (asked l.m l.costs l.finishes l.rb l.rcb) l.j l.leader
