use Prim.Native.Nat.{◌≤◌}
use Rattle.choosing.specs.Asked.{asked}
use Rattle.choosing.specs.Figured.{FiguresOf}
use Rattle.choosing.proofs.figures.figures_of.Given as goal

abbrev pub invariant-loop-j : goal.invariant-loop-j
invariant-loop-j l = (l.j ≤ l.m) × FiguresOf (asked l.m l.costs l.finishes l.rb l.rcb) l.j l.g
