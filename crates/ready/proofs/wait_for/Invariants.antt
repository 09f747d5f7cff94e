use Rattle.ready.specs.Ready.{WaitedFor}
use Rattle.ready.proofs.wait_for.Given as goal

abbrev pub invariant-loop-j : goal.invariant-loop-j
invariant-loop-j l = WaitedFor l.j l.on l.here l.across l.initial.ready l.ready
