use Rattle.std.proofs.Common.{ℕ}
use Rattle.rules.specs.Records.{Read}
use Rattle.parts.specs.Meaning.{Reads}
use Rattle.parts.proofs.Laws.{Reached}
use Rattle.parts.proofs.each.Given as goal

-- The loop has read the first k parts, up to the cursor.
abbrev pub invariant-loop-k : goal.invariant-loop-k
invariant-loop-k g l =
    (due : ℕ → ℕ → Read (Unit {0})) → Reads (goal.F-post g l.part) due → Reached due l.initial.next.at l.n l.k l.next.at
