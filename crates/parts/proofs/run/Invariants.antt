use Rattle.std.proofs.Common.{ℕ}
use Rattle.rules.specs.Fields.{size}
use Rattle.rules.specs.Records.{Read, Record}
use Rattle.good.specs.Reading.{Steps}
use Rattle.fields.specs.Meaning.{meant_kind}
use Rattle.parts.specs.Meaning.{past, Reads}
use Rattle.parts.proofs.RunLaws.{Run}
use Rattle.parts.proofs.run.Given as goal

-- The loop has read the first k of the records that stand there, up to the cursor.
abbrev pub invariant-loop-k : goal.invariant-loop-k
invariant-loop-k g l =
    (due : ℕ → ℕ → Read Record) →
    Reads (goal.F-post g l.part) (λ at k. past (due at k)) → Steps due (size (meant_kind l.kind)) → Run l.s (meant_kind l.kind) due l.initial.next.at l.most l.k l.next.at
