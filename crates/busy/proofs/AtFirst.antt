-- What is kept of the processors at first: nothing.
use Rattle.std.specs.Prelude.{ℕ, ◌+◌, replicate}
use Rattle.std.proofs.Math.Path.{refl}
use Rattle.std.proofs.Common.{arith}
use mathlib.Core.List.{[]}
use Rattle.laws.specs.Stores.{repeated}
use Rattle.busy.specs.Kept.{InOrder, Keeps}
use Rattle.busy.specs.KeptLaws.{none_busy}

pub none_in_order : InOrder (replicate 128 0) (replicate 128 0) (replicate 17 0)
none_in_order =
    record {
      begins_size = refl;
      ends_size = refl;
      first_size = refl;
      few = omega arith;
      first_rises = λ j l. rw (repeated {A = ℕ} 17 0 j) (omega arith);
      begins_rise = λ j k l b from le to. absurd (omega (arith, repeated {A = ℕ} 17 0 (j + 1)));
      have_minutes = λ k l. absurd (omega arith);
    }

pub keeps_none : Keeps (λ j. []) 0 (record { begins = replicate 128 0; ends = replicate 128 0; first = replicate 17 0 })
keeps_none = record { in_order = none_in_order; in_all = refl; holds = λ j l. rw (none_busy j) (λ ready minutes. refl) }
