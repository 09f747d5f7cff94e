-- Laws of walking over processor records, each as long as its kind.
use Rattle.std.specs.Prelude.{◌≡◌, refl, Bool, true, false, cond, List, eqb}
use Prim.Native.Nat.{ℕ, zero, suc, ◌+◌, ◌*◌, ◌≤◌}
use Rattle.std.proofs.Common.{eq-or-lt_of_le, le_of_suc-le-suc}
use native.Mathlib.Omega.{arith}
use Rattle.std.proofs.Math.Logic.{⊎_elim}
use Rattle.rules.specs.Fields.{P, Q, kind_byte, size, body, byte}
use Rattle.rules.specs.Records.{processor_at}
use Rattle.rules.specs.Workflow.{processor_kind, past_processors}
use Rattle.good.specs.Good.{Between}
use Rattle.good.specs.Reading.{Walks}
use Rattle.good.specs.Kinds.{processor_read}

-- A `P` has 3 bytes and a `Q` 5.
pub processor_size : (s : List ℕ) (at : ℕ) → Between 3 (size (processor_kind s at)) 5
unfolding processor_kind size body
processor_size s at = go (eqb (byte s at) (kind_byte Q))
  where
    go : (t : Bool) → Between 3 (size (cond t Q P)) 5
    go true = record { from_low = omega arith; to_high = omega arith }
    go false = record { from_low = omega arith; to_high = omega arith }

module _ (s : List ℕ) (at : ℕ) where
  -- Processor records that are read stand where the walk comes to.
  pub processors_walk : Walks (processor_at s) at (past_processors s at)
  unfolding past_processors
  processors_walk = record { begins = refl; goes_on = λ j next a e. (processor_read s _ j e).ends }

  pub past_processors_most : (j : ℕ) → past_processors s at j ≤ at + j * 5
  unfolding past_processors
  past_processors_most zero = omega arith
  past_processors_most (suc j) = omega (arith, past_processors_most j, processor_size s (past_processors s at j))

  -- The walk goes forward.
  pub past_processors_rise : (j k : ℕ) → j ≤ k → past_processors s at j ≤ past_processors s at k
  unfolding past_processors
  past_processors_rise j zero h = let first : j ≡ 0 = omega arith in rw first (omega arith)
  past_processors_rise j (suc k) h =
      ⊎_elim (λ last. rw last (omega arith)) (λ less. omega (arith, past_processors_rise j k (le_of_suc-le-suc less))) (eq-or-lt_of_le h)
