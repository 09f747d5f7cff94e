-- When an edge's data has arrived on each processor, over arrays of minutes.
use Rattle.std.specs.Prelude.{ℕ, ◌≤◌, ◌<◌, max, ◌≡◌, cond, List, eqb, length}
use Rattle.std.proofs.Common.{sym, ◌∙◌, ext_get_or, arith}
use Rattle.std.proofs.Math.Decide.{dec_lt}
use Rattle.laws.specs.Stores.{at}

-- An array of 16 that has, for the first m processors, the larger of the clock and the minute that a function says; and the clock after them.
pub record FromClock (clock m : ℕ) (f : ℕ → ℕ) (xs : List ℕ) : Type 0 where
  pub size : length xs ≡ 16
  pub below : (j : ℕ) → j < m → at xs j ≡ max clock (f j)
  pub past : (j : ℕ) → m ≤ j → j < 16 → at xs j ≡ clock

-- Two such arrays are one.
pub from_clock_settled : {clock m : ℕ} {f : ℕ → ℕ} {xs ys : List ℕ} → FromClock clock m f xs → FromClock clock m f ys → xs ≡ ys
from_clock_settled {clock} {m} {f} {xs} {ys} one other =
    ext_get_or 0 xs ys (one.size ∙ sym other.size) (λ j l. go j (omega (arith, one.size)) (dec_lt j m))
  where
    go : (j : ℕ) → j < 16 → Dec (j < m) → at xs j ≡ at ys j
    go j l (yes below) = one.below j below ∙ sym (other.below j below)
    go j l (no past) = one.past j (omega arith) l ∙ sym (other.past j (omega arith) l)

-- The minutes of the first m processors are moved to when an edge's data has arrived there: `here` on the processor `on`, `across` on the others.
pub record WaitedFor (m on here across : ℕ) (before after : List ℕ) : Type 0 where
  pub size : length after ≡ length before
  pub moved : (j : ℕ) → j < m → at after j ≡ max (at before j) (cond (eqb on j) here across)
  pub kept : (j : ℕ) → m ≤ j → at after j ≡ at before j
