-- "Ties to": choosing a number below a count by one figure after the other, the last word being with the lower number.
use Rattle.std.specs.Prelude.{ℕ, zero, suc, Bool, false, cond, not, ◌&&◌, ◌||◌, ltb, eqb}

-- `beats i j`: i goes before j, whichever is the lower number.
abbrev pub Order : Type 0
Order = ℕ → ℕ → Bool

-- Neither goes before the other: what is left is the lower number.
unfoldable pub tie : Order
tie i j = false

-- The lower figure goes first; ties to `next`.
unfoldable pub lower : (ℕ → ℕ) → Order → Order
lower figure next i j = ltb (figure i) (figure j) || (eqb (figure i) (figure j) && next i j)

-- The higher figure goes first; ties to `next`.
unfoldable pub higher : (ℕ → ℕ) → Order → Order
higher figure next i j = ltb (figure j) (figure i) || (eqb (figure i) (figure j) && next i j)

-- Those that pass the test go before those that do not; among the former, `next`.
unfoldable pub among : (ℕ → Bool) → Order → Order
among test next i j = test i && (not (test j) || next i j)

-- The number below k that no other goes before, and the lowest such.
unfoldable pub first : ℕ → Order → ℕ
first zero beats = 0
first (suc k) beats = let so_far = first k beats in cond (beats k so_far) k so_far
