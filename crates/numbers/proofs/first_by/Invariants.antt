use Rattle.std.specs.Prelude.{ℕ, ◌≤◌, ◌<◌, ◌≡◌, Bool}
use Rattle.rules.specs.Orders.{Order, first}
use Rattle.numbers.proofs.first_by.Given as goal

-- Of the numbers passed the one that no other goes before, by any order that the closure computes.
abbrev pub invariant-loop-i : goal.invariant-loop-i
invariant-loop-i g l =
    (l.first ≤ l.i) × (0 < l.n → l.first < l.n)
    × ((beats : Order) → ((i j : ℕ) → i < l.n → j < l.n → (t : Bool) → goal.F-post g l.goes_before i j t → t ≡ beats i j) → l.first ≡ first l.i beats)
