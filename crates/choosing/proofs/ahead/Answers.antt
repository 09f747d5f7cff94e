-- By what the order of pairs tells.
use Rattle.std.proofs.Common.{ℕ, ◌≡◌, sym, ap, ◌∙◌, eq-eqb, ne_eqb}
use Rattle.std.specs.Prelude.{◌&&◌, ◌||◌, ltb, eqb}
use Rattle.std.proofs.Math.Decide.{ℕ_discrete}
use Rattle.numbers.proofs.Pairs.{pairs_before}
use Rattle.choosing.specs.Leading.{ahead_by}
use Rattle.choosing.proofs.ahead.Goals as goal

even_turned : (x y : ℕ) → eqb x y ≡ eqb y x
even_turned x y = go (ℕ_discrete x y)
  where
    go : Dec (x ≡ y) → eqb x y ≡ eqb y x
    go (yes e) = eq-eqb x y e ∙ sym (eq-eqb y x (sym e))
    go (no n) = ne_eqb x y n ∙ sym (ne_eqb y x (λ e. n (sym e)))

pub returns : goal.returns
unfolding ahead_by
returns c =
    let a = c.args in
    let l = a.leader in
    c.lt.ensures ∙ pairs_before l.standing a.finish a.standing l.finish
    ∙ ap (λ t. ltb l.standing a.standing || (t && ltb a.finish l.finish)) (even_turned l.standing a.standing)
