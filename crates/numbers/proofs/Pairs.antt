-- What `<` tells of two pairs of numbers: uneven first numbers decide, and where they are even the second do.
use Rattle.std.specs.Prelude.{ℕ, ◌≡◌, refl, Bool, true, false, cond, ◌&&◌, ◌||◌, ltb, eqb, Some}
use Rattle.std.proofs.Common.{sym, ap, ◌∙◌}
use Rattle.std.specs.declared.cmp.Ordering.TheVariants.{Less, Equal, Greater}
use Rattle.std.specs.Ordering.{is_some_and, is_lt, partial_ordering_then, nat_cmp}
use Rattle.rules.specs.Orders.{tie, lower}
use Rattle.laws.specs.Orders.{lower_tie}

by_tests : (s u v w : Bool)
    → is_some_and is_lt (partial_ordering_then (Some (cond s Less (cond u Equal Greater))) (Some (cond v Less (cond w Equal Greater))))
    ≡ (s || (u && v))
by_tests true u v w = refl
by_tests false true true w = refl
by_tests false true false true = refl
by_tests false true false false = refl
by_tests false false v w = refl

pub pairs_before : (a b x y : ℕ)
    → is_some_and is_lt (partial_ordering_then (Some (nat_cmp a x)) (Some (nat_cmp b y))) ≡ (ltb a x || (eqb a x && ltb b y))
pairs_before a b x y = by_tests (ltb a x) (eqb a x) (ltb b y) (eqb b y)

-- So pairs of two figures are in the order by the one, then by the other.
pub pairs_in_order : (f g : ℕ → ℕ) (i j : ℕ)
    → is_some_and is_lt (partial_ordering_then (Some (nat_cmp (f i) (f j))) (Some (nat_cmp (g i) (g j)))) ≡ lower f (lower g tie) i j
unfolding lower
pairs_in_order f g i j = pairs_before (f i) (g i) (f j) (g j) ∙ ap (λ t. ltb (f i) (f j) || (eqb (f i) (f j) && t)) (sym (lower_tie g i j))
