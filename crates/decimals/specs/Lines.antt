-- A line of numbers: what opens it, and then the rest of it.
use Rattle.std.specs.Prelude.{ℕ, ◌+◌, ◌≤◌, ◌≡◌, refl, List, [], ◌∷◌, ◌++◌, map, length, drop}
use Rattle.std.proofs.Common.{ap, arith, length-append}
use Rattle.rules.specs.Text.{bytes, decimal, line}

-- Numbers, each after a space, and the line feed.
abbrev pub spaced : List ℕ → List ℕ
spaced [] = 10 ∷ []
spaced (x ∷ xs) = 32 ∷ (decimal x ++ spaced xs)

pub line_spaced : (opening : List ℕ) (xs : List ℕ) → line opening (map decimal xs) ≡ opening ++ spaced xs
unfolding line bytes
line_spaced opening [] = refl
line_spaced opening (x ∷ xs) = ap (λ rest. opening ++ (32 ∷ rest)) (line_spaced (decimal x) xs)

-- Where numbers past the first i are left of a line, there is room for them.
pub room_spaced :
    (now old opening : List ℕ) (xs : List ℕ) (i N : ℕ) → now ++ spaced (drop i xs) ≡ old ++ (opening ++ spaced xs)
    → length old + length (line opening (map decimal xs)) ≤ N → length now + length (spaced (drop i xs)) ≤ N
room_spaced now old opening xs i N e room =
    omega (
      arith,
      ap length e,
      ap length (line_spaced opening xs),
      length-append now (spaced (drop i xs)),
      length-append old (opening ++ spaced xs),
    )
