-- A number with the byte that ends its field, and four of them, to the end of the line.
use Rattle.std.specs.Prelude.{ℕ, ◌≡◌, List, [], ◌∷◌, ◌++◌}
use Rattle.std.proofs.Common.{append_assoc}
use Rattle.rules.specs.Text.{bytes, decimal, line}

abbrev pub field : ℕ → ℕ → List ℕ
field x after = decimal x ++ (after ∷ [])

-- Four numbers, to the end of the line.
unfoldable pub four_numbers : (a b c d : ℕ) → List ℕ
four_numbers a b c d = line (decimal a) (decimal b ∷ decimal c ∷ decimal d ∷ [])

pub four_fields : (a b c d : ℕ) → four_numbers a b c d ≡ field a 32 ++ (field b 32 ++ (field c 32 ++ field d 10))
unfolding four_numbers line bytes
four_fields a b c d = simp append_assoc
