-- The texts of a reason in the shapes in which they are written.
use Rattle.std.specs.Prelude.{ℕ, List, ◌++◌}
use Rattle.rules.specs.Text.{bytes}
use Rattle.rules.specs.Why.{told}

-- One number told twice: in the line, and in the sentence, which goes on after it.
abbrev pub one_text : (line sentence rest : List ℕ) → ℕ → List ℕ
one_text line sentence rest x = told line x ++ (told sentence x ++ rest)

-- Two numbers told twice.
abbrev pub two_text : (line first second : List ℕ) → (a b : ℕ) → List ℕ
two_text line first second a b = told line a ++ (told (bytes " ") b ++ (told first a ++ (told second b ++ bytes ".\n")))
