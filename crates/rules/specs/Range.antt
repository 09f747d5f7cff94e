-- The range that a budget is set in, for one who does not know what to type.
use Rattle.std.specs.Prelude.{ℕ, List, [], ◌∷◌, ◌++◌, take}
use Rattle.rules.specs.Method.{by_cheapest, by_HEFT}
use Rattle.rules.specs.Answer.{Answer, planned, refused, answer_asked}
use Rattle.rules.specs.Text.{bytes, decimal, line, first_line}

-- "the cheapest plan's cost, the HEFT plan's cost; or the refusal": number, place.
pub data Range : Type 0 where
  between : (cheapest HEFT : ℕ) → Range
  no_range : (number place : ℕ) → Range

unfoldable pub range_of : (cheapest HEFT : Answer) → Range
range_of (planned n length cost left) (planned n' length' cost' left') = between cost cost'
range_of (planned n length cost left) (refused number place) = no_range number place
range_of (refused number place) HEFT = no_range number place

-- Both asked for alone, with 64 rows lent.
unfoldable pub range : List ℕ → Range
range s = range_of (answer_asked by_cheapest s 64) (answer_asked by_HEFT s 64)

-- "`range `, the cheapest plan's cost, the HEFT plan's cost; or `no `, number, place"
unfoldable pub range_line : Range → List ℕ
range_line (between cheapest HEFT) = bytes "range " ++ line (decimal cheapest) (decimal HEFT ∷ [])
range_line (no_range number place) = first_line (refused number place)

unfoldable pub range_text : List ℕ → List ℕ
range_text s = range_line (range s)

unfoldable pub range_program : List ℕ → List ℕ
range_program input = range_text (take 16_384 input)
