-- The printed plan.
use Rattle.std.specs.Prelude.{ℕ, zero, suc, ◌+◌, ◌/◌, ◌%◌, cond, List, [], ◌∷◌, ◌++◌, take, ltb}
use Prim.Native.Char.{code}
use Prim.Native.String.{String}
use Rattle.rules.specs.Labels.{label}
use Rattle.rules.specs.Rows.{Row, row_of}
use Rattle.rules.specs.Method.{Name, by_HBCS}
use Rattle.rules.specs.Answer.{Outcome, plan, refusal, outcome_asked, Answer, planned, refused, answer_asked}

-- The bytes of a quoted text. Every text quoted in these files is ASCII.
unfoldable pub bytes : String → List ℕ
bytes String.[] = []
bytes (String.◌∷◌ c rest) = code c ∷ bytes rest

-- "numbers are decimal": the digits of x, of which there are at most x + 1.
unfoldable pub digits : ℕ → ℕ → List ℕ
digits zero x = []
digits (suc most) x =
    let longer = digits most (x / 10) ++ ((48 + x % 10) ∷ []) in
    cond (ltb x 10) ((48 + x) ∷ []) longer

unfoldable pub decimal : ℕ → List ℕ
decimal x = digits (x + 1) x

-- "Fields are parted by one space, [..] lines end with a line feed."
unfoldable pub line : List ℕ → List (List ℕ) → List ℕ
line field [] = field ++ bytes "\n"
line field (next ∷ fields) = field ++ (bytes " " ++ line next fields)

-- "`plan `, n, length, cost, budget left, [..]; or `no `, number, place"
unfoldable pub first_line : Answer → List ℕ
first_line (planned n length cost left) =
    bytes "plan " ++ line (decimal n) (decimal length ∷ decimal cost ∷ decimal left ∷ [])
first_line (refused number place) = bytes "no " ++ line (decimal number) (decimal place ∷ [])

-- "then one line per task: label, processor, start, finish, cost"
unfoldable pub row_line : List ℕ → Row → List ℕ
row_line name r = line name (decimal r.processor ∷ decimal r.start ∷ decimal r.finish ∷ decimal r.cost ∷ [])

unfoldable pub lines : ℕ → (ℕ → List ℕ) → List ℕ
lines zero Line_of = []
lines (suc k) Line_of = lines k Line_of ++ Line_of k

unfoldable pub row_lines : List ℕ → Outcome → List ℕ
row_lines s (plan W rows) = lines W.tasks (λ i. row_line (label s i) (row_of rows i))
row_lines s (refusal number place) = []

-- "The program lends 64 rows": the text of the whole input s, by the method that is asked for.
unfoldable pub text_asked : Name → List ℕ → List ℕ
text_asked M s = first_line (answer_asked M s 64) ++ row_lines s (outcome_asked M s 64)

abbrev pub text : List ℕ → List ℕ
text s = text_asked by_HBCS s

-- "and reads at most 16,384 bytes from standard input": what it writes.
unfoldable pub program_asked : Name → List ℕ → List ℕ
program_asked M input = text_asked M (take 16_384 input)

abbrev pub program : List ℕ → List ℕ
program input = program_asked by_HBCS input
