-- What a label is: document 01's list and its sentence on labels. Nothing here says how one is checked.
use Rattle.std.specs.Prelude.{◌≡◌, ℕ, ◌+◌, ◌<◌, ◌≤◌, Bool, true, false, length, get_or}
use mathlib.Core.List.{List, [], ◌∷◌, Memᴰ}

-- "The list has sixty-four bytes: `A`-`Z`, `a`-`z`, `0`-`9`, `-`, `_`."
abbrev pub the_list : List ℕ
the_list =
    65 ∷ 66 ∷ 67 ∷ 68 ∷ 69 ∷ 70 ∷ 71 ∷ 72 ∷ 73 ∷ 74 ∷ 75 ∷ 76 ∷ 77 ∷
    78 ∷ 79 ∷ 80 ∷ 81 ∷ 82 ∷ 83 ∷ 84 ∷ 85 ∷ 86 ∷ 87 ∷ 88 ∷ 89 ∷ 90 ∷
    97 ∷ 98 ∷ 99 ∷ 100 ∷ 101 ∷ 102 ∷ 103 ∷ 104 ∷ 105 ∷ 106 ∷ 107 ∷ 108 ∷ 109 ∷
    110 ∷ 111 ∷ 112 ∷ 113 ∷ 114 ∷ 115 ∷ 116 ∷ 117 ∷ 118 ∷ 119 ∷ 120 ∷ 121 ∷ 122 ∷
    48 ∷ 49 ∷ 50 ∷ 51 ∷ 52 ∷ 53 ∷ 54 ∷ 55 ∷ 56 ∷ 57 ∷
    45 ∷ 95 ∷ []

-- "A byte passes exactly when it stands there."
abbrev pub Listed : ℕ → Type 0
Listed b = Memᴰ b the_list

-- "A label is 1 to 8 bytes of the list, then spaces to the end of the field": the field is the eight bytes of s at `at`,
-- and `len` is the label's length without its spaces.
pub record Label (s : List ℕ) (at len : ℕ) : Type 0 where
  pub whole : at + 8 ≤ length s
  pub one_or_more : 1 ≤ len
  pub eight_or_fewer : len ≤ 8
  pub of_the_list : (k : ℕ) → k < len → Listed (get_or s (at + k) 0)
  pub then_spaces : (k : ℕ) → len ≤ k → k < 8 → get_or s (at + k) 0 ≡ 32

-- r tells whether b stands in the list.
pub record ListedTold (b : ℕ) (r : Bool) : Type 0 where
  pub passes : r ≡ true → Listed b
  pub fails : r ≡ false → Listed b → ⊥

-- r is the length of the label at `at`; 0 where no label stands there.
pub record LabelLength (s : List ℕ) (at r : ℕ) : Type 0 where
  pub label : 1 ≤ r → Label s at r
  pub none : r ≡ 0 → (len : ℕ) → Label s at len → ⊥

-- r tells whether a label stands at `at`.
pub record LabelTold (s : List ℕ) (at : ℕ) (r : Bool) : Type 0 where
  pub passes : r ≡ true → (len : ℕ) × Label s at len
  pub fails : r ≡ false → (len : ℕ) → Label s at len → ⊥
