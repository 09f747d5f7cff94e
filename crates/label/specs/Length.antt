-- The label's length as a number that computes, for definitions that are to be executed. `Laws` proves that it is the one `Label` speaks of.
use Rattle.std.specs.Prelude.{ℕ, zero, suc, ◌+◌, Bool, true, false, cond, ◌&&◌, ◌||◌, List, [], ◌∷◌, length, get_or, leb, ltb, eqb}
use Rattle.label.specs.Label.{the_list}

unfoldable pub stands_in : List ℕ → ℕ → Bool
stands_in [] b = false
stands_in (x ∷ xs) b = eqb x b || stands_in xs b

-- Every number below k passes the test.
unfoldable pub all : ℕ → (ℕ → Bool) → Bool
all zero p = true
all (suc k) p = all k p && p k

-- The eight bytes at `at` are `len` bytes of the list, then spaces.
unfoldable pub is_label : List ℕ → ℕ → ℕ → Bool
is_label s at len =
    leb (at + 8) (length s)
    && (leb 1 len
    && (leb len 8
    && (all len (λ k. stands_in the_list (get_or s (at + k) 0))
    && all 8 (λ k. ltb k len || eqb (get_or s (at + k) 0) 32))))

-- The largest length up to `most` at which they are; 0 where there is none.
unfoldable pub length_up_to : List ℕ → ℕ → ℕ → ℕ
length_up_to s at zero = 0
length_up_to s at (suc k) = let less = length_up_to s at k in cond (is_label s at (suc k)) (suc k) less

-- The length, without its spaces, of the label at `at`; 0 where no label stands there.
unfoldable pub label_length : List ℕ → ℕ → ℕ
label_length s at = length_up_to s at 8
