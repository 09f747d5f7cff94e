-- The starred cases of document 01: one list, one theorem. The checker computes them from the definitions.
use Rattle.std.specs.Prelude.{ℕ, ◌*◌, ◌≡◌, refl, List, [], ◌∷◌, ◌++◌, map, length, take, drop}
use Prim.Native.String.{String}
use Rattle.rules.specs.Answer.{planned, refused, answer, rows_after}
use Rattle.rules.specs.Multiplied.{multiplied_row, multiplied_place, multiplied_answer}
use Rattle.rules.specs.Text.{bytes, program}
use Rattle.rules.specs.Cases.{H_record, D_record, P_record, T_record, W_record, E_record, row, four_rows, Case, refused_case, planned_case}
use Rattle.rules.specs.Cases.{given, All_given, answer_multiplied, ranks_in, ranks}

-- "Sample S(budget): n 3, m 2, no `D`; prices 1 and 3; minutes prep 10, 4; left 8, 4; right 6, 2; edges 0 to 1 transfer 2, 0 to 2 transfer 3."
-- Times are multiplied by a, prices by b; some cases have another first label, a `D`, or an edge more.
unfoldable pub sample : ℕ → ℕ → ℕ → String → List ℕ → List ℕ → List ℕ
sample a b budget first_label deadline more =
    H_record 3 2 budget
    ++ deadline
    ++ P_record 0 (b * 1)
    ++ P_record 1 (b * 3)
    ++ T_record 0 first_label
    ++ W_record 0 0 (a * 10)
    ++ W_record 0 1 (a * 4)
    ++ T_record 1 "left    "
    ++ W_record 1 0 (a * 8)
    ++ W_record 1 1 (a * 4)
    ++ T_record 2 "right   "
    ++ W_record 2 0 (a * 6)
    ++ W_record 2 1 (a * 2)
    ++ E_record 0 1 (a * 2)
    ++ E_record 0 2 (a * 3)
    ++ more
    ++ bytes "Z"

unfoldable pub S : ℕ → List ℕ
S budget = sample 1 1 budget "prep    " [] []

unfoldable pub one_task : List ℕ
one_task = H_record 1 1 0 ++ P_record 0 0 ++ T_record 0 "only    " ++ W_record 0 0 1 ++ bytes "Z"

unfoldable pub cases : List Case
cases =
    planned_case (S 28) (planned 3 14 26 2) (row 1 0 4 12 ∷ row 0 6 14 8 ∷ row 1 4 6 6 ∷ [])
    ∷ planned_case (S 24) (planned 3 18 24 0) (row 0 0 10 10 ∷ row 0 10 18 8 ∷ row 1 13 15 6 ∷ [])
    ∷ refused_case (S 23) 9 24
    ∷ planned_case (S 100) (planned 3 10 30 70) (row 1 0 4 12 ∷ row 1 4 8 12 ∷ row 1 8 10 6 ∷ [])
    ∷ planned_case (sample 3 2 168 "prep    " [] []) (planned 3 42 156 12) (row 1 0 12 72 ∷ row 0 18 42 48 ∷ row 1 12 18 36 ∷ [])
    ∷ refused_case [] 1 0
    ∷ refused_case (take 83 (S 28)) 1 83
    ∷ refused_case (S 28 ++ bytes "Z") 6 84
    ∷ refused_case (bytes "P" ++ drop 1 (S 28)) 2 0
    ∷ refused_case (sample 1 1 28 ";rep    " [] []) 5 13
    ∷ refused_case (sample 1 1 28 "prep    " [] (E_record 1 0 0)) 8 0
    ∷ record { input = S 28; lent = take 2 four_rows; due = record { answer = refused 7 3; rows = take 2 four_rows } }
    ∷ refused_case (sample 1 1 28 "prep    " (D_record 13) []) 11 14
    ∷ planned_case (sample 1 1 28 "prep    " (D_record 14) []) (planned 3 14 26 2) (row 1 0 4 12 ∷ row 0 6 14 8 ∷ row 1 4 6 6 ∷ [])
    ∷ planned_case one_task (planned 1 1 0 0) (row 0 0 1 0 ∷ [])
    ∷ []

pub starred : All_given cases
unfolding given sample S one_task cases
starred =
    (refl, (refl, (refl, (refl, (refl, (refl, (refl, (refl, (refl, (refl, (refl, (refl, (refl, (refl, (refl, tt)))))))))))))))

-- "It has 84 bytes. Ranks 30, 12, 8. S(28) prints:"
pub sampled : (length (S 28) ≡ 84) × (ranks (S 28) ≡ 30 ∷ 12 ∷ 8 ∷ [])
unfolding given sample S ranks_in ranks
sampled = (refl, refl)

pub printed :
    (program (S 28) ≡ bytes "plan 3 14 26 2\nprep 1 0 4 12\nleft 0 6 14 8\nright 1 4 6 6\n")
    × (program (S 23) ≡ bytes "no 9 24\n")
unfolding given sample S
printed = (refl, refl)

-- A request, and one with its times by 3 and its prices by 2: the second's answer is the first's multiplied.
abbrev pub Tripled : List ℕ → List ℕ → Type 0
Tripled once thrice = answer thrice 64 ≡ multiplied_answer 3 2 (answer once 64)

-- Refusals 9, 11 and 8; the plan, with its rows; and the plan of the multiplied workflow, with a deadline that it just keeps.
pub sample_multiplied :
    Tripled (S 23) (sample 3 2 138 "prep    " [] [])
    × Tripled (sample 1 1 28 "prep    " (D_record 13) []) (sample 3 2 168 "prep    " (D_record 39) [])
    × Tripled (sample 1 1 28 "prep    " [] (E_record 1 0 0)) (sample 3 2 168 "prep    " [] (E_record 1 0 0))
    × Tripled (S 28) (sample 3 2 168 "prep    " [] [])
    × (rows_after (sample 3 2 168 "prep    " [] []) (take 3 four_rows) ≡ map (multiplied_row 3 2) (rows_after (S 28) (take 3 four_rows)))
    × (answer_multiplied 3 2 (sample 1 1 28 "prep    " (D_record 14) []) ≡ planned 3 42 156 12)
unfolding given sample S answer_multiplied multiplied_place multiplied_answer multiplied_row
sample_multiplied = (refl, refl, refl, refl, refl, refl)
