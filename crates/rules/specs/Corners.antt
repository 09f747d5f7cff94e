-- Cases beside the starred ones, where slips that look right would change the answer: for each method one list, one theorem.
use Rattle.std.specs.Prelude.{ℕ, ◌*◌, ◌≡◌, refl, List, [], ◌∷◌, ◌++◌, take, drop}
use Prim.Native.String.{String}
use Rattle.rules.specs.Fields.{P, Q}
use Rattle.rules.specs.Labels.{empty_start, label_lookup, label}
use Rattle.rules.specs.Method.{by_cheapest, by_HEFT}
use Rattle.rules.specs.Answer.{planned, refused, answer}
use Rattle.rules.specs.Buffers.{Buffers, rows_lent, row_in, column_after, buffers_written, buffers_asked, buffers_after}
use Rattle.rules.specs.Text.{bytes, text_asked}
use Rattle.rules.specs.Range.{between, no_range, range, range_text}
use Rattle.rules.specs.Why.{late_data, in_window, beside_row, own_start, no_task, no_plan, why_not, why_text, why_program}
use Rattle.rules.specs.Cases.{H_record, D_record, K_record, P_record, Q_record, M_record, T_record, W_record, E_record, row, four_rows, Case}
use Rattle.rules.specs.Cases.{refused_case, planned_case, given, All_given, given_by, All_given_by, answer_multiplied, kinds_in, kinds}
use Rattle.rules.specs.Starred.{sample, S}

-- Two tasks whose means on two processors differ by less than a minute, so that only the sums part them: task 1 comes first, at any a.
near_means : ℕ → List ℕ
near_means a =
    H_record 2 2 (a * 10)
    ++ P_record 0 1
    ++ P_record 1 1
    ++ T_record 0 "even    "
    ++ W_record 0 0 (a * 1)
    ++ W_record 0 1 (a * 1)
    ++ T_record 1 "odd     "
    ++ W_record 1 0 (a * 1)
    ++ W_record 1 1 (a * 2)
    ++ bytes "Z"

-- The fastest processor is past the budget, and it is best all the same: so the dearer of the two others may be taken, and wins their tie.
best_past_budget : List ℕ
best_past_budget =
    H_record 1 3 50
    ++ P_record 0 2
    ++ P_record 1 1
    ++ P_record 2 20
    ++ T_record 0 "one     "
    ++ W_record 0 0 10
    ++ W_record 0 1 10
    ++ W_record 0 2 5
    ++ bytes "Z"

-- Two processors finish at once: best is the cheaper, and the dearer may not be taken.
equal_finishes : List ℕ
equal_finishes =
    H_record 1 2 50 ++ P_record 0 2 ++ P_record 1 1 ++ T_record 0 "one     " ++ W_record 0 0 10 ++ W_record 0 1 10 ++ bytes "Z"

-- Two tasks of 3 minutes on one processor, with these edges. Without any, their R are equal.
pub two_tasks : List ℕ → List ℕ
two_tasks edges =
    H_record 2 1 50 ++ P_record 0 1 ++ T_record 0 "one     " ++ W_record 0 0 3 ++ T_record 1 "two     " ++ W_record 1 0 3 ++ edges ++ bytes "Z"

-- One task on two processors, with what stands before the first `P` and after it.
deadlines : List ℕ → List ℕ → List ℕ
deadlines before after =
    H_record 1 2 9
    ++ before
    ++ P_record 0 1
    ++ after
    ++ P_record 1 1
    ++ T_record 0 "one     "
    ++ W_record 0 0 3
    ++ W_record 0 1 3
    ++ bytes "Z"

-- Two processors for nothing. Task 0 takes 2 minutes on the first, and task 1 takes 4 on the second and waits there for its data; what comes before it
-- there has a gap to start in. Other tasks, with these minutes on the second, are slow on the first.
beside : ℕ → String → ℕ → ℕ → List ℕ
beside task label slow minutes = T_record task label ++ W_record task 0 slow ++ W_record task 1 minutes

waits : ℕ → List ℕ → List ℕ
waits tasks rest =
    H_record tasks 2 0 ++ P_record 0 0 ++ P_record 1 0 ++ beside 0 "one     " 2 20 ++ beside 1 "two     " 20 4 ++ rest ++ bytes "Z"

-- A task of 5 minutes, and this transfer before task 1: in the gap before the first row they are just as long, or one minute short.
pub gap_of : ℕ → List ℕ
gap_of transfer = waits 3 (beside 2 "three   " 15 5 ++ E_record 0 1 transfer)

-- Behind a row of these minutes, which begins at 0, and before task 1: a gap between two rows.
between_rows : ℕ → List ℕ → List ℕ
between_rows minutes edges = waits 4 (beside 2 "three   " 25 minutes ++ beside 3 "four    " 19 4 ++ edges)

-- Two gaps of 5 minutes, and a task of 3.
two_gaps : List ℕ
two_gaps = waits 4 (beside 2 "three   " 20 3 ++ beside 3 "four    " 19 3 ++ E_record 0 1 3 ++ E_record 0 2 12)

-- Its data is there at minute 8, when the gap before task 1 is past.
ready_past_the_gap : List ℕ
ready_past_the_gap = waits 3 (beside 2 "three   " 19 3 ++ E_record 0 1 3 ++ E_record 0 2 6)

-- One task on a processor that bills a least amount: with this budget, these minutes, at this price and with this minimum.
pub billed : ℕ → ℕ → ℕ → ℕ → List ℕ
billed budget minutes price minimum =
    H_record 1 1 budget ++ Q_record 0 price minimum ++ T_record 0 "one     " ++ W_record 0 0 minutes ++ bytes "Z"

-- One task, with these processor records: it takes 10 minutes on either of two, so that the cheaper is best.
cheaper_of : List ℕ → List ℕ
cheaper_of processors =
    H_record 1 2 50 ++ processors ++ T_record 0 "one     " ++ W_record 0 0 10 ++ W_record 0 1 10 ++ bytes "Z"

-- One task of these minutes on one processor that is down so. Its windows begin at offset 10.
pub down : List ℕ → ℕ → List ℕ
down windows minutes = H_record 1 1 50 ++ P_record 0 1 ++ windows ++ T_record 0 "one     " ++ W_record 0 0 minutes ++ bytes "Z"

-- Windows of a minute each, at every second minute, and a last one.
four_windows : List ℕ
four_windows = M_record 0 0 1 ++ M_record 0 2 3 ++ M_record 0 4 5 ++ M_record 0 6 7

-- A window from 0 to 65,541, of which two bytes say 5.
past_two_bytes : List ℕ
past_two_bytes = bytes "M" ++ (0 ∷ 0 ∷ 0 ∷ 0 ∷ 0 ∷ 5 ∷ 0 ∷ 1 ∷ 0 ∷ [])

-- Two tasks of 3 minutes on one processor that is down from this minute on, up to 8.
pub down_from : ℕ → List ℕ
down_from begin =
    H_record 2 1 50 ++ P_record 0 1 ++ M_record 0 begin 8 ++ T_record 0 "one     " ++ W_record 0 0 3 ++ T_record 1 "two     " ++ W_record 1 0 3 ++ bytes "Z"

-- The cheaper of two processors, which are down so.
pub cheaper_down : List ℕ → List ℕ
cheaper_down windows = cheaper_of (P_record 0 2 ++ P_record 1 1 ++ windows)

-- A task on one processor at price 1; tasks there, and their edges.
unfoldable pub alone : ℕ → String → ℕ → List ℕ
alone task label minutes = T_record task label ++ W_record task 0 minutes

unfoldable pub chain : ℕ → List ℕ → List ℕ
chain tasks rest = H_record tasks 1 50 ++ P_record 0 1 ++ rest ++ bytes "Z"

-- All minutes are 0.
all_markers : List ℕ
all_markers = chain 2 (alone 0 "one     " 0 ++ alone 1 "two     " 0 ++ E_record 1 0 0)

-- Task 0 waits for marker 2, and task 1 for none; the R of all three is 5. So task 1 comes first, then the marker.
pub marker_between : List ℕ
marker_between = chain 3 (alone 0 "one     " 5 ++ alone 1 "two     " 5 ++ alone 2 "marker  " 0 ++ E_record 2 0 0)

-- Marker 0 waits for marker 1, which waits for task 2; the R of both is 0.
unfoldable pub marker_before : List ℕ
marker_before = chain 3 (alone 0 "last    " 0 ++ alone 1 "marker  " 0 ++ alone 2 "first   " 5 ++ E_record 1 0 0 ++ E_record 2 1 0)

-- Two markers and a task wait for task 0.
two_markers : List ℕ
two_markers =
    chain 4 (alone 0 "one     " 5 ++ alone 1 "marker  " 0 ++ alone 2 "marker  " 0 ++ alone 3 "two     " 3 ++ E_record 0 1 0 ++ E_record 0 2 0 ++ E_record 2 3 0)

-- A marker whose data is there at minute 3, when the processor goes down.
marker_down : List ℕ
marker_down = H_record 2 1 50 ++ P_record 0 1 ++ M_record 0 3 9 ++ alone 0 "one     " 3 ++ alone 1 "marker  " 0 ++ E_record 0 1 0 ++ bytes "Z"

-- A marker on the second processor, 19 minutes on the first. Its data is there at minute 4, while task 1 runs there.
pub marker_in_row : List ℕ
marker_in_row = waits 3 (beside 2 "marker  " 19 0 ++ E_record 0 1 1 ++ E_record 0 2 2)

-- Two processors for nothing, and task 0 on the first: a marker after it has its data on the second at minute 5.
marker_after : List ℕ → List ℕ → ℕ → List ℕ
marker_after deadline rest tasks =
    H_record tasks 2 0 ++ deadline ++ P_record 0 0 ++ P_record 1 0 ++ beside 0 "one     " 2 20 ++ beside 1 "marker  " 20 0 ++ rest ++ E_record 0 1 3 ++ bytes "Z"

-- Marker 0 waits for task 1 and for marker 2, which waits for data from two processors; the R of both markers is 0.
pub marker_for_two : List ℕ
marker_for_two =
    H_record 4 2 0
    ++ P_record 0 0
    ++ P_record 1 0
    ++ beside 0 "last    " 0 0
    ++ beside 1 "one     " 5 20
    ++ beside 2 "marker  " 0 0
    ++ beside 3 "two     " 20 4
    ++ E_record 1 0 0
    ++ E_record 1 2 4
    ++ E_record 2 0 0
    ++ E_record 3 2 3
    ++ bytes "Z"

-- The sample with other processor records: it has two `P`s behind its `H`.
abbrev pub with_processors : List ℕ → List ℕ → List ℕ
with_processors processors sample = take 7 sample ++ processors ++ drop 13 sample

-- The sample with budget 0, and with these records at offset 7, behind its `H`.
pub S_with : List ℕ → List ℕ
S_with records = sample 1 1 0 "prep    " records []

-- The sample where processor 1 is down from 4 to 11: its HEFT plan has left on processor 0, and costs 26.
pub down_early : List ℕ → List ℕ
down_early share = with_processors (share ++ P_record 0 1 ++ P_record 1 3 ++ M_record 1 4 11) (S 0)

-- The sample's plans by what they cost, with this much left: the cheapest, the one between, the HEFT plan.
for_24 : List ℕ → ℕ → Case
for_24 input left = planned_case input (planned 3 18 24 left) (row 0 0 10 10 ∷ row 0 10 18 8 ∷ row 1 13 15 6 ∷ [])

for_26 : List ℕ → ℕ → Case
for_26 input left = planned_case input (planned 3 14 26 left) (row 1 0 4 12 ∷ row 0 6 14 8 ∷ row 1 4 6 6 ∷ [])

for_30 : List ℕ → ℕ → Case
for_30 input left = planned_case input (planned 3 10 30 left) (row 1 0 4 12 ∷ row 1 4 8 12 ∷ row 1 8 10 6 ∷ [])

-- Two rows lent for the sample's three tasks.
two_rows_lent : List ℕ → Case
two_rows_lent input = record { input = input; lent = take 2 four_rows; due = record { answer = refused 7 3; rows = take 2 four_rows } }

pub corners : List Case
corners =
    planned_case (near_means 1) (planned 2 1 2 8) (row 1 0 1 1 ∷ row 0 0 1 1 ∷ [])
    ∷ planned_case (near_means 2) (planned 2 2 4 16) (row 1 0 2 2 ∷ row 0 0 2 2 ∷ [])
    ∷ planned_case best_past_budget (planned 1 10 20 30) (row 0 0 10 20 ∷ [])
    ∷ planned_case equal_finishes (planned 1 10 10 40) (row 1 0 10 10 ∷ [])
    ∷ planned_case (two_tasks []) (planned 2 6 6 44) (row 0 0 3 3 ∷ row 0 3 6 3 ∷ [])
    ∷ planned_case (deadlines (D_record 3) []) (planned 1 3 3 6) (row 0 0 3 3 ∷ [])
    ∷ refused_case (deadlines [] (D_record 3)) 2 10
    ∷ refused_case (deadlines (D_record 3 ++ D_record 3) []) 2 12
    ∷ refused_case (two_tasks (E_record 0 1 5 ++ E_record 0 0 5)) 3 45
    ∷ refused_case (two_tasks (E_record 1 0 5 ++ E_record 0 9 5)) 3 45
    ∷ refused_case (two_tasks (E_record 0 1 1_001)) 4 40
    ∷ planned_case (gap_of 3) (planned 3 9 0 0) (row 0 0 2 0 ∷ row 1 5 9 0 ∷ row 1 0 5 0 ∷ [])
    ∷ planned_case (gap_of 2) (planned 3 13 0 0) (row 0 0 2 0 ∷ row 1 4 8 0 ∷ row 1 8 13 0 ∷ [])
    ∷ planned_case (gap_of 9) (planned 3 15 0 0) (row 0 0 2 0 ∷ row 1 11 15 0 ∷ row 1 0 5 0 ∷ [])
    ∷ planned_case (between_rows 3 (E_record 0 1 6)) (planned 4 12 0 0) (row 0 0 2 0 ∷ row 1 8 12 0 ∷ row 1 0 3 0 ∷ row 1 3 7 0 ∷ [])
    ∷ planned_case (between_rows 3 (E_record 0 1 9 ++ E_record 0 3 3)) (planned 4 15 0 0)
    (row 0 0 2 0 ∷ row 1 11 15 0 ∷ row 1 0 3 0 ∷ row 1 5 9 0 ∷ [])
    ∷ planned_case (between_rows 6 (E_record 0 1 9 ++ E_record 0 3 3)) (planned 4 15 0 0)
    (row 0 0 2 0 ∷ row 1 11 15 0 ∷ row 1 0 6 0 ∷ row 1 6 10 0 ∷ [])
    ∷ planned_case two_gaps (planned 4 17 0 0) (row 0 0 2 0 ∷ row 1 5 9 0 ∷ row 1 14 17 0 ∷ row 1 0 3 0 ∷ [])
    ∷ planned_case ready_past_the_gap (planned 3 12 0 0) (row 0 0 2 0 ∷ row 1 5 9 0 ∷ row 1 9 12 0 ∷ [])
    ∷ planned_case (billed 20 3 2 5) (planned 1 3 6 14) (row 0 0 3 6 ∷ [])
    ∷ planned_case (billed 20 3 2 6) (planned 1 3 6 14) (row 0 0 3 6 ∷ [])
    ∷ planned_case (billed 20 3 2 7) (planned 1 3 7 13) (row 0 0 3 7 ∷ [])
    ∷ planned_case (billed 20 3 0 5) (planned 1 3 5 15) (row 0 0 3 5 ∷ [])
    ∷ planned_case (billed 300 3 0 258) (planned 1 3 258 42) (row 0 0 3 258 ∷ [])
    ∷ planned_case (billed 10_000 3 0 10_000) (planned 1 3 10_000 0) (row 0 0 3 10_000 ∷ [])
    ∷ refused_case (billed 9_999 3 0 10_000) 9 10_000
    ∷ refused_case (billed 20 3 0 10_001) 4 7
    ∷ refused_case (billed 20 3 101 0) 4 7
    ∷ refused_case (take 11 (billed 20 3 0 5)) 1 7
    ∷ refused_case (cheaper_of (P_record 0 2 ++ Q_record 0 1 10_001)) 3 10
    ∷ refused_case (cheaper_of (P_record 0 2 ++ Q_record 1 1 0 ++ Q_record 2 1 0)) 2 15
    ∷ planned_case (cheaper_of (P_record 0 2 ++ Q_record 1 1 0)) (planned 1 10 10 40) (row 1 0 10 10 ∷ [])
    ∷ planned_case (cheaper_of (P_record 0 2 ++ Q_record 1 1 19)) (planned 1 10 19 31) (row 1 0 10 19 ∷ [])
    ∷ planned_case (cheaper_of (P_record 0 2 ++ Q_record 1 1 20)) (planned 1 10 20 30) (row 0 0 10 20 ∷ [])
    ∷ planned_case (cheaper_of (Q_record 0 1 25 ++ P_record 1 2)) (planned 1 10 20 30) (row 1 0 10 20 ∷ [])
    ∷ planned_case (with_processors (Q_record 0 1 0 ++ Q_record 1 3 0) (S 28)) (planned 3 14 26 2) (row 1 0 4 12 ∷ row 0 6 14 8 ∷ row 1 4 6 6 ∷ [])
    ∷ planned_case (with_processors (P_record 0 1 ++ Q_record 1 3 10) (S 28)) (planned 3 20 26 2) (row 1 0 4 12 ∷ row 0 6 14 8 ∷ row 0 14 20 6 ∷ [])
    ∷ planned_case (down (M_record 0 0 10) 5) (planned 1 15 5 45) (row 0 10 15 5 ∷ [])
    ∷ planned_case (down (M_record 0 5 9) 5) (planned 1 5 5 45) (row 0 0 5 5 ∷ [])
    ∷ planned_case (down (M_record 0 5 9) 6) (planned 1 15 6 44) (row 0 9 15 6 ∷ [])
    ∷ planned_case (down (M_record 0 0 4 ++ M_record 0 9 12) 5) (planned 1 9 5 45) (row 0 4 9 5 ∷ [])
    ∷ planned_case (down (M_record 0 0 4 ++ M_record 0 9 12) 6) (planned 1 18 6 44) (row 0 12 18 6 ∷ [])
    ∷ planned_case (down (M_record 0 0 4 ++ M_record 0 4 9) 5) (planned 1 14 5 45) (row 0 9 14 5 ∷ [])
    ∷ planned_case (down four_windows 2) (planned 1 9 2 48) (row 0 7 9 2 ∷ [])
    ∷ refused_case (down (four_windows ++ M_record 0 8 9) 2) 4 50
    ∷ planned_case (down (M_record 0 0 258) 5) (planned 1 263 5 45) (row 0 258 263 5 ∷ [])
    ∷ planned_case (down (M_record 0 0 20_000) 5) (planned 1 20_005 5 45) (row 0 20_000 20_005 5 ∷ [])
    ∷ refused_case (down (M_record 0 0 20_001) 5) 4 10
    ∷ refused_case (down past_two_bytes 5) 4 10
    ∷ refused_case (down (M_record 0 5 5) 5) 4 10
    ∷ refused_case (down (M_record 1 0 5) 5) 4 10
    ∷ refused_case (down (M_record 0 0 4 ++ M_record 0 3 9) 5) 3 20
    ∷ refused_case (down (M_record 0 6 9 ++ M_record 0 0 4) 5) 3 20
    ∷ refused_case (down (M_record 0 6 9 ++ M_record 0 6 6) 5) 3 20
    ∷ refused_case (down (M_record 0 6 9 ++ M_record 0 8 20_001) 5) 3 20
    ∷ refused_case (down (M_record 0 6 9 ++ M_record 0 9 20_001) 5) 4 20
    ∷ refused_case (take 19 (down (M_record 0 0 10) 5)) 1 10
    ∷ refused_case (take 20 (down (M_record 0 0 10) 5)) 1 20
    ∷ refused_case (deadlines [] (M_record 0 0 10)) 2 10
    ∷ refused_case (two_tasks (M_record 0 0 10)) 2 40
    ∷ planned_case (down_from 6) (planned 2 6 6 44) (row 0 0 3 3 ∷ row 0 3 6 3 ∷ [])
    ∷ planned_case (down_from 5) (planned 2 11 6 44) (row 0 0 3 3 ∷ row 0 8 11 3 ∷ [])
    ∷ planned_case (cheaper_down (M_record 0 0 7 ++ M_record 1 0 7)) (planned 1 17 10 40) (row 1 7 17 10 ∷ [])
    ∷ planned_case (cheaper_down (M_record 0 0 5)) (planned 1 10 10 40) (row 1 0 10 10 ∷ [])
    ∷ planned_case (cheaper_down (M_record 1 0 5)) (planned 1 10 20 30) (row 0 0 10 20 ∷ [])
    ∷ planned_case (cheaper_down (M_record 0 9 12 ++ M_record 1 5 8)) (planned 1 18 10 40) (row 1 8 18 10 ∷ [])
    ∷ refused_case (cheaper_down (M_record 1 0 5 ++ M_record 0 9 12)) 3 23
    ∷ planned_case (cheaper_down (four_windows ++ M_record 1 0 5)) (planned 1 15 10 40) (row 1 5 15 10 ∷ [])
    ∷ planned_case all_markers (planned 2 0 0 50) (row 0 0 0 0 ∷ row 0 0 0 0 ∷ [])
    ∷ planned_case marker_between (planned 3 10 10 40) (row 0 5 10 5 ∷ row 0 0 5 5 ∷ row 0 0 0 0 ∷ [])
    ∷ planned_case marker_before (planned 3 5 5 45) (row 0 5 5 0 ∷ row 0 5 5 0 ∷ row 0 0 5 5 ∷ [])
    ∷ planned_case two_markers (planned 4 8 8 42) (row 0 0 5 5 ∷ row 0 5 5 0 ∷ row 0 5 5 0 ∷ row 0 5 8 3 ∷ [])
    ∷ planned_case (down (M_record 0 0 10) 0) (planned 1 0 0 50) (row 0 0 0 0 ∷ [])
    ∷ planned_case marker_down (planned 2 3 3 47) (row 0 0 3 3 ∷ row 0 3 3 0 ∷ [])
    ∷ planned_case marker_in_row (planned 3 7 0 0) (row 0 0 2 0 ∷ row 1 3 7 0 ∷ row 1 4 4 0 ∷ [])
    ∷ planned_case (marker_after [] [] 2) (planned 2 5 0 0) (row 0 0 2 0 ∷ row 1 5 5 0 ∷ [])
    ∷ planned_case (marker_after (D_record 5) [] 2) (planned 2 5 0 0) (row 0 0 2 0 ∷ row 1 5 5 0 ∷ [])
    ∷ refused_case (marker_after (D_record 4) [] 2) 11 5
    ∷ planned_case (marker_after [] (beside 2 "two     " 14 6) 3) (planned 3 6 0 0) (row 0 0 2 0 ∷ row 1 5 5 0 ∷ row 1 0 6 0 ∷ [])
    ∷ planned_case marker_for_two (planned 4 7 0 0) (row 0 7 7 0 ∷ row 0 0 5 0 ∷ row 0 7 7 0 ∷ row 1 0 4 0 ∷ [])
    ∷ planned_case (billed 20 0 2 5) (planned 1 0 5 15) (row 0 0 0 5 ∷ [])
    ∷ refused_case (billed 4 0 2 5) 9 5
    ∷ planned_case (billed 4_000 2_000 2 5) (planned 1 2_000 4_000 0) (row 0 0 2_000 4_000 ∷ [])
    ∷ refused_case (billed 20 2_001 2 5) 4 22
    ∷ for_24 (S_with (K_record 0)) 0
    ∷ for_24 (S_with (K_record 258)) 1
    ∷ for_24 (S_with (K_record 333)) 1
    ∷ for_26 (S_with (K_record 334)) 0
    ∷ for_26 (S_with (K_record 513)) 1
    ∷ for_26 (S_with (K_record 666)) 1
    ∷ for_26 (S_with (K_record 667)) 2
    ∷ for_26 (S_with (K_record 999)) 3
    ∷ for_30 (S_with (K_record 1_000)) 0
    ∷ refused_case (S_with (K_record 1_001)) 4 7
    ∷ refused_case (sample 1 1 1 "prep    " (K_record 667) []) 4 7
    ∷ refused_case (take 9 (sample 1 1 1 "prep    " (K_record 667) [])) 1 7
    ∷ refused_case (take 9 (S_with (K_record 667))) 1 7
    ∷ refused_case (take 10 (S_with (K_record 667))) 1 10
    ∷ refused_case (S_with (D_record 13 ++ K_record 667)) 11 14
    ∷ for_26 (S_with (D_record 14 ++ K_record 667)) 2
    ∷ refused_case (S_with (D_record 14 ++ K_record 1_001)) 4 12
    ∷ refused_case (S_with (K_record 667 ++ D_record 14)) 2 10
    ∷ refused_case (S_with (K_record 667 ++ K_record 667)) 2 10
    ∷ refused_case (with_processors (P_record 0 1 ++ K_record 667 ++ P_record 1 3) (S 0)) 2 10
    ∷ refused_case (sample 1 1 0 "prep    " (K_record 667) (E_record 1 0 0)) 8 0
    ∷ two_rows_lent (S_with (K_record 667))
    ∷ for_24 (down_early (K_record 999)) 1
    ∷ planned_case (down_early (K_record 1_000)) (planned 3 14 26 0) (row 1 0 4 12 ∷ row 0 6 14 8 ∷ row 1 11 13 6 ∷ [])
    ∷ planned_case (with_processors (K_record 1_000 ++ P_record 0 1 ++ P_record 1 3 ++ M_record 1 0 20) (S 0)) (planned 3 22 24 0)
    (row 0 0 10 10 ∷ row 0 10 18 8 ∷ row 1 20 22 6 ∷ [])
    ∷ planned_case (with_processors (K_record 500 ++ P_record 0 1 ++ Q_record 1 3 10) (S 0)) (planned 3 20 26 3)
    (row 1 0 4 12 ∷ row 0 6 14 8 ∷ row 0 14 20 6 ∷ [])
    ∷ []

pub in_corners : All_given corners
unfolding
    given near_means best_past_budget equal_finishes two_tasks deadlines beside waits gap_of between_rows two_gaps ready_past_the_gap
    billed cheaper_of down four_windows past_two_bytes down_from cheaper_down alone chain all_markers marker_between marker_before two_markers marker_down
    marker_in_row marker_after marker_for_two S_with down_early for_24 for_26 for_30 two_rows_lent sample S corners
in_corners =
    (refl, (refl, (refl, (refl, (refl, (refl, (refl, (refl, (refl, (refl, (refl, (refl, (refl, (refl, (refl, (refl, (refl, (refl, (refl, (refl, (refl, (refl, (refl, (refl, (refl, (refl, (refl, (refl, (refl, (refl, (refl, (refl, (refl, (refl, (refl, (refl, (refl, (refl, (refl, (refl, (refl, (refl, (refl, (refl, (refl, (refl, (refl, (refl, (refl, (refl, (refl, (refl, (refl, (refl, (refl, (refl, (refl, (refl, (refl, (refl, (refl, (refl, (refl, (refl, (refl, (refl, (refl, (refl, (refl, (refl, (refl, (refl, (refl, (refl, (refl, (refl, (refl, (refl, (refl, (refl, (refl, (refl, (refl, (refl, (refl, (refl, (refl, (refl, (refl, (refl, (refl, (refl, (refl, (refl, (refl, (refl, (refl, (refl, (refl, (refl, (refl, (refl, (refl, (refl, (refl, (refl, (refl, (refl, (refl, (refl, tt))))))))))))))))))))))))))))))))))))))))))))))))))))))))))))))))))))))))))))))))))))))))))))))))))))))))))))))

-- One task that costs the same on both processors, and takes half the minutes on the second.
equal_costs : List ℕ
equal_costs = H_record 1 2 0 ++ P_record 0 1 ++ P_record 1 2 ++ T_record 0 "one     " ++ W_record 0 0 10 ++ W_record 0 1 5 ++ bytes "Z"

-- A marker on the dear processor only, where its data is there at minute 11 if task 0 is on the other.
free_marker : List ℕ
free_marker = H_record 2 2 50 ++ P_record 0 1 ++ P_record 1 3 ++ beside 0 "one     " 5 2 ++ beside 1 "marker  " 4 0 ++ E_record 0 1 6 ++ bytes "Z"

-- The cheapest plan, asked for alone.
pub cheapest_corners : List Case
cheapest_corners =
    for_24 (S 28) 0
    ∷ for_24 (S 0) 0
    ∷ for_24 (S 23) 0
    ∷ for_24 (sample 1 1 28 "prep    " (D_record 5) []) 0
    ∷ for_24 (S_with (K_record 667)) 0
    ∷ for_24 (S_with (D_record 5 ++ K_record 1_000)) 0
    ∷ for_24 (down_early []) 0
    ∷ planned_case equal_costs (planned 1 5 10 0) (row 1 0 5 10 ∷ [])
    ∷ planned_case equal_finishes (planned 1 10 10 0) (row 1 0 10 10 ∷ [])
    ∷ planned_case (deadlines [] []) (planned 1 3 3 0) (row 0 0 3 3 ∷ [])
    ∷ planned_case best_past_budget (planned 1 10 10 0) (row 1 0 10 10 ∷ [])
    ∷ planned_case (cheaper_of (P_record 0 2 ++ Q_record 1 1 20)) (planned 1 10 20 0) (row 0 0 10 20 ∷ [])
    ∷ planned_case (cheaper_of (P_record 0 1 ++ P_record 1 1 ++ M_record 0 0 5)) (planned 1 10 10 0) (row 1 0 10 10 ∷ [])
    ∷ planned_case (cheaper_down (M_record 1 0 5)) (planned 1 15 10 0) (row 1 5 15 10 ∷ [])
    ∷ planned_case (near_means 1) (planned 2 1 2 0) (row 1 0 1 1 ∷ row 0 0 1 1 ∷ [])
    ∷ planned_case (gap_of 3) (planned 3 9 0 0) (row 0 0 2 0 ∷ row 1 5 9 0 ∷ row 1 0 5 0 ∷ [])
    ∷ planned_case free_marker (planned 2 11 5 0) (row 0 0 5 5 ∷ row 1 11 11 0 ∷ [])
    ∷ planned_case marker_before (planned 3 5 5 0) (row 0 5 5 0 ∷ row 0 5 5 0 ∷ row 0 0 5 5 ∷ [])
    ∷ planned_case (billed 4 0 2 5) (planned 1 0 5 0) (row 0 0 0 5 ∷ [])
    ∷ []

pub in_cheapest_corners : All_given_by by_cheapest cheapest_corners
unfolding
    given_by near_means best_past_budget equal_finishes deadlines beside waits gap_of billed cheaper_of cheaper_down alone chain marker_before
    S_with down_early for_24 equal_costs free_marker sample S cheapest_corners
in_cheapest_corners =
    (refl, (refl, (refl, (refl, (refl, (refl, (refl, (refl, (refl, (refl, (refl, (refl, (refl, (refl, (refl, (refl, (refl, (refl, (refl, tt)))))))))))))))))))

-- The HEFT plan, asked for alone.
pub HEFT_corners : List Case
HEFT_corners =
    for_30 (S 28) 0
    ∷ for_30 (S 0) 0
    ∷ for_30 (S 23) 0
    ∷ for_30 (sample 1 1 28 "prep    " (D_record 5) []) 0
    ∷ for_30 (S_with (K_record 667)) 0
    ∷ for_30 (S_with (D_record 5 ++ K_record 0)) 0
    ∷ planned_case (down_early []) (planned 3 14 26 0) (row 1 0 4 12 ∷ row 0 6 14 8 ∷ row 1 11 13 6 ∷ [])
    ∷ planned_case equal_costs (planned 1 5 10 0) (row 1 0 5 10 ∷ [])
    ∷ planned_case equal_finishes (planned 1 10 10 0) (row 1 0 10 10 ∷ [])
    ∷ planned_case (deadlines [] []) (planned 1 3 3 0) (row 0 0 3 3 ∷ [])
    ∷ planned_case best_past_budget (planned 1 5 100 0) (row 2 0 5 100 ∷ [])
    ∷ planned_case (cheaper_of (P_record 0 2 ++ Q_record 1 1 20)) (planned 1 10 20 0) (row 0 0 10 20 ∷ [])
    ∷ planned_case (cheaper_of (P_record 0 1 ++ P_record 1 1 ++ M_record 0 0 5)) (planned 1 10 10 0) (row 1 0 10 10 ∷ [])
    ∷ planned_case (cheaper_down (M_record 1 0 5)) (planned 1 10 20 0) (row 0 0 10 20 ∷ [])
    ∷ planned_case (near_means 1) (planned 2 1 2 0) (row 1 0 1 1 ∷ row 0 0 1 1 ∷ [])
    ∷ planned_case (gap_of 3) (planned 3 9 0 0) (row 0 0 2 0 ∷ row 1 5 9 0 ∷ row 1 0 5 0 ∷ [])
    ∷ planned_case free_marker (planned 2 2 6 0) (row 1 0 2 6 ∷ row 1 2 2 0 ∷ [])
    ∷ planned_case marker_before (planned 3 5 5 0) (row 0 5 5 0 ∷ row 0 5 5 0 ∷ row 0 0 5 5 ∷ [])
    ∷ planned_case (billed 4 0 2 5) (planned 1 0 5 0) (row 0 0 0 5 ∷ [])
    ∷ []

pub in_HEFT_corners : All_given_by by_HEFT HEFT_corners
unfolding
    given_by near_means best_past_budget equal_finishes deadlines beside waits gap_of billed cheaper_of cheaper_down alone chain marker_before
    S_with down_early for_30 equal_costs free_marker sample S HEFT_corners
in_HEFT_corners =
    (refl, (refl, (refl, (refl, (refl, (refl, (refl, (refl, (refl, (refl, (refl, (refl, (refl, (refl, (refl, (refl, (refl, (refl, (refl, tt)))))))))))))))))))

-- "Asked for alone, these two are held to no budget: refusals 1 to 8 only": what both get.
pub refused_alone : List Case
refused_alone =
    refused_case [] 1 0
    ∷ refused_case (take 83 (S 28)) 1 83
    ∷ refused_case (bytes "P" ++ drop 1 (S 28)) 2 0
    ∷ refused_case (two_tasks (E_record 0 1 5 ++ E_record 0 0 5)) 3 45
    ∷ refused_case (S_with (K_record 1_001)) 4 7
    ∷ refused_case (sample 1 1 1 "prep    " (K_record 667) []) 4 7
    ∷ refused_case (S_with (K_record 667 ++ K_record 667)) 2 10
    ∷ refused_case (sample 1 1 28 ";rep    " [] []) 5 13
    ∷ refused_case (S 28 ++ bytes "Z") 6 84
    ∷ two_rows_lent (S 28)
    ∷ two_rows_lent (S 23)
    ∷ refused_case (sample 1 1 28 "prep    " [] (E_record 1 0 0)) 8 0
    ∷ refused_case (sample 1 1 0 "prep    " (K_record 667) (E_record 1 0 0)) 8 0
    ∷ []

pub both_refused : All_given_by by_cheapest refused_alone × All_given_by by_HEFT refused_alone
unfolding given_by two_tasks S_with two_rows_lent sample S refused_alone
both_refused = (
  (refl, (refl, (refl, (refl, (refl, (refl, (refl, (refl, (refl, (refl, (refl, (refl, (refl, tt))))))))))))),
  (refl, (refl, (refl, (refl, (refl, (refl, (refl, (refl, (refl, (refl, (refl, (refl, (refl, tt))))))))))))),
)

-- A task on three processors, with its minutes on each.
on_three : ℕ → String → ℕ → ℕ → ℕ → List ℕ
on_three task label first second third = T_record task label ++ W_record task 0 first ++ W_record task 1 second ++ W_record task 2 third

-- The ten-task graph of document 004, at the prices of its table 3.
pub ten_tasks : List ℕ
ten_tasks =
    H_record 10 3 0
    ++ P_record 0 3
    ++ P_record 1 5
    ++ P_record 2 7
    ++ on_three 0 "n1      " 14 16 9
    ++ on_three 1 "n2      " 13 19 18
    ++ on_three 2 "n3      " 11 13 19
    ++ on_three 3 "n4      " 13 8 17
    ++ on_three 4 "n5      " 12 13 10
    ++ on_three 5 "n6      " 13 16 9
    ++ on_three 6 "n7      " 7 15 11
    ++ on_three 7 "n8      " 5 11 14
    ++ on_three 8 "n9      " 18 12 20
    ++ on_three 9 "n10     " 21 7 16
    ++ E_record 0 1 18
    ++ E_record 0 2 12
    ++ E_record 0 3 9
    ++ E_record 0 4 11
    ++ E_record 0 5 14
    ++ E_record 1 7 19
    ++ E_record 1 8 16
    ++ E_record 2 6 23
    ++ E_record 3 7 27
    ++ E_record 3 8 23
    ++ E_record 4 8 13
    ++ E_record 5 7 15
    ++ E_record 6 9 17
    ++ E_record 7 9 11
    ++ E_record 8 9 13
    ++ bytes "Z"

-- Its table 4, the HEFT plan, row by row, and the cost that it gives for it, 612. The row past these keeps its content.
pub table_4 : Case
table_4 =
    record {
      input = ten_tasks;
      lent = four_rows ++ four_rows ++ take 3 four_rows;
      due =
          record {
            answer = planned 10 80 612 0;
            rows =
                row 2 0 9 63
                ∷ row 0 27 40 39
                ∷ row 2 9 28 133
                ∷ row 1 18 26 40
                ∷ row 2 28 38 70
                ∷ row 1 26 42 80
                ∷ row 2 38 49 77
                ∷ row 0 57 62 15
                ∷ row 1 56 68 60
                ∷ row 1 73 80 35
                ∷ row 93 7 8 9
                ∷ [];
          };
    }

pub published_table : given_by by_HEFT table_4 ≡ table_4.due
unfolding given_by on_three ten_tasks table_4
published_table = refl

-- "The range is the cheapest plan's cost, the HEFT plan's cost; or the refusal, 1 to 8, that both get."
pub ranges :
    (range (S 28) ≡ between 24 30)
    × (range (S 23) ≡ between 24 30)
    × (range (sample 1 1 28 "prep    " (D_record 5) []) ≡ between 24 30)
    × (range (S_with (K_record 667)) ≡ between 24 30)
    × (range (down_early []) ≡ between 24 26)
    × (range ten_tasks ≡ between 353 612)
    × (range (sample 1 1 28 "prep    " [] (E_record 1 0 0)) ≡ no_range 8 0)
    × (range (S_with (K_record 1_001)) ≡ no_range 4 7)
    × (range (take 83 (S 28)) ≡ no_range 1 83)
unfolding given_by S_with down_early on_three ten_tasks sample S
ranges = (refl, refl, refl, refl, refl, refl, refl, refl, refl)

-- What the programs for the range and for the two methods write.
pub printed_alone :
    (range_text (S 28) ≡ bytes "range 24 30\n")
    × (range_text (sample 1 1 28 "prep    " [] (E_record 1 0 0)) ≡ bytes "no 8 0\n")
    × (text_asked by_cheapest (S 28) ≡ bytes "plan 3 18 24 0\nprep 0 0 10 10\nleft 0 10 18 8\nright 1 13 15 6\n")
    × (text_asked by_HEFT (S 28) ≡ bytes "plan 3 10 30 0\nprep 1 0 4 12\nleft 1 4 8 12\nright 1 8 10 6\n")
    × (text_asked by_HEFT (S_with (K_record 1_001)) ≡ bytes "no 4 7\n")
unfolding given_by S_with sample S
printed_alone = (refl, refl, refl, refl, refl)

-- A least amount of 7 for 3 minutes at 2 is 42 for 9 minutes at 4: of the request so multiplied, and of the multiplied workflow.
pub minimum_multiplied :
    (answer (billed 120 9 4 42) 64 ≡ planned 1 9 42 78)
    × (answer_multiplied 3 2 (billed 20 3 2 7) ≡ planned 1 9 42 78)
unfolding given billed answer_multiplied
minimum_multiplied = (refl, refl)

-- Down from 5 to 9 is down from 15 to 27, and 6 minutes are 18: of the request so multiplied, and of the multiplied workflow.
abbrev windows_by_3 : List ℕ
windows_by_3 = H_record 1 1 300 ++ P_record 0 2 ++ M_record 0 15 27 ++ T_record 0 "one     " ++ W_record 0 0 18 ++ bytes "Z"

pub window_multiplied :
    (answer windows_by_3 64 ≡ planned 1 45 36 264)
    × (answer_multiplied 3 2 (down (M_record 0 5 9) 6) ≡ planned 1 45 36 264)
unfolding given down answer_multiplied
window_multiplied = (refl, refl)

-- 0 minutes stay 0: the markers come after the task that takes 15 minutes, of the request so multiplied, and of the multiplied workflow.
abbrev markers_by_3 : List ℕ
markers_by_3 =
    H_record 3 1 300 ++ P_record 0 2 ++ alone 0 "last    " 0 ++ alone 1 "marker  " 0 ++ alone 2 "first   " 15 ++ E_record 1 0 0 ++ E_record 2 1 0 ++ bytes "Z"

pub marker_multiplied :
    (answer markers_by_3 64 ≡ planned 3 15 30 270)
    × (answer_multiplied 3 2 marker_before ≡ planned 3 15 30 270)
unfolding given alone chain marker_before answer_multiplied
marker_multiplied = (refl, refl)

-- "A `K` stays what it is": at 0 and at 1,000 the budget that it sets is multiplied, of the request so multiplied, and of the multiplied workflow. At 333
-- the floor of 1.998 is 1, and that of 11.988 is 11, which is not 6 times as much.
pub share_multiplied :
    (answer (sample 3 2 0 "prep    " (K_record 0) []) 64 ≡ planned 3 54 144 0)
    × (answer_multiplied 3 2 (S_with (K_record 0)) ≡ planned 3 54 144 0)
    × (answer (sample 3 2 0 "prep    " (K_record 1_000) []) 64 ≡ planned 3 30 180 0)
    × (answer_multiplied 3 2 (S_with (K_record 1_000)) ≡ planned 3 30 180 0)
    × (answer (sample 3 2 0 "prep    " (K_record 333) []) 64 ≡ planned 3 54 144 11)
unfolding given S_with sample answer_multiplied
share_multiplied = (refl, refl, refl, refl, refl)

-- The kind that each processor was read in: a `Q` with minimum 0 is a `Q`.
pub kinds_kept :
    (kinds (S 28) ≡ P ∷ P ∷ [])
    × (kinds (with_processors (Q_record 0 1 0 ++ P_record 1 3) (S 28)) ≡ Q ∷ P ∷ [])
    × (kinds (with_processors (P_record 0 1 ++ Q_record 1 3 10) (S 28)) ≡ P ∷ Q ∷ [])
unfolding given sample S kinds_in kinds
kinds_kept = (refl, refl, refl)

-- The label lookup: a task's label, the last task's, a task that is not there, and a request refused in reading.
pub looked_up :
    (label (two_tasks []) 1 ≡ bytes "two")
    × (label_lookup (two_tasks []) 0 ≡ record { begin = 12; length = 3 })
    × (label_lookup (two_tasks []) 1 ≡ record { begin = 27; length = 3 })
    × (label_lookup (two_tasks []) 2 ≡ empty_start)
    × (label_lookup (take 40 (two_tasks [])) 0 ≡ empty_start)
unfolding given two_tasks
looked_up = (refl, refl, refl, refl, refl)

-- Four buffers of different lengths: a plan of two tasks where the shortest has two numbers, with what is after them kept; refusal 7 where it has one.
abbrev lent_buffers : List ℕ → Buffers
lent_buffers shortest = record { processors = 91 ∷ 92 ∷ 93 ∷ []; starts = 94 ∷ 95 ∷ 96 ∷ 97 ∷ []; finishes = shortest; costs = 98 ∷ 99 ∷ 90 ∷ [] }

pub in_buffers :
    (buffers_after (two_tasks []) (lent_buffers (88 ∷ 89 ∷ []))
    ≡ record { processors = 0 ∷ 0 ∷ 93 ∷ []; starts = 0 ∷ 3 ∷ 96 ∷ 97 ∷ []; finishes = 3 ∷ 6 ∷ []; costs = 3 ∷ 3 ∷ 90 ∷ [] })
    × (row_in (buffers_after (two_tasks []) (lent_buffers (88 ∷ 89 ∷ []))) 1 ≡ row 0 3 6 3)
    × (buffers_after (two_tasks []) (lent_buffers (88 ∷ [])) ≡ lent_buffers (88 ∷ []))
    × (answer (two_tasks []) (rows_lent (lent_buffers (88 ∷ []))) ≡ refused 7 2)
unfolding given two_tasks rows_lent row_in column_after buffers_written buffers_asked
in_buffers = (refl, refl, refl, refl)

-- Task 3 does not fit into the gap before task 2, which waits for its data; task 0 does, and is placed last.
pub placed_last : List ℕ
placed_last =
    H_record 4 2 0
    ++ P_record 0 0
    ++ P_record 1 0
    ++ beside 0 "late    " 18 4
    ++ beside 1 "one     " 2 20
    ++ beside 2 "two     " 20 4
    ++ beside 3 "three   " 17 6
    ++ E_record 1 2 3
    ++ bytes "Z"

-- Task 2 waits for task 0 and for the marker after it, whose data arrive at once.
pub two_arrive : List ℕ
two_arrive = chain 3 (alone 0 "one     " 5 ++ alone 1 "marker  " 0 ++ alone 2 "two     " 3 ++ E_record 0 1 0 ++ E_record 0 2 0 ++ E_record 1 2 0)

-- Why a task does not start sooner: data, the last to arrive; windows, the earliest; rows, the lowest.
pub whys :
    (why_not (S 28) 1 0 ≡ late_data 0 6)
    × (why_not (S 28) 1 5 ≡ late_data 0 6)
    × (why_not (S 28) 1 6 ≡ own_start 6)
    × (why_not (S 28) 1 7 ≡ own_start 6)
    × (why_not (S 28) 2 3 ≡ late_data 0 4)
    × (why_not (S 28) 3 0 ≡ no_task 3)
    × (why_not (S 23) 1 0 ≡ no_plan 9 24)
    × (why_not two_arrive 2 4 ≡ late_data 0 5)
    × (why_not marker_for_two 0 6 ≡ late_data 2 7)
    × (why_not marker_for_two 2 5 ≡ late_data 3 7)
    × (why_not marker_in_row 2 3 ≡ late_data 0 4)
    × (why_not (down (M_record 0 0 4 ++ M_record 0 9 12) 8) 0 3 ≡ in_window 0 4)
    × (why_not (down (M_record 0 0 4 ++ M_record 0 9 12) 8) 0 4 ≡ in_window 9 12)
    × (why_not (down_from 3) 1 2 ≡ in_window 3 8)
    × (why_not (down_from 3) 1 0 ≡ beside_row 0 0 3)
    × (why_not (cheaper_down (M_record 0 9 12 ++ M_record 1 5 8)) 0 4 ≡ in_window 5 8)
    × (why_not placed_last 3 0 ≡ beside_row 0 0 4)
    × (why_not placed_last 3 4 ≡ beside_row 2 5 9)
    × (why_not placed_last 3 9 ≡ own_start 9)
    × (why_not marker_between 0 3 ≡ beside_row 1 0 5)
    × (why_not (gap_of 2) 2 0 ≡ beside_row 1 4 8)
unfolding
    given placed_last two_arrive beside chain alone marker_for_two marker_in_row marker_between waits gap_of down down_from cheaper_of cheaper_down sample S
whys =
    (refl, refl, refl, refl, refl, refl, refl, refl, refl, refl, refl, refl, refl, refl, refl, refl, refl, refl, refl, refl, refl)

-- What the program for that writes.
pub printed_whys :
    (why_program (S 28) 1 0 ≡ bytes "data 0 6\nIts data from task 0 arrives at minute 6.\n")
    × (why_text (in_window 5 12) ≡ bytes "window 5 12\nIts processor is down from minute 5 up to minute 12.\n")
    × (why_text (beside_row 3 5 12) ≡ bytes "row 3 5 12\nIts processor runs task 3 from minute 5 up to minute 12.\n")
    × (why_text (own_start 6) ≡ bytes "own 6\nIn the plan it starts at minute 6, so this is not sooner.\n")
    × (why_text (no_task 3) ≡ bytes "none 3\nThere is no such task; the request has 3, numbered from 0.\n")
    × (why_text (no_plan 9 24) ≡ bytes "no 9 24\nThe request has no plan, so no task has a start.\n")
unfolding given sample S
printed_whys = (refl, refl, refl, refl, refl, refl)
