-- Requests written out record by record, and what is said of each: the forms of `Starred` and `Corners`.
use Rattle.std.specs.Prelude.{ℕ, ◌/◌, ◌%◌, ◌≡◌, refl, List, [], ◌∷◌, ◌++◌, length, drop}
use Prim.Native.String.{String}
use Rattle.label.specs.Length.{stands_in, all, is_label, length_up_to, label_length}
use Rattle.rules.specs.Folds.{sum, largest, lowest, any, listing}
use Rattle.rules.specs.Orders.{tie, lower, higher, among, first}
use Rattle.rules.specs.Fields.{Kind, kind_byte, body, size, byte, two_bytes, four_bytes, H_tasks, H_processors, H_budget, D_deadline, K_share}
use Rattle.rules.specs.Fields.{P_processor, P_price, Q_minimum, M_processor, M_begin, M_end, T_task, T_label, W_task, W_processor, W_minutes}
use Rattle.rules.specs.Fields.{E_from, E_to, E_transfer}
use Rattle.rules.specs.Records.{Read, read, stopped, unless, first_fault, opening_by, opening, answered, record_at, within, header_at, deadline_at}
use Rattle.rules.specs.Records.{share_at, price_checks, price_at, minimum_at, processor_at, follows, above, apart, fifth, window_ranges, window_at}
use Rattle.rules.specs.Records.{task_at, minutes_at, edge_ranges, edge_at, end_at}
use Rattle.rules.specs.Reading.{then, each, optional, deadline_part, share_part, prices_part, counted, how_many, run_part, windows_part, task_part}
use Rattle.rules.specs.Reading.{tasks_part, edges_part, nothing_after, Request, read_request}
use Rattle.rules.specs.Workflow.{processor_kind, processor_minimum, past_processors, processor_place, window_place, task_place, minutes_place}
use Rattle.rules.specs.Workflow.{edge_place, read_in, busy_with, window_of, windows_on, workflow}
use Rattle.rules.specs.Labels.{part_of, label_place, label_part, label_in, label_lookup, label}
use Rattle.rules.specs.Cycle.{linked, leads_through, back_to_itself, cyclic, lowest_in_cycle}
use Rattle.rules.specs.Ranks.{cost, lowest_cost, cheapest_total, rank_by, rank_within, R, waits, may_be_next, next_task}
use Rattle.rules.specs.Start.{arrival, arrived, ready, overlap, free, latest_end, if_free, least_end, start_on}
use Rattle.rules.specs.Method.{best, may_be_taken, latest_finish, B, F, or_one, score, preferred, HBCS, Cheapest, HEFT, Name, by_HBCS, method}
use Rattle.rules.specs.Rows.{Row, row_of, is_placed, busy, spent, length_of}
use Rattle.rules.specs.Placing.{ready_for, start_of, finish_of, RB, RCB, question, row_on, place_task, place_next, place}
use Rattle.rules.specs.Budget.{in_force, unbound, cost_alone, budget_between, budget_of, held_to}
use Rattle.rules.specs.Answer.{Outcome, plan, refusal, Answer, refused, refuse, too_late, placed_outcome, checked, later_checks, outcome_of, outcome_by, outcome_read}
use Rattle.rules.specs.Answer.{outcome_asked, outcome, answer_of, answer_asked, written, rows_asked}
use Rattle.rules.specs.Multiplied.{multiplied_deadline, multiplied_interval, multiplied}
use Rattle.rules.specs.Text.{bytes, digits, decimal, line, first_line, row_line, lines, row_lines, text_asked, program_asked}
use Rattle.rules.specs.Range.{range_of, range, range_line, range_text, range_program}
use Rattle.rules.specs.Why.{last_to_arrive, earlier, earliest_met, meets_row, lowest_met, window_or, why_placed, why_of, why_not, why_text, why_program}

-- A number below 65,536 in two bytes, and in four.
abbrev pub in_two : ℕ → List ℕ
in_two x = x % 256 ∷ x / 256 ∷ []

abbrev pub in_four : ℕ → List ℕ
in_four x = in_two x ++ in_two 0

abbrev pub H_record : ℕ → ℕ → ℕ → List ℕ
H_record n m budget = bytes "H" ++ (n ∷ m ∷ []) ++ in_four budget

abbrev pub D_record : ℕ → List ℕ
D_record deadline = bytes "D" ++ in_four deadline

abbrev pub K_record : ℕ → List ℕ
K_record share = bytes "K" ++ in_two share

abbrev pub P_record : ℕ → ℕ → List ℕ
P_record processor price = bytes "P" ++ (processor ∷ price ∷ [])

abbrev pub Q_record : ℕ → ℕ → ℕ → List ℕ
Q_record processor price minimum = bytes "Q" ++ (processor ∷ price ∷ []) ++ in_two minimum

abbrev pub M_record : ℕ → ℕ → ℕ → List ℕ
M_record processor begin end = bytes "M" ++ (processor ∷ []) ++ in_four begin ++ in_four end

-- The label with its spaces.
abbrev pub T_record : ℕ → String → List ℕ
T_record task label = bytes "T" ++ (task ∷ []) ++ bytes label

abbrev pub W_record : ℕ → ℕ → ℕ → List ℕ
W_record task processor minutes = bytes "W" ++ (task ∷ processor ∷ []) ++ in_two minutes

abbrev pub E_record : ℕ → ℕ → ℕ → List ℕ
E_record from to transfer = bytes "E" ++ (from ∷ to ∷ []) ++ in_two transfer

abbrev pub row : ℕ → ℕ → ℕ → ℕ → Row
row processor start finish cost = record { processor = processor; start = start; finish = finish; cost = cost }

-- Four rows lent, each with content of its own, which untouched rows keep.
abbrev pub four_rows : List Row
four_rows = row 91 1 2 3 ∷ row 92 4 5 6 ∷ row 93 7 8 9 ∷ row 94 10 11 12 ∷ []

-- What comes back: the answer, and the rows after the call.
pub record Back : Type 0 where
  pub answer : Answer
  pub rows : List Row

-- An input and the rows lent with it, and what is due.
pub record Case : Type 0 where
  pub input : List ℕ
  pub lent : List Row
  pub due : Back

-- Four rows lent, and a refusal: all keep their content.
abbrev pub refused_case : List ℕ → ℕ → ℕ → Case
refused_case input number place =
    record { input = input; lent = four_rows; due = record { answer = refused number place; rows = four_rows } }

-- Four rows lent, and a plan: the rows past its own keep their content.
abbrev pub planned_case : List ℕ → Answer → List Row → Case
planned_case input answer rows =
    record { input = input; lent = four_rows; due = record { answer = answer; rows = rows ++ drop (length rows) four_rows } }

-- What comes back of an outcome: its answer, and the rows written. By its cases, so that an outcome is computed once for both.
unfoldable pub back_of : Outcome → List Row → Back
back_of (plan W rows) lent = record { answer = answer_of (plan W rows); rows = written (plan W rows) lent }
back_of (refusal number place) lent = record { answer = answer_of (refusal number place); rows = written (refusal number place) lent }

pub back_is : (o : Outcome) (lent : List Row) → back_of o lent ≡ record { answer = answer_of o; rows = written o lent }
unfolding back_of
back_is (plan W rows) lent = refl
back_is (refusal number place) lent = refl

-- What the rules give. To unfold this is to unfold every definition of the rules, so that a case is computed.
unfoldable pub given : Case → Back
unfolding
    stands_in all is_label length_up_to label_length
    sum largest lowest any listing tie lower higher among first
    kind_byte body size byte two_bytes four_bytes
    H_tasks H_processors H_budget D_deadline K_share P_processor P_price Q_minimum M_processor M_begin M_end
    T_task T_label W_task W_processor W_minutes E_from E_to E_transfer
    unless first_fault opening_by opening answered record_at within
    header_at deadline_at share_at price_checks price_at minimum_at processor_at follows above apart fifth window_ranges window_at task_at minutes_at
    edge_ranges edge_at end_at
    then each optional deadline_part share_part prices_part counted how_many run_part windows_part task_part tasks_part edges_part nothing_after read_request
    processor_kind processor_minimum past_processors processor_place window_place task_place minutes_place edge_place read_in
    busy_with window_of windows_on workflow
    part_of label_place label_part label_in label_lookup label
    linked leads_through back_to_itself cyclic lowest_in_cycle
    cost lowest_cost cheapest_total rank_by rank_within R waits may_be_next next_task
    arrival arrived ready overlap free latest_end if_free least_end start_on
    best may_be_taken latest_finish B F or_one score preferred HBCS Cheapest HEFT method
    row_of is_placed busy ready_for start_of finish_of spent length_of RB RCB question row_on place_task place_next place
    in_force unbound cost_alone budget_between budget_of held_to
    refuse too_late placed_outcome checked later_checks outcome_of outcome_by outcome_read outcome_asked
    answer_of answer_asked written rows_asked back_of
    bytes digits decimal line first_line row_line lines row_lines text_asked program_asked
    range_of range range_line range_text range_program
    last_to_arrive earlier earliest_met meets_row lowest_met window_or why_placed why_of why_not why_text why_program
given c = back_of (outcome c.input (length c.lent)) c.lent

-- In every case of a list the rules give what is due.
abbrev pub All_given : List Case → Type 0
All_given [] = Unit {0}
All_given (c ∷ cases) = (given c ≡ c.due) × All_given cases

-- What they give by the method that is asked for.
unfoldable pub given_by : Name → Case → Back
unfolding given
given_by M c = back_of (outcome_asked M c.input (length c.lent)) c.lent

-- That is the answer and the rows after the call, as a caller gets them.
pub given_is : (M : Name) (c : Case)
    → given_by M c ≡ record { answer = answer_asked M c.input (length c.lent); rows = rows_asked M c.input c.lent }
unfolding given_by answer_asked rows_asked
given_is M c = back_is (outcome_asked M c.input (length c.lent)) c.lent

abbrev pub All_given_by : Name → List Case → Type 0
All_given_by M [] = Unit {0}
All_given_by M (c ∷ cases) = (given_by M c ≡ c.due) × All_given_by M cases

-- The answer for a request whose workflow is multiplied after reading, with 64 rows lent; a refusal in reading stays.
unfoldable pub multiplied_in : ℕ → ℕ → List ℕ → Read Request → Answer
multiplied_in a b s (read next r) = answer_of (outcome_by by_HBCS (held_to by_HBCS r.share (multiplied a b (workflow s r))) 64)
multiplied_in a b s (stopped number place) = refused number place

unfoldable pub answer_multiplied : ℕ → ℕ → List ℕ → Answer
unfolding given multiplied_deadline multiplied_interval multiplied multiplied_in
answer_multiplied a b s = multiplied_in a b s (read_request s)

-- The ranks of a request's tasks; none where it is refused in reading.
unfoldable pub ranks_in : List ℕ → Read Request → List ℕ
ranks_in s (read next r) = listing r.tasks (R (workflow s r))
ranks_in s (stopped number place) = []

unfoldable pub ranks : List ℕ → List ℕ
ranks s = ranks_in s (read_request s)

-- The kind that each of a request's processors was read in; none where it is refused in reading.
unfoldable pub kinds_in : List ℕ → Read Request → List Kind
kinds_in s (read next r) = listing r.processors (read_in s r)
kinds_in s (stopped number place) = []

unfoldable pub kinds : List ℕ → List Kind
kinds s = kinds_in s (read_request s)
