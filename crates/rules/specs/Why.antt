-- Why a task does not start sooner: what stands against another start of it, in the plan that the page answers with, all other rows kept.
use Rattle.std.specs.Prelude.{ℕ, Bool, cond, not, ◌&&◌, List, [], ◌∷◌, ◌++◌, eqb, leb, ltb, take}
use Rattle.rules.specs.Orders.{tie, higher, among, first}
use Rattle.rules.specs.Workflow.{Interval, Workflow}
use Rattle.rules.specs.Start.{awaited, arrived, minutes_from, overlap}
use Rattle.rules.specs.Rows.{row_of}
use Rattle.rules.specs.Answer.{Outcome, plan, refusal, outcome}
use Rattle.rules.specs.Answer as answers
use Rattle.rules.specs.Text.{bytes, decimal, first_line}

-- What is said: "data of which edge arrives later than the start", by "the task that it leads from", and its minute; "which window of that processor it would
-- overlap" or "which row"; that the start is not below the task's own, which is given; that there is no such task, and how many there are; or the refusal.
pub data Why : Type 0 where
  late_data : (from minute : ℕ) → Why
  in_window : (begin end : ℕ) → Why
  beside_row : (task begin end : ℕ) → Why
  own_start : (start : ℕ) → Why
  no_task : (tasks : ℕ) → Why
  no_plan : (number place : ℕ) → Why

-- "of the predecessors [..] the one that arrives last, ties to the lower number": the edge into task i whose data is the last on j. Edges rise by the task that they
-- lead from.
unfoldable pub last_to_arrive : Workflow → (sits ends : ℕ → ℕ) → ℕ → ℕ → ℕ
last_to_arrive W sits ends i j = first W.edges (higher (awaited W sits ends i j) tie)

-- "the earliest that it would overlap", where it would overlap one.
pub data Met : Type 0 where
  none : Met
  met : Interval → Met

unfoldable pub earlier : Interval → Met → Interval
earlier v none = v
earlier v (met u) = cond (ltb v.begin u.begin) v u

unfoldable pub earliest_met : List Interval → (minutes t : ℕ) → Met
earliest_met [] minutes t = none
earliest_met (v ∷ busy) minutes t =
    let rest = earliest_met busy minutes t in
    cond (overlap (minutes_from t minutes) v) (met (earlier v rest)) rest

-- Whether task i, of so many minutes and started at t, would overlap the row of k, which is another task on its processor. `sits`, `begins` and `ends` are what
-- the rows say: on which processor a task is, its start and its finish.
unfoldable pub meets_row : (sits begins ends : ℕ → ℕ) → (minutes i t k : ℕ) → Bool
meets_row sits begins ends minutes i t k =
    not (eqb k i) && (eqb (sits k) (sits i) && overlap (minutes_from t minutes) (record { begin = begins k; end = ends k }))

-- "the lowest task that it would overlap"
unfoldable pub lowest_met : (tasks : ℕ) → (sits begins ends : ℕ → ℕ) → (minutes i t : ℕ) → ℕ
lowest_met tasks sits begins ends minutes i t = first tasks (among (meets_row sits begins ends minutes i t) tie)

unfoldable pub window_or : Met → Why → Why
window_or none otherwise = otherwise
window_or (met v) otherwise = in_window v.begin v.end

-- "data, then windows, then rows": by the rows of a plan, for a start t of task i. Something stands against a start that is below its own (`nothing_earlier` in the
-- demands), so where it is neither data nor a window it is a row.
unfoldable pub why_placed : Workflow → (sits begins ends : ℕ → ℕ) → (i t : ℕ) → Why
why_placed W sits begins ends i t =
    let j = sits i in
    let minute = arrived W sits ends i j in
    let k = lowest_met W.tasks sits begins ends (W.minutes i j) i t in
    cond (leb (begins i) t) (own_start (begins i))
    (cond (ltb t minute) (late_data (W.from (last_to_arrive W sits ends i j)) minute)
    (window_or (earliest_met (W.busy_at_first j) (W.minutes i j) t) (beside_row k (begins k) (ends k))))

unfoldable pub why_of : Outcome → (i t : ℕ) → Why
why_of (plan W rows) i t =
    let why = why_placed W (λ p. (row_of rows p).processor) (λ p. (row_of rows p).start) (λ p. (row_of rows p).finish) i t in
    cond (ltb i W.tasks) why (no_task W.tasks)
why_of (refusal number place) i t = no_plan number place

-- With 64 rows lent.
unfoldable pub why_not : List ℕ → (i t : ℕ) → Why
why_not s i t = why_of (outcome s 64) i t

-- Bytes, and a number after them.
abbrev pub told : List ℕ → ℕ → List ℕ
told text x = text ++ decimal x

-- "a first line for scripts and a sentence for people below it"
unfoldable pub why_text : Why → List ℕ
why_text (late_data from minute) =
    told (bytes "data ") from ++ (told (bytes " ") minute
    ++ (told (bytes "\nIts data from task ") from ++ (told (bytes " arrives at minute ") minute ++ bytes ".\n")))
why_text (in_window begin end) =
    told (bytes "window ") begin ++ (told (bytes " ") end
    ++ (told (bytes "\nIts processor is down from minute ") begin ++ (told (bytes " up to minute ") end ++ bytes ".\n")))
why_text (beside_row task begin end) =
    told (bytes "row ") task ++ (told (bytes " ") begin ++ (told (bytes " ") end
    ++ (told (bytes "\nIts processor runs task ") task ++ (told (bytes " from minute ") begin ++ (told (bytes " up to minute ") end ++ bytes ".\n")))))
why_text (own_start start) =
    told (bytes "own ") start ++ (told (bytes "\nIn the plan it starts at minute ") start ++ bytes ", so this is not sooner.\n")
why_text (no_task tasks) =
    told (bytes "none ") tasks ++ (told (bytes "\nThere is no such task; the request has ") tasks ++ bytes ", numbered from 0.\n")
why_text (no_plan number place) =
    first_line (answers.refused number place) ++ bytes "The request has no plan, so no task has a start.\n"

-- What the program writes, asked for task i and a start t.
unfoldable pub why_program : List ℕ → (i t : ℕ) → List ℕ
why_program input i t = why_text (why_not (take 16_384 input) i t)
