-- Reading one record: "Inside a record: kind (a missing byte gives 1), whole body, the 513th edge, 3, 4 in field order, 5."
use Rattle.std.specs.Prelude.{ℕ, suc, zero, ◌+◌, ◌*◌, ◌-◌, Bool, true, false, cond, not, ◌&&◌, ◌||◌, List, [], ◌∷◌, ◌++◌, length, leb, ltb, eqb}
use Rattle.label.specs.Length.{label_length}
use Rattle.rules.specs.Fields.{Kind, H, D, K, P, Q, M, T, W, E, Z, kind_byte, size, byte, H_tasks, H_processors, H_budget, D_deadline}
use Rattle.rules.specs.Fields.{K_share, P_processor, P_price, Q_minimum, M_processor, M_begin, M_end, T_task, T_label, W_task, W_processor, W_minutes}
use Rattle.rules.specs.Fields.{E_from, E_to, E_transfer}

-- A record with its fields.
pub data Record : Type 0 where
  header : (tasks processors budget : ℕ) → Record
  deadline : (deadline : ℕ) → Record
  share : (thousandths : ℕ) → Record
  price : (processor price : ℕ) → Record
  minimum : (processor price minimum : ℕ) → Record
  window : (processor begin end : ℕ) → Record
  task : (task label : ℕ) → Record
  minutes : (task processor minutes : ℕ) → Record
  edge : (from to transfer : ℕ) → Record
  end : Record

-- "Each record read is either a record with its fields or a refusal with its place": what was read with the place past it, or number and place.
pub data Read (A : Type 0) : Type 0 where
  read : (next : ℕ) → A → Read A
  stopped : (number place : ℕ) → Read A

-- A check: 0 where the test holds, else the number of the refusal.
unfoldable pub unless : Bool → ℕ → ℕ
unless true number = 0
unless false number = number

-- The first check that fails; 0 where none does.
unfoldable pub first_fault : List ℕ → ℕ
first_fault [] = 0
first_fault (zero ∷ checks) = first_fault checks
first_fault (suc number ∷ checks) = suc number

-- "kind (a missing byte gives 1), whole body", by the kind's byte and the record's size; what a kind checks of its own comes after.
unfoldable pub opening_by : List ℕ → ℕ → ℕ → ℕ → List ℕ
opening_by s at kind size =
    unless (ltb at (length s)) 1
    ∷ unless (eqb (byte s at) kind) 2
    ∷ unless (leb (at + size) (length s)) 1
    ∷ []

unfoldable pub opening : List ℕ → ℕ → Kind → List ℕ
opening s at k = opening_by s at (kind_byte k) (size k)

unfoldable pub answered : ℕ → ℕ → ℕ → Record → Read Record
answered zero at next r = read next r
answered (suc number) at next r = stopped (suc number) at

-- A record of kind k at `at`, where the checks find nothing; else the first fault, at the record's offset. Where not even a kind
-- byte is there, `at` is the input's length: reading comes to `at` past whole records only.
unfoldable pub record_at : List ℕ → ℕ → Kind → List ℕ → Record → Read Record
record_at s at k checks r = answered (first_fault (opening s at k ++ checks)) at (at + size k) r

unfoldable pub within : ℕ → ℕ → ℕ → Bool
within low x high = leb low x && leb x high

-- "n 1..64, m 1..16, budget 0..20,000,000"
unfoldable pub header_at : List ℕ → ℕ → Read Record
header_at s at =
    let n = H_tasks s at in
    let m = H_processors s at in
    let budget = H_budget s at in
    record_at s at H
    (unless (within 1 n 64) 4 ∷ unless (within 1 m 16) 4 ∷ unless (within 0 budget 20_000_000) 4 ∷ [])
    (header n m budget)

-- "deadline 1..200,000"
unfoldable pub deadline_at : List ℕ → ℕ → Read Record
deadline_at s at =
    let d = D_deadline s at in
    record_at s at D (unless (within 1 d 200_000) 4 ∷ []) (deadline d)

-- "share 0..1,000", and "the budget field in `H` is then 0": beside this budget in `H`.
unfoldable pub share_at : List ℕ → (budget at : ℕ) → Read Record
share_at s budget at =
    let k = K_share s at in
    record_at s at K (unless (within 0 k 1_000) 4 ∷ unless (eqb budget 0) 4 ∷ []) (share k)

-- A processor record, `P` or `Q`, is processor j's: "price 0..100". A `Q` has one more check.
unfoldable pub price_checks : List ℕ → ℕ → ℕ → List ℕ → List ℕ
price_checks s at j more = unless (eqb (P_processor s at) j) 3 ∷ unless (within 0 (P_price s at) 100) 4 ∷ more

unfoldable pub price_at : List ℕ → ℕ → ℕ → Read Record
price_at s at j = record_at s at P (price_checks s at j []) (price (P_processor s at) (P_price s at))

-- "minimum 0..10,000"
unfoldable pub minimum_at : List ℕ → ℕ → ℕ → Read Record
minimum_at s at j =
    let least = Q_minimum s at in
    record_at s at Q
    (price_checks s at j (unless (within 0 least 10_000) 4 ∷ []))
    (minimum (P_processor s at) (P_price s at) least)

-- "A `Q` may stand wherever a `P` is due."
unfoldable pub processor_at : List ℕ → ℕ → ℕ → Read Record
processor_at s at j = cond (eqb (byte s at) (kind_byte Q)) (minimum_at s at j) (price_at s at j)

-- Records of one kind that stand one after the other: one with k before it, at `at`, is the first, or follows the one that ends there.
unfoldable pub follows : Kind → (ℕ → ℕ → Bool) → (at k : ℕ) → Bool
follows kind after at k = eqb k 0 || after (at - size kind) at

-- The record at `at` is above the one at `before`: by its first number, and where these are equal by its second.
unfoldable pub above : (first second : ℕ → ℕ) → (before at : ℕ) → Bool
above first second before at =
    ltb (first before) (first at) || (eqb (first before) (first at) && ltb (second before) (second at))

-- The window at `at` is not "one that begins before the same processor's previous window ends".
unfoldable pub apart : List ℕ → (before at : ℕ) → Bool
apart s before at = not (eqb (M_processor s before) (M_processor s at)) || leb (M_end s before) (M_begin s at)

-- "a processor's fifth window": windows rise by processor, so that the four before it are of its processor where the fourth before it is
-- (`fifth_after_four` in the demands).
unfoldable pub fifth : List ℕ → (at k : ℕ) → Bool
fifth s at k = leb 4 k && eqb (M_processor s (at - 4 * size M)) (M_processor s at)

-- "a window's processor below m, its begin below its end, its end at most 20,000, at most four windows of a processor"
unfoldable pub window_ranges : List ℕ → (m at k : ℕ) → List ℕ
window_ranges s m at k =
    unless (ltb (M_processor s at) m) 4
    ∷ unless (ltb (M_begin s at) (M_end s at)) 4
    ∷ unless (leb (M_end s at) 20_000) 4
    ∷ unless (not (fifth s at k)) 4
    ∷ []

-- A window with k before it: "rising by processor, then begin, and none that begins before the same processor's previous window ends".
unfoldable pub window_at : List ℕ → (m at k : ℕ) → Read Record
window_at s m at k =
    record_at s at M
    (unless (follows M (above (M_processor s) (M_begin s)) at k) 3 ∷ unless (follows M (apart s) at k) 3 ∷ window_ranges s m at k)
    (window (M_processor s at) (M_begin s at) (M_end s at))

-- Task i: its eight bytes are a label.
unfoldable pub task_at : List ℕ → ℕ → ℕ → Read Record
task_at s at i =
    let number = T_task s at in
    let label = T_label at in
    record_at s at T (unless (eqb number i) 3 ∷ unless (leb 1 (label_length s label)) 5 ∷ []) (task number label)

-- The minutes of task i on processor j: "minutes 0..2,000".
unfoldable pub minutes_at : List ℕ → ℕ → ℕ → ℕ → Read Record
minutes_at s at i j =
    let number = W_task s at in
    let processor = W_processor s at in
    let w = W_minutes s at in
    record_at s at W
    (unless (eqb number i) 3 ∷ unless (eqb processor j) 3 ∷ unless (within 0 w 2_000) 4 ∷ [])
    (minutes number processor w)

-- "transfer 0..1,000, edge ends below n and unequal": "4 in field order"
unfoldable pub edge_ranges : ℕ → ℕ → ℕ → ℕ → List ℕ
edge_ranges from to transfer n =
    unless (ltb from n) 4
    ∷ unless (ltb to n && not (eqb from to)) 4
    ∷ unless (within 0 transfer 1_000) 4
    ∷ []

-- An edge with k before it: "at most 512 edges", "the 513th edge, 3, 4 in field order", "each pair (from, to) greater than the one before, by from
-- first and then to".
unfoldable pub edge_at : List ℕ → (n at k : ℕ) → Read Record
edge_at s n at k =
    let from = E_from s at in
    let to = E_to s at in
    let transfer = E_transfer s at in
    record_at s at E
    (unless (ltb k 512) 4 ∷ unless (follows E (above (E_from s) (E_to s)) at k) 3 ∷ edge_ranges from to transfer n)
    (edge from to transfer)

unfoldable pub end_at : List ℕ → ℕ → Read Record
end_at s at = record_at s at Z [] end
