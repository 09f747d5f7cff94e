-- What it takes for a record to pass, said of the bytes: its kind, its whole body, room for an edge, its numbers or its place in the order, its ranges and its label.
use Rattle.std.specs.Prelude.{ℕ, ◌+◌, ◌*◌, ◌-◌, ◌≤◌, ◌<◌, ◌≡◌, List, ◌⊎◌, length}
use Rattle.label.specs.Label.{Label}
use Rattle.rules.specs.Fields.{Kind, H, D, K, P, Q, M, T, W, E, Z, kind_byte, size, byte, H_tasks, H_processors, H_budget, D_deadline, K_share}
use Rattle.rules.specs.Fields.{P_processor, P_price, Q_minimum, M_processor, M_begin, T_task, T_label, W_task, W_processor, W_minutes, E_from, E_to}
use Rattle.good.specs.Good.{Between, GoodEdge, GoodWindow, Apart}

-- The records of which "at most one" may stand: a `D`, and a `K`.
pub data Single : Type 0 where
  deadline share : Single

-- The two kinds of processor records.
pub data ProcessorKind : Type 0 where
  as_P as_Q : ProcessorKind

-- A record as it may be due: of one kind, with its number, its two numbers, or how many of its kind stand right before it.
pub data Wanted : Type 0 where
  header : Wanted
  single : (o : Single) → Wanted
  processor : (k : ProcessorKind) (j : ℕ) → Wanted
  task : (i : ℕ) → Wanted
  minutes : (i j : ℕ) → Wanted
  window : (before : ℕ) → Wanted
  edge : (before : ℕ) → Wanted
  end : Wanted

abbrev pub kind_of : Wanted → Kind
kind_of header = H
kind_of (single deadline) = D
kind_of (single share) = K
kind_of (processor as_P j) = P
kind_of (processor as_Q j) = Q
kind_of (task i) = T
kind_of (minutes i j) = W
kind_of (window before) = M
kind_of (edge before) = E
kind_of end = Z

-- "at most 512 edges": before an edge there are fewer.
abbrev pub Room : Wanted → Type 0
Room (edge before) = before < 512
Room header = Unit {0}
Room (single o) = Unit {0}
Room (processor k j) = Unit {0}
Room (window before) = Unit {0}
Room (task i) = Unit {0}
Room (minutes i j) = Unit {0}
Room end = Unit {0}

-- The record at `at` is the first of its kind, or stands so to the one before it, which ends there.
abbrev pub After : Kind → (ℕ → ℕ → Type 0) → (at before : ℕ) → Type 0
After kind so at before = (before ≡ 0) ⊎ so (at - size kind) at

-- It is above that one: by the first number, or by the second where the first are equal.
abbrev pub IsAbove : (first second : ℕ → ℕ) → (before at : ℕ) → Type 0
IsAbove first second before at = (first before < first at) ⊎ ((first before ≡ first at) × (second before < second at))

-- "a number, or an edge's place in the rising order": that they are the ones due, in the record at `at`. Of an edge: "each pair (from, to) greater
-- than the one before, by from first and then to". Of a window: "rising by processor, then begin, and none that begins before the same processor's
-- previous window ends".
abbrev pub NumbersDue : List ℕ → ℕ → Wanted → Type 0
NumbersDue s at (processor k j) = P_processor s at ≡ j
NumbersDue s at (task i) = T_task s at ≡ i
NumbersDue s at (minutes i j) = (W_task s at ≡ i) × (W_processor s at ≡ j)
NumbersDue s at (edge before) = After E (IsAbove (E_from s) (E_to s)) at before
NumbersDue s at (window before) = After M (IsAbove (M_processor s) (M_begin s)) at before × After M (Apart s) at before
NumbersDue s at header = Unit {0}
NumbersDue s at (single o) = Unit {0}
NumbersDue s at end = Unit {0}

-- "a processor's fifth window": windows rise by processor, so the four before it are all of its processor where the first of them is
-- (`fifth_after_four`).
abbrev pub IsFifth : List ℕ → (at before : ℕ) → Type 0
IsFifth s at before = (4 ≤ before) × (M_processor s (at - 4 * size M) ≡ M_processor s at)

-- "Ranges: n 1..64, m 1..16, budget 0..20,000,000, deadline 1..200,000, share 0..1,000, and beside a `K` a budget of 0 in `H`, price 0..100, minimum
-- 0..10,000, a window's processor below m, its begin below its end, its end at most 20,000, at most four windows of a processor, minutes 0..2,000, transfer
-- 0..1,000, edge ends below n and unequal".
abbrev pub FieldsInRange : List ℕ → ℕ → Wanted → Type 0
FieldsInRange s at header = Between 1 (H_tasks s at) 64 × Between 1 (H_processors s at) 16 × Between 0 (H_budget s at) 20_000_000
FieldsInRange s at (single deadline) = Between 1 (D_deadline s at) 200_000
FieldsInRange s at (single share) = Between 0 (K_share s at) 1_000 × (H_budget s 0 ≡ 0)
FieldsInRange s at (processor as_P j) = Between 0 (P_price s at) 100
FieldsInRange s at (processor as_Q j) = Between 0 (P_price s at) 100 × Between 0 (Q_minimum s at) 10_000
FieldsInRange s at (window before) = GoodWindow s (H_processors s 0) at × (IsFifth s at before → ⊥)
FieldsInRange s at (minutes i j) = Between 0 (W_minutes s at) 2_000
FieldsInRange s at (edge before) = GoodEdge s (H_tasks s 0) at
FieldsInRange s at (task i) = Unit {0}
FieldsInRange s at end = Unit {0}

-- "A label is 1 to 8 bytes of the list, then spaces to the end of the field."
abbrev pub HasLabel : List ℕ → ℕ → Wanted → Type 0
HasLabel s at (task i) = (len : ℕ) × Label s (T_label at) len
HasLabel s at header = Unit {0}
HasLabel s at (single o) = Unit {0}
HasLabel s at (processor k j) = Unit {0}
HasLabel s at (window before) = Unit {0}
HasLabel s at (minutes i j) = Unit {0}
HasLabel s at (edge before) = Unit {0}
HasLabel s at end = Unit {0}

-- A record of that kind stands at `at`, whole.
pub record Whole (s : List ℕ) (at : ℕ) (w : Wanted) : Type 0 where
  pub of_kind : byte s at ≡ kind_byte (kind_of w)
  pub to_its_end : at + size (kind_of w) ≤ length s

-- The record at `at` passes.
pub record Passes (s : List ℕ) (at : ℕ) (w : Wanted) : Type 0 where
  pub whole : Whole s at w
  pub room : Room w
  pub numbers : NumbersDue s at w
  pub in_range : FieldsInRange s at w
  pub label : HasLabel s at w
