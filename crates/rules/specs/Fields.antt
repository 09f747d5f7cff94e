-- The table of request records: "One byte of kind, then a body whose length the kind fixes."
use Rattle.std.specs.Prelude.{ℕ, ◌+◌, ◌*◌, List, get_or}

-- Each kind's byte, and how many bytes its body has.
pub data Kind : Type 0 where
  H D K P Q M T W E Z : Kind

unfoldable pub kind_byte : Kind → ℕ
kind_byte H = 0x48
kind_byte D = 0x44
kind_byte K = 0x4B
kind_byte P = 0x50
kind_byte Q = 0x51
kind_byte M = 0x4D
kind_byte T = 0x54
kind_byte W = 0x57
kind_byte E = 0x45
kind_byte Z = 0x5A

unfoldable pub body : Kind → ℕ
body H = 6
body D = 4
body K = 2
body P = 2
body Q = 4
body M = 9
body T = 9
body W = 4
body E = 4
body Z = 0

unfoldable pub size : Kind → ℕ
size k = 1 + body k

-- "Numbers of 2 and 4 bytes are little-endian." Past the input's end a byte counts as 0; no record that is read reaches there.
unfoldable pub byte : List ℕ → ℕ → ℕ
byte s at = get_or s at 0

unfoldable pub two_bytes : List ℕ → ℕ → ℕ
two_bytes s at = byte s at + 256 * byte s (at + 1)

unfoldable pub four_bytes : List ℕ → ℕ → ℕ
four_bytes s at = two_bytes s at + 65_536 * two_bytes s (at + 2)

-- The table's fields, by the letter of their kind, in a record that begins at `at`.
unfoldable pub H_tasks : List ℕ → ℕ → ℕ
H_tasks s at = byte s (at + 1)

unfoldable pub H_processors : List ℕ → ℕ → ℕ
H_processors s at = byte s (at + 2)

unfoldable pub H_budget : List ℕ → ℕ → ℕ
H_budget s at = four_bytes s (at + 3)

unfoldable pub D_deadline : List ℕ → ℕ → ℕ
D_deadline s at = four_bytes s (at + 1)

unfoldable pub K_share : List ℕ → ℕ → ℕ
K_share s at = two_bytes s (at + 1)

unfoldable pub P_processor : List ℕ → ℕ → ℕ
P_processor s at = byte s (at + 1)

unfoldable pub P_price : List ℕ → ℕ → ℕ
P_price s at = byte s (at + 2)

-- "`Q` has the body of `P` plus 2 bytes, the minimum": the processor and its price stand in a `Q` where they stand in a `P`.
unfoldable pub Q_minimum : List ℕ → ℕ → ℕ
Q_minimum s at = two_bytes s (at + 3)

unfoldable pub M_processor : List ℕ → ℕ → ℕ
M_processor s at = byte s (at + 1)

unfoldable pub M_begin : List ℕ → ℕ → ℕ
M_begin s at = four_bytes s (at + 2)

unfoldable pub M_end : List ℕ → ℕ → ℕ
M_end s at = four_bytes s (at + 6)

unfoldable pub T_task : List ℕ → ℕ → ℕ
T_task s at = byte s (at + 1)

-- A label is kept as its offset.
unfoldable pub T_label : ℕ → ℕ
T_label at = at + 2

unfoldable pub W_task : List ℕ → ℕ → ℕ
W_task s at = byte s (at + 1)

unfoldable pub W_processor : List ℕ → ℕ → ℕ
W_processor s at = byte s (at + 2)

unfoldable pub W_minutes : List ℕ → ℕ → ℕ
W_minutes s at = two_bytes s (at + 3)

unfoldable pub E_from : List ℕ → ℕ → ℕ
E_from s at = byte s (at + 1)

unfoldable pub E_to : List ℕ → ℕ → ℕ
E_to s at = byte s (at + 2)

unfoldable pub E_transfer : List ℕ → ℕ → ℕ
E_transfer s at = two_bytes s (at + 3)
