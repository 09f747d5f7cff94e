-- The number that an argument of a program spells.
use Rattle.std.specs.Prelude.{ℕ, zero, suc, ◌+◌, ◌*◌, ◌-◌, ◌/◌, ◌^◌, min, ◌≤◌, ◌<◌, ◌≡◌, refl, List, [], ◌++◌, length, get_or}
use Rattle.std.proofs.Math.Decide.{dec_lt}
use Rattle.std.proofs.Common.{pow-suc, add-one, arith, length-append}
use Rattle.std.proofs.Math.Nat.{pow-le-pow_right}
use Rattle.std.proofs.Math.ListN.{get_or-append}
use Rattle.std.proofs.Math.Seq.{get_or-append_seam}
use Rattle.rules.specs.Text.{decimal}
use Rattle.decimals.specs.Decimals.{decimal_digit, decimal_longer, decimal_length}

-- By its first k bytes, each of which counts what it is above `0`.
unfoldable pub spelled : ℕ → List ℕ → ℕ
spelled zero s = 0
spelled (suc k) s = spelled k s * 10 + (get_or s k 0 - 48)

-- At most 17 are read.
unfoldable pub number_of : List ℕ → ℕ
number_of s = spelled (min (length s) 17) s

-- Bytes after those that are read change nothing.
spelled_front : (k : ℕ) (s t : List ℕ) → k ≤ length s → spelled k (s ++ t) ≡ spelled k s
unfolding spelled
spelled_front zero s t l = refl
spelled_front (suc k) s t l = rw (spelled_front k s t (omega arith), get_or-append s t 0 k l)

-- The digits of a number spell it.
spelled_decimal : (k x : ℕ) → x < 10 ^ suc k → spelled (length (decimal x)) (decimal x) ≡ x
unfolding spelled
spelled_decimal zero x l = rw (decimal_digit x (omega arith)) (omega arith)
spelled_decimal (suc k) x l = go (dec_lt x 10) (spelled_decimal k (x / 10))
  where
    go : Dec (x < 10) → (x / 10 < 10 ^ suc k → spelled (length (decimal (x / 10))) (decimal (x / 10)) ≡ x / 10)
        → spelled (length (decimal x)) (decimal x) ≡ x
    go (yes few) tenth = rw (decimal_digit x few) (omega arith)
    go (no many) tenth =
        let front = decimal (x / 10) in
        rw (
          decimal_longer x (omega arith),
          length-append front _,
          add-one (length front),
          spelled_front (length front) front _ (omega arith),
          tenth (omega (arith, pow-suc 10 (suc k))),
          get_or-append_seam front _ [] 0,
        )
        (omega arith)

-- So 17 digits or fewer, as they are printed, are read as their number.
pub number_of_decimal : (x : ℕ) → x < 10 ^ 17 → number_of (decimal x) ≡ x
unfolding number_of
number_of_decimal x l =
    let all : min (length (decimal x)) 17 ≡ length (decimal x) = omega (arith, decimal_length 16 x l) in
    rw all (spelled_decimal 16 x l)

-- A bound that each byte keeps, whatever it is: so 17 of them spell less than 64 bits hold.
abbrev pub Small : (k x : ℕ) → Type 0
Small k x = x + 23 ≤ 23 * 10 ^ k

module _ (k x d : ℕ) (small : Small k x) (digit : d ≤ 207) where
  pub small_next : Small (k + 1) (x * 10 + d)
  small_next = rw (add-one k, pow-suc 10 k) (omega arith)

  pub small_fits : k < 17 → x * 10 + d < 2 ^ 64
  small_fits l = omega (arith, pow-le-pow_right {n = 10} (omega arith) {i = k} {j = 16} (omega arith))
