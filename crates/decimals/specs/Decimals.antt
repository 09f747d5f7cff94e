-- The digits of a number: the last one stands after those of a tenth of it. So there are at most k of them below 10 ^ k.
use Rattle.std.specs.Prelude.{ℕ, zero, suc, ◌+◌, ◌/◌, ◌%◌, ◌^◌, ◌≤◌, ◌<◌, ◌≡◌, refl, Bool, true, false, cond, [], ◌∷◌, ◌++◌, ltb, length}
use Rattle.std.proofs.Common.{ap, ◌∙◌, pow-suc, add-one, arith, length-append}
use Rattle.std.proofs.Math.Decide.{dec_lt}
use borrow.Author.Tests.{lt-ltb, le-ltb, ltb-false}
use Rattle.rules.specs.Text.{digits, decimal}

-- Any count that is enough gives the same digits.
digits_enough : (j k x : ℕ) → x < j → x < k → digits j x ≡ digits k x
unfolding digits
digits_enough zero k x l m = absurd (omega arith)
digits_enough (suc j) zero x l m = absurd (omega arith)
digits_enough (suc j) (suc k) x l m = go (ltb x 10) refl (digits_enough j k (x / 10))
  where
    go :
        (t : Bool) → ltb x 10 ≡ t → (x / 10 < j → x / 10 < k → digits j (x / 10) ≡ digits k (x / 10))
        → cond t ((48 + x) ∷ []) (digits j (x / 10) ++ ((48 + x % 10) ∷ [])) ≡ cond t ((48 + x) ∷ []) (digits k (x / 10) ++ ((48 + x % 10) ∷ []))
    go true e less = refl
    go false e less =
        let more = ltb-false x 10 e in
        ap (λ front. front ++ ((48 + x % 10) ∷ [])) (less (omega arith) (omega arith))

module _ (x : ℕ) where
  pub decimal_digit : x < 10 → decimal x ≡ (48 + x) ∷ []
  unfolding decimal digits
  decimal_digit l = rw (add-one x, lt-ltb x 10 l)

  pub decimal_longer : 10 ≤ x → decimal x ≡ decimal (x / 10) ++ ((48 + x % 10) ∷ [])
  unfolding decimal digits
  decimal_longer m =
      rw (add-one x, le-ltb x 10 m)
      (ap (λ front. front ++ ((48 + x % 10) ∷ [])) (digits_enough x (x / 10 + 1) (x / 10) (omega arith) (omega arith)))

  pub length_longer : 10 ≤ x → length (decimal x) ≡ length (decimal (x / 10)) + 1
  length_longer m = ap length (decimal_longer m) ∙ length-append (decimal (x / 10)) _

pub decimal_length : (k x : ℕ) → x < 10 ^ suc k → length (decimal x) ≤ suc k
decimal_length zero x l = rw (decimal_digit x (omega arith)) (omega arith)
decimal_length (suc k) x l = go (dec_lt x 10) (decimal_length k (x / 10))
  where
    go : Dec (x < 10) → (x / 10 < 10 ^ suc k → length (decimal (x / 10)) ≤ suc k) → length (decimal x) ≤ suc (suc k)
    go (yes few) tenth = rw (decimal_digit x few) (omega arith)
    go (no many) tenth = omega (arith, length_longer x (omega arith), tenth (omega (arith, pow-suc 10 (suc k))))
