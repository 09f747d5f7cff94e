-- A digit stored just before those that stand in the array already.
use Rattle.std.proofs.Common.{ℕ, ◌+◌, ◌-◌, ◌/◌, ◌%◌, ◌≤◌, ◌<◌, ◌≡◌, List, [], ◌∷◌, ◌++◌, length, take, drop, set, ◌∙◌, ap, append_assoc, arith, length-drop}
use Rattle.std.proofs.Math.ListN.{length-set}
use Rattle.std.proofs.Math.Seq.{take_all}
use Rattle.std.proofs.lemmas.List.{drop-set}
use Rattle.rules.specs.Text.{decimal}
use Rattle.decimals.specs.Decimals.{decimal_digit, decimal_longer}

module _ (x front place : ℕ) (digits : List ℕ) (parts : decimal x ≡ decimal front ++ drop place digits) (some : 1 ≤ place) (within : place ≤ length digits) where
  stored : (d : ℕ) → drop (place - 1) (set digits (place - 1) d) ≡ d ∷ drop place digits
  stored d =
      let back : place - 1 + 1 ≡ place = omega arith in
      drop-set digits (place - 1) d (omega arith) ∙ ap (λ k. d ∷ drop k digits) back

  pub digit_more : 10 ≤ front → decimal x ≡ decimal (front / 10) ++ drop (place - 1) (set digits (place - 1) (48 + front % 10))
  digit_more many =
      rw (stored (48 + front % 10), parts, decimal_longer front many)
      (append_assoc (decimal (front / 10)) ((48 + front % 10) ∷ []) (drop place digits))

  -- The digits from the first on, which are those to the end of the array.
  pub digits_all : front < 10 → take (length digits - (place - 1)) (drop (place - 1) (set digits (place - 1) (48 + front))) ≡ decimal x
  digits_all few =
      let last = set digits (place - 1) (48 + front) in
      take_all _ _ (omega (arith, length-drop (place - 1) last, length-set digits (place - 1) (48 + front)))
      ∙ rw (stored (48 + front), parts, decimal_digit front few)
