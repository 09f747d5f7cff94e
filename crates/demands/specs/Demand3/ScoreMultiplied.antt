-- The score of a multiplied question: by how much it grows depends on which of F, B and RB are 0, and not on the processor.
use Prim.Native.Nat.{ℕ, zero, suc, ◌+◌, ◌*◌, ◌≤◌}
use Rattle.std.specs.Prelude.{◌≡◌}
use Rattle.std.proofs.Math.Path.{refl}
use Rattle.std.proofs.Common.{sym, ap, ◌∙◌, arith}
use Rattle.std.proofs.Math.Nat.{mul-zero, mul-pos}
use Rattle.rules.specs.Method.{or_one}
use Rattle.laws.specs.Method.{or_one_of_positive}

or_one_multiplied : (a x : ℕ) → 1 ≤ a → 1 ≤ x → or_one (a * x) ≡ a * or_one x
or_one_multiplied a x p q = or_one_of_positive (a * x) (mul-pos p q) ∙ ap (λ z. a * z) (sym (or_one_of_positive x q))

-- The growth, from a, c, F, B and RB.
unfoldable pub growth : (a c F B RB : ℕ) → ℕ
growth a c zero B RB = c * c
growth a c (suc f) zero zero = a
growth a c (suc f) zero (suc r) = a * c
growth a c (suc f) (suc b) zero = a * c
growth a c (suc f) (suc b) (suc r) = a * c * c

module _ (a c : ℕ) (pa : 1 ≤ a) (pc : 1 ≤ c) where
  pub growth_positive : (F B RB : ℕ) → 1 ≤ growth a c F B RB
  unfolding growth
  growth_positive zero B RB = mul-pos pc pc
  growth_positive (suc f) zero zero = pa
  growth_positive (suc f) zero (suc r) = mul-pos pa pc
  growth_positive (suc f) (suc b) zero = mul-pos pa pc
  growth_positive (suc f) (suc b) (suc r) = mul-pos (mul-pos pa pc) pc

  -- `dearer` and `later` are the two differences of the score. Where F is 0 all finishes are the same, where B is 0 all costs, and where
  -- RB is 0 so is RCB.
  pub score_grows :
      (F B RB dearer RCB later : ℕ) → (F ≡ 0 → later ≡ 0) → (B ≡ 0 → dearer ≡ 0) → (RB ≡ 0 → RCB ≡ 0)
      → c * dearer * (c * RCB) * or_one (a * F) + a * later * or_one (c * B) * or_one (c * RB)
      ≡ growth a c F B RB * (dearer * RCB * or_one F + later * or_one B * or_one RB)
  unfolding growth or_one
  score_grows zero B RB d RCB e no_F no_B no_RB = rw (no_F refl, mul-zero a) (omega arith)
  score_grows (suc f) zero zero d RCB e no_F no_B no_RB =
      rw (no_B refl, no_RB refl, mul-zero c, or_one_multiplied a (suc f) pa (omega arith)) (omega arith)
  score_grows (suc f) zero (suc r) d RCB e no_F no_B no_RB =
      rw (no_B refl, mul-zero c, or_one_multiplied a (suc f) pa (omega arith), or_one_multiplied c (suc r) pc (omega arith)) (omega arith)
  score_grows (suc f) (suc b) zero d RCB e no_F no_B no_RB =
      rw (no_RB refl, mul-zero c, or_one_multiplied a (suc f) pa (omega arith), or_one_multiplied c (suc b) pc (omega arith)) (omega arith)
  score_grows (suc f) (suc b) (suc r) d RCB e no_F no_B no_RB =
      rw (or_one_multiplied a (suc f) pa (omega arith), or_one_multiplied c (suc b) pc (omega arith), or_one_multiplied c (suc r) pc (omega arith)) (omega arith)
