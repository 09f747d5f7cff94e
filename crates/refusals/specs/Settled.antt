-- A number is that of one fault alone, so that a refusal is settled by its number and place.
use Rattle.std.specs.Prelude.{ℕ, ◌≡◌, refl, cond, eqb}
use Rattle.std.proofs.Common.{sym, ap, ◌∙◌, arith}
use Rattle.refusals.specs.declared.Fault.{Fault}
use Rattle.refusals.specs.declared.Fault.TheVariants.{CutShort, OtherKind, OutOfOrder, OutOfRange, BadLabel, BytesAfter, FewRows, Cycle, LowBudget, Late}
use Rattle.refusals.specs.declared.Refusal.{Refusal}
use Rattle.refusals.specs.Numbers.{number}

-- The fault with this number.
fault_of : ℕ → Fault
fault_of n =
    cond (eqb n 1) CutShort (
    cond (eqb n 2) OtherKind (
    cond (eqb n 3) OutOfOrder (
    cond (eqb n 4) OutOfRange (
    cond (eqb n 5) BadLabel (
    cond (eqb n 6) BytesAfter (cond (eqb n 7) FewRows (cond (eqb n 8) Cycle (cond (eqb n 9) LowBudget Late)))
    )
    )
    )
    )
    )

fault_again : (f : Fault) → fault_of (number f) ≡ f
unfolding fault_of
fault_again CutShort = refl
fault_again OtherKind = refl
fault_again OutOfOrder = refl
fault_again OutOfRange = refl
fault_again BadLabel = refl
fault_again BytesAfter = refl
fault_again FewRows = refl
fault_again Cycle = refl
fault_again LowBudget = refl
fault_again Late = refl

pub number_settled : (f g : Fault) → number f ≡ number g → f ≡ g
number_settled f g same = sym (fault_again f) ∙ ap fault_of same ∙ fault_again g

pub refusal_settled : (a b : Refusal) → number a.fault ≡ number b.fault → a.place ≡ b.place → a ≡ b
refusal_settled a b same place =
    let fault = number_settled a.fault b.fault same in
    λ t. record { fault = fault t; place = place t }

-- No fault has the number 0.
pub number_not_0 : (fault : Fault) → 0 ≡ number fault → ⊥
number_not_0 CutShort e = omega arith
number_not_0 OtherKind e = omega arith
number_not_0 OutOfOrder e = omega arith
number_not_0 OutOfRange e = omega arith
number_not_0 BadLabel e = omega arith
number_not_0 BytesAfter e = omega arith
number_not_0 FewRows e = omega arith
number_not_0 Cycle e = omega arith
number_not_0 LowBudget e = omega arith
number_not_0 Late e = omega arith
