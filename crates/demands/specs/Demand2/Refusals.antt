-- The order of the refusals: what comes is the refusal, where its test holds, and else what the later checks say.
use Rattle.std.specs.Prelude.{ℕ, ◌≡◌, refl, Bool, true, false}
use Rattle.rules.specs.Answer.{Outcome, refusal, refuse}

pub refuse_either :
    (P : Outcome → Type 0) (test : Bool) (number place : ℕ) (later : Outcome) → (test ≡ true → P (refusal number place)) → (test ≡ false → P later)
    → P (refuse test number place later)
unfolding refuse
refuse_either P true number place later now then_later = now refl
refuse_either P false number place later now then_later = then_later refl
