-- Demand 3 asks for a and b of at least 1. The sample with prices and budget multiplied by 0 passes reading and gets another plan, since no processor is too
-- dear; and so does the sample with times and budget multiplied by 0, since none is faster.
use Rattle.std.specs.Prelude.{ℕ, ◌≤◌, ◌≡◌, refl, List, [], ◌∷◌, map, length, take, get_or}
use Rattle.std.proofs.Common.{sym, ap, ◌∙◌, arith}
use Rattle.rules.specs.Rows.{Row, no_row}
use Rattle.rules.specs.Method.{by_HBCS}
use Rattle.rules.specs.Answer.{planned, answer, rows_after}
use Rattle.rules.specs.Multiplied.{multiplied_row, multiplied_answer}
use Rattle.rules.specs.Cases.{row, four_rows, given}
use Rattle.rules.specs.Starred.{sample, S}
use Rattle.demands.specs.Demand3.{SamePlan}
use Rattle.demands.specs.Demand3.BudgetMultiplied.{ExactShare}
use Rattle.demands.specs.Demand3.SampleMultiplied.{BothGood, for_nothing, for_nothing_both_good, for_nothing_exact, in_no_time, in_no_time_both_good, in_no_time_exact}

-- `left` moves from processor 0 to processor 1, and the plan ends at 10 and not at 14.
pub plan_for_nothing :
    (answer for_nothing 4 ≡ planned 3 10 0 0) × (take 3 (rows_after for_nothing four_rows) ≡ row 1 0 4 0 ∷ row 1 4 8 0 ∷ row 1 8 10 0 ∷ [])
unfolding given sample
plan_for_nothing = (refl, refl)

sample_plan : answer (S 28) 4 ≡ planned 3 14 26 2
unfolding given sample S
sample_plan = refl

pub b_of_0_breaks_demand_3 :
    ((a b : ℕ) → 1 ≤ a → (s t : List ℕ) (both : BothGood a b s t) → ExactShare both.r.share → (lent lent' : List Row) → length lent' ≡ length lent
    → SamePlan by_HBCS a b s t lent lent')
    → ⊥
unfolding multiplied_answer
b_of_0_breaks_demand_3 same =
    let kept = (same 1 0 (omega arith) (S 28) for_nothing for_nothing_both_good for_nothing_exact four_rows four_rows refl).answers in
    let both : planned 3 10 0 0 ≡ planned 3 14 0 0 = sym plan_for_nothing.0 ∙ kept ∙ ap (multiplied_answer 1 0) sample_plan in
    let z : ◌≡◌ {A = ℕ} 10 14 = cc in
    omega (arith, z)

-- All tasks are on processor 0, where `prep` and `right` were on processor 1; length, cost and remainder are 0, as they would be.
pub plan_in_no_time :
    (answer in_no_time 4 ≡ planned 3 0 0 0) × (take 3 (rows_after in_no_time four_rows) ≡ row 0 0 0 0 ∷ row 0 0 0 0 ∷ row 0 0 0 0 ∷ [])
unfolding given sample
plan_in_no_time = (refl, refl)

sample_rows : take 3 (rows_after (S 28) four_rows) ≡ row 1 0 4 12 ∷ row 0 6 14 8 ∷ row 1 4 6 6 ∷ []
unfolding given sample S
sample_rows = refl

pub a_of_0_breaks_demand_3 :
    ((a b : ℕ) → 1 ≤ b → (s t : List ℕ) (both : BothGood a b s t) → ExactShare both.r.share → (lent lent' : List Row) → length lent' ≡ length lent
    → SamePlan by_HBCS a b s t lent lent')
    → ⊥
unfolding multiplied_row
a_of_0_breaks_demand_3 same =
    let kept = (same 0 1 (omega arith) (S 28) in_no_time in_no_time_both_good in_no_time_exact four_rows four_rows refl).rows 3 14 26 2 sample_plan in
    let both = sym plan_in_no_time.1 ∙ kept ∙ ap (map (multiplied_row 0 1)) sample_rows in
    let z : ◌≡◌ {A = ℕ} 0 1 = ap (λ rows. (get_or rows 0 no_row).processor) both in
    omega (arith, z)
