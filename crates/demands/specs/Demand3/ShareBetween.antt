-- Demand 3 asks for a `K` of 0 or of 1,000, or none. The sample with budget 0 and a `K` of 100 is held to 24, which is 24 + 0.6 rounded down; with times by 3 and
-- prices by 2 it is held to 147, which is 6 times 24.5. So 3 are left, where nothing was.
use Rattle.std.specs.Prelude.{ℕ, ◌≤◌, ◌≡◌, refl, List, [], length}
use Rattle.std.proofs.Common.{sym, ap, ◌∙◌, arith}
use Rattle.rules.specs.Reading.{no_deadline, thousandths, Request}
use Rattle.rules.specs.Rows.{Row}
use Rattle.rules.specs.Method.{by_HBCS}
use Rattle.rules.specs.Answer.{planned, answer}
use Rattle.rules.specs.Multiplied.{multiplied_deadline, multiplied_interval, multiplied_answer}
use Rattle.rules.specs.Cases.{K_record, four_rows, given}
use Rattle.rules.specs.Starred.{sample}
use Rattle.demands.specs.Demand3.{SamePlan}
use Rattle.demands.specs.Demand3.SampleMultiplied.{below_two, three_by_two, BothGood}

-- The sample with this `K`, times by a and prices by b; and what reading makes of it.
pub shared : (a b k : ℕ) → List ℕ
shared a b k = sample a b 0 "prep    " (K_record k) []

read_shared : ℕ → Request
read_shared k =
    record {
      tasks = 3;
      processors = 2;
      budget = 0;
      deadline = no_deadline;
      share = thousandths k;
      prices_at = 10;
      windows_at = 16;
      windows = 0;
      tasks_at = 16;
      edges_at = 76;
      edges = 2;
    }

pub shared_both_good : BothGood 3 2 (shared 1 1 100) (shared 3 2 100)
unfolding given sample shared read_shared multiplied_deadline multiplied_interval
shared_both_good =
    record {
      end = 87;
      end' = 87;
      r = read_shared 100;
      r' = read_shared 100;
      good = refl;
      good' = refl;
      multiplied = record {
        tasks = refl;
        processors = refl;
        budget = refl;
        deadline = refl;
        price = below_two _ refl refl;
        minimum = below_two _ refl refl;
        windows = below_two _ refl refl;
        minutes = three_by_two _ refl refl refl refl refl refl;
        edges = refl;
        from = below_two _ refl refl;
        to = below_two _ refl refl;
        transfer = below_two _ refl refl;
      };
      same_share = refl;
    }

pub plans_with_a_share : (answer (shared 1 1 100) 4 ≡ planned 3 18 24 0) × (answer (shared 3 2 100) 4 ≡ planned 3 54 144 3)
unfolding given sample shared
plans_with_a_share = (refl, refl)

pub share_between_breaks_demand_3 :
    ((a b : ℕ) → 1 ≤ a → 1 ≤ b → (s t : List ℕ) → BothGood a b s t → (lent lent' : List Row) → length lent' ≡ length lent
    → SamePlan by_HBCS a b s t lent lent')
    → ⊥
unfolding multiplied_answer
share_between_breaks_demand_3 same =
    let kept = (same 3 2 (omega arith) (omega arith) (shared 1 1 100) (shared 3 2 100) shared_both_good four_rows four_rows refl).answers in
    let both : planned 3 54 144 3 ≡ planned 3 54 144 0 = sym plans_with_a_share.1 ∙ kept ∙ ap (multiplied_answer 3 2) plans_with_a_share.0 in
    let z : ◌≡◌ {A = ℕ} 3 0 = cc in
    omega (arith, z)
