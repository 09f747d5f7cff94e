-- The hypotheses of demand 3 hold of document 01's sample and its times by 3 and prices by 2: both pass reading and one is the other multiplied; of the
-- sample with a minimum, in other kinds, and with windows. All but b of at least 1 hold of the sample for nothing.
use Rattle.std.specs.Prelude.{ℕ, zero, suc, ◌+◌, ◌*◌, ◌<◌, ◌≡◌, refl, List, [], ◌++◌}
use Rattle.std.proofs.Common.{arith}
use Rattle.rules.specs.Records.{read}
use Rattle.rules.specs.Reading.{no_deadline, no_share, Request, read_request}
use Rattle.rules.specs.Workflow.{workflow}
use Rattle.rules.specs.Multiplied.{multiplied_deadline, multiplied_interval}
use Rattle.rules.specs.Cases.{P_record, Q_record, M_record, given}
use Rattle.rules.specs.Starred.{sample, S}
use Rattle.rules.specs.Corners.{with_processors}
use Rattle.demands.specs.Demand3.{MultipliedBy}
use Rattle.demands.specs.Demand3.BudgetMultiplied.{ExactShare, no_K}

pub below_two : (P : ℕ → Type 0) → P 0 → P 1 → (i : ℕ) → i < 2 → P i
below_two P at_0 at_1 zero l = at_0
below_two P at_0 at_1 (suc zero) l = at_1
below_two P at_0 at_1 (suc (suc i)) l = absurd (omega arith)

pub three_by_two : (P : ℕ → ℕ → Type 0) → P 0 0 → P 0 1 → P 1 0 → P 1 1 → P 2 0 → P 2 1 → (i j : ℕ) → i < 3 → j < 2 → P i j
three_by_two P of_0 of_0' of_1 of_1' of_2 of_2' zero j l m = below_two (P 0) of_0 of_0' j m
three_by_two P of_0 of_0' of_1 of_1' of_2 of_2' (suc i) j l m =
    below_two (λ k. P (suc k) j) (below_two (P 1) of_1 of_1' j m) (below_two (P 2) of_2 of_2' j m) i (omega arith)

-- What reading makes of the sample with this budget.
sampled : ℕ → Request
sampled budget =
    record {
      tasks = 3;
      processors = 2;
      budget = budget;
      deadline = no_deadline;
      share = no_share;
      prices_at = 7;
      windows_at = 13;
      windows = 0;
      tasks_at = 13;
      edges_at = 73;
      edges = 2;
    }

-- The sample with times by a and prices by b, and this budget.
abbrev by : ℕ → ℕ → ℕ → List ℕ
by a b budget = sample a b budget "prep    " [] []

-- Two requests that demand 3 speaks of.
pub record BothGood (a b : ℕ) (s t : List ℕ) : Type 0 where
  pub end : ℕ
  pub end' : ℕ
  pub r : Request
  pub r' : Request
  pub good : read_request s ≡ read end r
  pub good' : read_request t ≡ read end' r'
  pub multiplied : MultipliedBy a b (workflow s r) (workflow t r')
  pub same_share : r'.share ≡ r.share

-- The sample and the sample multiplied: what is left to compute are the numbers that are multiplied.
both_good :
    (a b budget : ℕ) →
    let W = workflow (S 28) (sampled 28) in
    let W' = workflow (by a b budget) (sampled budget) in
    read_request (by a b budget) ≡ read 84 (sampled budget) → budget ≡ a * b * 28
    → ((j : ℕ) → j < 2 → W'.price j ≡ b * W.price j)
    → ((j : ℕ) → j < 2 → W'.minimum j ≡ a * b * W.minimum j)
    → ((i j : ℕ) → i < 3 → j < 2 → W'.minutes i j ≡ a * W.minutes i j)
    → ((e : ℕ) → e < 2 → W'.transfer e ≡ a * W.transfer e)
    → BothGood a b (S 28) (by a b budget)
unfolding given sample S sampled multiplied_deadline multiplied_interval
both_good a b budget reads product price minimum minutes transfer =
    record {
      end = 84;
      end' = 84;
      r = sampled 28;
      r' = sampled budget;
      good = refl;
      good' = reads;
      multiplied = record {
        tasks = refl;
        processors = refl;
        budget = product;
        deadline = refl;
        price = price;
        minimum = minimum;
        windows = below_two _ refl refl;
        minutes = minutes;
        edges = refl;
        from = below_two _ refl refl;
        to = below_two _ refl refl;
        transfer = transfer;
      };
      same_share = refl;
    }

abbrev pub tripled : List ℕ
tripled = by 3 2 168

pub sample_both_good : BothGood 3 2 (S 28) tripled
unfolding given sample S sampled
sample_both_good =
    both_good 3 2 168 refl refl (below_two _ refl refl) (below_two _ refl refl)
    (three_by_two _ refl refl refl refl refl refl)
    (below_two _ refl refl)

-- With other records before the tasks: a minimum of 10 beside one of 60, a `P` beside a `Q` with minimum 0, and windows of processor 0 from 5 to 7 and of
-- processor 1 from 0 to 1 and from 6 to 9.
abbrev pub once_with_more : List ℕ
once_with_more = with_processors (P_record 0 1 ++ Q_record 1 3 10 ++ M_record 0 5 7 ++ M_record 1 0 1 ++ M_record 1 6 9) (S 28)

abbrev pub tripled_with_more : List ℕ
tripled_with_more = with_processors (Q_record 0 2 0 ++ Q_record 1 6 60 ++ M_record 0 15 21 ++ M_record 1 0 3 ++ M_record 1 18 27) tripled

-- What reading makes of these, where the windows begin at that offset.
sampled_with : (budget windows_at : ℕ) → Request
sampled_with budget windows_at =
    record {
      tasks = 3;
      processors = 2;
      budget = budget;
      deadline = no_deadline;
      share = no_share;
      prices_at = 7;
      windows_at = windows_at;
      windows = 3;
      tasks_at = windows_at + 30;
      edges_at = windows_at + 90;
      edges = 2;
    }

pub more_both_good : BothGood 3 2 once_with_more tripled_with_more
unfolding given sample S sampled_with multiplied_deadline multiplied_interval
more_both_good =
    record {
      end = 116;
      end' = 118;
      r = sampled_with 28 15;
      r' = sampled_with 168 17;
      good = refl;
      good' = refl;
      multiplied = record {
        tasks = refl;
        processors = refl;
        budget = refl;
        deadline = refl;
        price = below_two _ refl refl;
        minimum = below_two _ refl refl;
        windows = below_two _ refl refl;
        minutes = three_by_two _ refl refl refl refl refl refl;
        edges = refl;
        from = below_two _ refl refl;
        to = below_two _ refl refl;
        transfer = below_two _ refl refl;
      };
      same_share = refl;
    }

-- Prices and the budget multiplied by 0.
abbrev pub for_nothing : List ℕ
for_nothing = by 1 0 0

pub for_nothing_both_good : BothGood 1 0 (S 28) for_nothing
unfolding given sample S sampled
for_nothing_both_good =
    both_good 1 0 0 refl refl (below_two _ refl refl) (below_two _ refl refl)
    (three_by_two _ refl refl refl refl refl refl)
    (below_two _ refl refl)

pub for_nothing_exact : ExactShare for_nothing_both_good.r.share
unfolding for_nothing_both_good both_good sampled
for_nothing_exact = no_K

-- Times and the budget multiplied by 0: since a task may take no minutes, such a request passes reading.
abbrev pub in_no_time : List ℕ
in_no_time = by 0 1 0

pub in_no_time_both_good : BothGood 0 1 (S 28) in_no_time
unfolding given sample S sampled
in_no_time_both_good =
    both_good 0 1 0 refl refl (below_two _ refl refl) (below_two _ refl refl)
    (three_by_two _ refl refl refl refl refl refl)
    (below_two _ refl refl)

pub in_no_time_exact : ExactShare in_no_time_both_good.r.share
unfolding in_no_time_both_good both_good sampled
in_no_time_exact = no_K
