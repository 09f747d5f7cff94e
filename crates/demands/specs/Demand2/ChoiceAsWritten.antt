-- The choice for each task of a plan, in the words of document 01: best, what may be taken, and the highest score among those.
use Rattle.std.specs.Prelude.{ℕ, ◌≤◌, ◌≡◌, List, [], ◌∷◌}
use Rattle.std.proofs.Common.{arith}
use Rattle.rules.specs.Workflow.{Workflow}
use Rattle.rules.specs.Rows.{Placed}
use Rattle.rules.specs.Method.{Question, best, score, by_HBCS}
use Rattle.rules.specs.Placing.{question}
use Rattle.demands.specs.Ground.Best.{IsBest, MayBeTaken, best_is_best, may_of_test, test_of_may}
use Rattle.demands.specs.Demand2.HBCSChoice.{Wins}
use Rattle.demands.specs.Demand2.Worthiness.{AtMost, worthiness, scores_compare_worthiness}
use Rattle.demands.specs.Demand2.Steps.{EachStep, AsTheMethod}

-- "The highest score among those that may be taken wins; ties to earlier finish, then lower number. This is equation (10) of 001 over a common
-- denominator."
pub record Chosen (q : Question) (b j : ℕ) : Type 0 where
  pub best : IsBest q b
  pub may : MayBeTaken q b j
  pub highest : (i : ℕ) → MayBeTaken q b i → score q i ≤ score q j
  pub worthiest : (i : ℕ) → MayBeTaken q b i → AtMost (worthiness q i) (worthiness q j)
  pub then_earliest : (i : ℕ) → MayBeTaken q b i → score q i ≡ score q j → q.finish j ≤ q.finish i
  pub then_lowest : (i : ℕ) → MayBeTaken q b i → score q i ≡ score q j → q.finish i ≡ q.finish j → j ≤ i

module _ (q : Question) where
  chosen_of_wins : (j : ℕ) → Wins q j → Chosen q (best q) j
  chosen_of_wins j w =
      let highest : (i : ℕ) → MayBeTaken q (best q) i → score q i ≤ score q j = λ i may. w.highest i may.processor (test_of_may q i may) in
      record {
        best = best_is_best q (omega (arith, w.processor));
        may = may_of_test q j w.processor w.may;
        highest = highest;
        worthiest = λ i may. (scores_compare_worthiness q i j).0 (highest i may);
        then_earliest = λ i may. w.then_earliest i may.processor (test_of_may q i may);
        then_lowest = λ i may. w.then_lowest i may.processor (test_of_may q i may);
      }

-- Each task of a plan by HBCS is on the processor so chosen.
pub record ChoiceAsWritten (W : Workflow) (before : List Placed) (p : Placed) : Type 0 where
  pub best : ℕ
  pub chosen : Chosen (question W before p.task) best p.row.processor

pub choices_as_written : (W : Workflow) (rows : List Placed) → EachStep (AsTheMethod by_HBCS W) rows → EachStep (ChoiceAsWritten W) rows
choices_as_written W [] steps = tt
choices_as_written W (p ∷ before) steps = (
  record { best = best (question W before p.task); chosen = chosen_of_wins (question W before p.task) p.row.processor steps.0.chosen },
  choices_as_written W before steps.1,
)
