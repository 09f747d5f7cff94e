-- What HBCS chooses, where the cheapest processor leaves enough for the tasks still to come: then that one may be taken, and the choice is a processor
-- that may be, with the highest score among those, ties to earlier finish, then lower number.
use Rattle.std.specs.Prelude.{ℕ, ◌≤◌, ◌<◌, ◌≡◌, refl, true, false}
use Rattle.std.proofs.Common.{sym}
use native.Mathlib.Omega.{arith}
use Rattle.rules.specs.Orders.{Order, tie, lower, higher}
use Rattle.rules.specs.Method.{Question, best, may_be_taken, score, preferred, HBCS}
use Rattle.laws.specs.Folds.{lowest_at_most, lowest_attained}
use Rattle.laws.specs.Orders.{lower_false, higher_false}
use Rattle.laws.specs.First.{first_passes}
use Rattle.laws.specs.Method.{HBCS_chooses_among}
use Rattle.laws.specs.Strict.{Strict, tie_strict, lower_strict, higher_strict, first_among_unbeaten, first_among_lowest}
use Rattle.demands.specs.Ground.Best.{MayBeTaken, best_below, may_of_test, test_of_may}
use Rattle.demands.specs.Ground.MethodLaws.{ChoosesProcessors, LeavesEnough, CheapestLeavesEnough, KeepsWithin}

-- "The highest score among those that may be taken wins; ties to earlier finish, then lower number."
pub record Wins (q : Question) (j : ℕ) : Type 0 where
  pub processor : j < q.processors
  pub may : may_be_taken q j ≡ true
  pub highest : (i : ℕ) → i < q.processors → may_be_taken q i ≡ true → score q i ≤ score q j
  pub then_earliest : (i : ℕ) → i < q.processors → may_be_taken q i ≡ true → score q i ≡ score q j → q.finish j ≤ q.finish i
  pub then_lowest : (i : ℕ) → i < q.processors → may_be_taken q i ≡ true → score q i ≡ score q j → q.finish i ≡ q.finish j → j ≤ i

module _ (q : Question) where
  -- Ties of those that may be taken.
  abbrev ties : Order
  ties = higher (score q) (lower q.finish tie)

  ties_strict : Strict ties
  ties_strict = higher_strict (score q) (lower_strict q.finish tie_strict)

  module _ (i : ℕ) (below : i < q.processors) (passes : may_be_taken q i ≡ true) where
    unbeaten : (score q i ≤ score q (HBCS q)) × (score q (HBCS q) ≡ score q i → lower q.finish tie i (HBCS q) ≡ false)
    unfolding HBCS preferred
    unbeaten =
        (higher_false (score q) (lower q.finish tie) i (HBCS q)).0
        (first_among_unbeaten (may_be_taken q) ties_strict q.processors i below passes)

    lowest_of_equals : score q i ≡ score q (HBCS q) → q.finish i ≡ q.finish (HBCS q) → HBCS q ≤ i
    unfolding HBCS preferred
    lowest_of_equals e f =
        first_among_lowest (may_be_taken q) ties_strict q.processors i below passes
        ((higher_false (score q) (lower q.finish tie) (HBCS q) i).1
        (omega arith, λ _. (lower_false q.finish tie (HBCS q) i).1 (omega arith, λ _. unfold tie in refl)))

  -- A processor with the lowest cost may be taken.
  pub cheapest_may_be_taken :
      CheapestLeavesEnough q → (j : ℕ) → j < q.processors → ((k : ℕ) → k < q.processors → q.cost j ≤ q.cost k) → MayBeTaken q (best q) j
  cheapest_may_be_taken enough j below cheapest =
      let (k, there, lowest) = lowest_attained q.processors q.cost (omega arith) in
      record {
        processor = below;
        as_best = cheapest (best q) (best_below q j below);
        leaves_enough = omega (arith, cheapest k there);
      }

  module _ (some : 1 ≤ q.processors) (enough : CheapestLeavesEnough q) where
    -- So the choice may be.
    pub HBCS_may_be_taken : may_be_taken q (HBCS q) ≡ true
    unfolding HBCS preferred
    HBCS_may_be_taken =
        let (j, below, lowest) = lowest_attained q.processors q.cost some in
        let may = cheapest_may_be_taken enough j below (λ k l. omega (arith, lowest_at_most q.processors q.cost k l)) in
        first_passes (may_be_taken q) ties q.processors j below (test_of_may q j may)

    pub HBCS_wins : Wins q (HBCS q)
    HBCS_wins =
        record {
          processor = HBCS_chooses_among.takes_processor q some;
          may = HBCS_may_be_taken;
          highest = λ i below passes. (unbeaten i below passes).0;
          then_earliest = λ i below passes e. ((lower_false q.finish tie i (HBCS q)).0 ((unbeaten i below passes).1 (sym e))).0;
          then_lowest = lowest_of_equals;
        }

    HBCS_leaves_enough : LeavesEnough q (HBCS q)
    HBCS_leaves_enough = (may_of_test q (HBCS q) (HBCS_chooses_among.takes_processor q some) HBCS_may_be_taken).leaves_enough

pub HBCS_chooses_processors : ChoosesProcessors HBCS
HBCS_chooses_processors = HBCS_chooses_among.takes_processor

pub HBCS_keeps_within : KeepsWithin HBCS
HBCS_keeps_within = HBCS_leaves_enough
