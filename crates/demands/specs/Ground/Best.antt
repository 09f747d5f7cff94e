-- Best, the cheapest, and what may be taken, as the rules say them.
use Rattle.std.specs.Prelude.{ℕ, ◌+◌, ◌≤◌, ◌<◌, ◌≡◌, true, leb}
use Rattle.std.proofs.Common.{sym, arith}
use Rattle.std.proofs.Math.Path.{ap₂}
use Rattle.std.proofs.Math.Bool.{◌&&◌, false≢true}
use Rattle.std.proofs.Math.Logic.{⊎_elim}
use Rattle.std.proofs.Math.Decide.{dec_le}
use borrow.Author.Tests.{leb-true, le-leb}
use Rattle.rules.specs.Orders.{tie, lower, first}
use Rattle.rules.specs.Method.{Question, best, may_be_taken, Cheapest}
use Rattle.laws.specs.Tests.{and_both}
use Rattle.laws.specs.Orders.{lower_true, lower_false}
use Rattle.laws.specs.First.{first_below}
use Rattle.laws.specs.Strict.{Strict, tie_strict, lower_strict, first_unbeaten, first_beats_lower}

-- The lowest by a first figure; ties to the lower by a second, then to the lower number.
pub record LowestBy (m : ℕ) (f g : ℕ → ℕ) (j : ℕ) : Type 0 where
  pub processor : j < m
  pub lowest : (k : ℕ) → k < m → f j ≤ f k
  pub then_lower : (k : ℕ) → k < m → f k ≡ f j → g j ≤ g k
  pub then_number : (k : ℕ) → k < m → f k ≡ f j → g k ≡ g j → j ≤ k

-- "Best: earliest finish; ties to lower cost, then lower number."
abbrev pub IsBest : Question → ℕ → Type 0
IsBest q b = LowestBy q.processors q.finish q.cost b

-- "each task to its lowest cost, ties to earliest finish, then lower number"
abbrev pub IsCheapest : Question → ℕ → Type 0
IsCheapest q j = LowestBy q.processors q.cost q.finish j

-- "j may be taken when cost(j) <= cost(best) and cost(j) <= RB - RCB."
pub record MayBeTaken (q : Question) (b j : ℕ) : Type 0 where
  pub processor : j < q.processors
  pub as_best : q.cost j ≤ q.cost b
  pub leaves_enough : q.cost j + q.RCB ≤ q.RB

module _ (m : ℕ) (f g : ℕ → ℕ) where
  -- There is one, the first by that order, and only one.
  abbrev the_first : ℕ
  the_first = first m (lower f (lower g tie))

  strict : Strict (lower f (lower g tie))
  strict = lower_strict f (lower_strict g tie_strict)

  not_beaten : (j : ℕ) → j < m → (f the_first ≤ f j) × (f j ≡ f the_first → g the_first ≤ g j)
  not_beaten j l =
      let (lowest, then_lower) = (lower_false f (lower g tie) j the_first).0 (first_unbeaten strict m j l) in
      (lowest, λ same. ((lower_false g tie j the_first).0 (then_lower same)).0)

  first_of_equals : (j : ℕ) → f j ≡ f the_first → g j ≡ g the_first → the_first ≤ j
  unfolding tie
  first_of_equals j one other = go (dec_le the_first j)
    where
      go : Dec (the_first ≤ j) → the_first ≤ j
      go (yes l) = l
      go (no higher) = absurd
          (⊎_elim (λ (h : f the_first < f j). omega arith)
          (λ h. ⊎_elim (λ (k : g the_first < g j). omega arith) (λ k. false≢true k.1) (lower_true g tie the_first j h.1))
          (lower_true f (lower g tie) the_first j (first_beats_lower strict m j (omega arith))))

  pub first_is_lowest_by : 1 ≤ m → LowestBy m f g the_first
  first_is_lowest_by some =
      record {
        processor = first_below m _ some;
        lowest = λ j l. (not_beaten j l).0;
        then_lower = λ j l. (not_beaten j l).1;
        then_number = λ j l. first_of_equals j;
      }

  pub lowest_by_settled : (j j' : ℕ) → LowestBy m f g j → LowestBy m f g j' → j ≡ j'
  lowest_by_settled j j' w w' =
      let one : f j ≡ f j' = omega (arith, w.lowest j' w'.processor, w'.lowest j w.processor) in
      let other : g j ≡ g j' = omega (arith, w.then_lower j' w'.processor (sym one), w'.then_lower j w.processor one) in
      omega (arith, w.then_number j' w'.processor (sym one) (sym other), w'.then_number j w.processor one other)

module _ (q : Question) where
  pub best_below : (j : ℕ) → j < q.processors → best q < q.processors
  unfolding best
  best_below j l = first_below q.processors _ (omega arith)

  pub best_is_best : 1 ≤ q.processors → IsBest q (best q)
  unfolding best
  best_is_best = first_is_lowest_by q.processors q.finish q.cost

  pub cheapest_is_cheapest : 1 ≤ q.processors → IsCheapest q (Cheapest q)
  unfolding Cheapest
  cheapest_is_cheapest = first_is_lowest_by q.processors q.cost q.finish

  pub may_of_test : (j : ℕ) → j < q.processors → may_be_taken q j ≡ true → MayBeTaken q (best q) j
  unfolding may_be_taken
  may_of_test j l may =
      let (as_best, leaves) = and_both (leb (q.cost j) (q.cost (best q))) (leb (q.cost j + q.RCB) q.RB) may in
      record { processor = l; as_best = leb-true _ _ as_best; leaves_enough = leb-true _ _ leaves }

  pub test_of_may : (j : ℕ) → MayBeTaken q (best q) j → may_be_taken q j ≡ true
  unfolding may_be_taken
  test_of_may j may = ap₂ ◌&&◌ (le-leb _ _ may.as_best) (le-leb _ _ may.leaves_enough)
