-- What is asked of a method, so that what is shown of placing holds by each method that has it.
use Rattle.std.specs.Prelude.{ℕ, ◌+◌, ◌*◌, ◌≤◌, ◌<◌, ◌≡◌}
use Rattle.rules.specs.Folds.{lowest}
use Rattle.rules.specs.Method.{Question, Method}

-- A choice is one of the processors there are.
abbrev pub ChoosesProcessors : Method → Type 0
ChoosesProcessors M = (q : Question) → 1 ≤ q.processors → M q < q.processors

-- A question with finishes a times and money c times another's.
unfoldable pub multiplied_question : ℕ → ℕ → Question → Question
multiplied_question a c q =
    record {
      processors = q.processors;
      cost = λ j. c * q.cost j;
      finish = λ j. a * q.finish j;
      RB = c * q.RB;
      RCB = c * q.RCB;
    }

-- A multiplied question has the same choice.
abbrev pub KeepsChoices : Method → Type 0
KeepsChoices M = (a c : ℕ) → 1 ≤ a → 1 ≤ c → (q : Question) → M (multiplied_question a c q) ≡ M q

-- What processor j costs leaves enough for the tasks still to come.
abbrev pub LeavesEnough : Question → ℕ → Type 0
LeavesEnough q j = q.cost j + q.RCB ≤ q.RB

-- The lowest cost does.
abbrev pub CheapestLeavesEnough : Question → Type 0
CheapestLeavesEnough q = lowest q.processors q.cost + q.RCB ≤ q.RB

-- Where the cheapest processor leaves enough, the choice does.
abbrev pub KeepsWithin : Method → Type 0
KeepsWithin M = (q : Question) → 1 ≤ q.processors → CheapestLeavesEnough q → LeavesEnough q (M q)
