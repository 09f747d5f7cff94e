-- What the four lent buffers hold after the call.
use Rattle.std.specs.Prelude.{ℕ, ◌≡◌, List}
use Rattle.rules.specs.Method.{Name}
use Rattle.rules.specs.Answer.{answer_asked}
use Rattle.rules.specs.Buffers.{Buffers, rows_lent, buffers_asked}
use Rattle.planner.specs.Planned.{Answer, meant_answer}

-- The four slices that a caller lends, as the rules' buffers.
abbrev pub four : (processors starts finishes costs : List ℕ) → Buffers
four processors starts finishes costs = record { processors = processors; starts = starts; finishes = finishes; costs = costs }

-- The answer and the four buffers after the call are the rules', by the method that is asked for.
pub record PlannedInto (M : Name) (s : List ℕ) (lent after : Buffers) (r : Answer) : Type 0 where
  pub answer_is : meant_answer r ≡ answer_asked M s (rows_lent lent)
  pub after_is : after ≡ buffers_asked M s lent
