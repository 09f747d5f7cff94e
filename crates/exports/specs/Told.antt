-- What the exported structs tell: the rules' reading and parts in numbers; a plan and its buffers, a text and its buffer.
use Rattle.std.specs.Prelude.{ℕ, ◌≡◌, List, length}
use Rattle.rules.specs.Records.{Read, read, stopped}
use Rattle.rules.specs.Reading.{Request}
use Rattle.rules.specs.Labels as rules
use Rattle.rules.specs.Method.{Name}
use Rattle.rules.specs.Answer.{answer_asked}
use Rattle.rules.specs.Buffers.{Buffers, rows_lent, buffers_asked}
use Rattle.text.specs.Printed.{after}
use Rattle.told.specs.Told.{told_deadline, told_given, told_share, told_answer}
use Rattle.told.specs.declared.ZabgurinAnswer.{ZabgurinAnswer}
use Rattle.exports.specs.declared.ZabgurinReading.{ZabgurinReading}
use Rattle.exports.specs.declared.ZabgurinPart.{ZabgurinPart}

-- A good request is told with number 0, which no refusal has; of a refused one all but number and place is 0.
abbrev pub told : Read Request → ZabgurinReading
told (read end r) =
    record {
      number = 0;
      place = 0;
      tasks = r.tasks;
      processors = r.processors;
      budget = r.budget;
      deadline = told_deadline r.deadline;
      share_given = told_given r.share;
      share = told_share r.share;
      prices_at = r.prices_at;
      windows_at = r.windows_at;
      windows = r.windows;
      tasks_at = r.tasks_at;
      edges_at = r.edges_at;
      edges = r.edges;
    }
told (stopped number place) =
    record {
      number = number;
      place = place;
      tasks = 0;
      processors = 0;
      budget = 0;
      deadline = 0;
      share_given = 0;
      share = 0;
      prices_at = 0;
      windows_at = 0;
      windows = 0;
      tasks_at = 0;
      edges_at = 0;
      edges = 0;
    }

abbrev pub told_part : rules.Part → ZabgurinPart
told_part p = record { begin = p.begin; length = p.length }

-- The answer and the four buffers after the call are the rules', by the method that is asked for.
pub record PlanTold (M : Name) (s : List ℕ) (lent after : Buffers) (r : ZabgurinAnswer) : Type 0 where
  pub answer_is : r ≡ told_answer (answer_asked M s (rows_lent lent))
  pub after_is : after ≡ buffers_asked M s lent

-- The length of a text is told, and the buffer after the call has it where there is room.
pub record TextTold (t out out' : List ℕ) (r : ℕ) : Type 0 where
  pub length_is : r ≡ length t
  pub after_is : out' ≡ after t out
