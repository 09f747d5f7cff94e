-- The arrays and numbers that the code keeps from turn to turn, at first and with one more row.
use Rattle.std.specs.Prelude.{ℕ, ◌+◌, ◌-◌, max, List, set}
use Rattle.rules.specs.Rows.{Row}
use Rattle.busy.specs.declared.Processors.{Processors}
use Rattle.hand.specs.declared.Row as code

pub record State : Type 0 where
  pub sits : List ℕ
  pub starts : List ℕ
  pub ends : List ℕ
  pub costs : List ℕ
  pub held : List ℕ
  pub processors : Processors
  pub rb : ℕ
  pub spent : ℕ
  pub rcb : ℕ
  pub length : ℕ

-- At first: four arrays that were lent, in which no task has a row, what holds each task back, and what the processors are busy with.
abbrev pub without_rows : (sits starts ends costs held : List ℕ) → Processors → (rb rcb : ℕ) → State
without_rows sits starts ends costs held processors rb rcb =
    record {
      sits = sits;
      starts = starts;
      ends = ends;
      costs = costs;
      held = held;
      processors = processors;
      rb = rb;
      spent = 0;
      rcb = rcb;
      length = 0;
    }

-- What the code's row means.
abbrev pub meant_row : code.Row → Row
meant_row r = record { processor = r.processor; start = r.start; finish = r.finish; cost = r.cost }

-- Task i has a row more, with this kept of what holds tasks back and of the processors, and `rcb` is still to come.
abbrev pub with_row : State → ℕ → Row → (rcb : ℕ) → (held : List ℕ) → Processors → State
with_row state i row rcb held processors =
    record {
      sits = set state.sits i row.processor;
      starts = set state.starts i row.start;
      ends = set state.ends i row.finish;
      costs = set state.costs i row.cost;
      held = held;
      processors = processors;
      rb = state.rb - row.cost;
      spent = state.spent + row.cost;
      rcb = rcb;
      length = max state.length row.finish;
    }
