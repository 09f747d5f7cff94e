-- The task in hand, over what arrays hold: when its data is ready on each processor, and what the processors are busy with.
use Rattle.std.specs.Prelude.{ℕ, ◌+◌, List}
use Rattle.rules.specs.Workflow.{Workflow}
use Rattle.rules.specs.Ranks.{cost}
use Rattle.rules.specs.Workflow.{Interval}
use Rattle.rules.specs.Start.{start_on}
use Rattle.rules.specs.Method.{Question, Method}
use Rattle.hand.specs.declared.Row.{Row}

module _ (W : Workflow) (ready : ℕ → ℕ) (busy : ℕ → List Interval) (i : ℕ) where
  -- Start and finish of task i on processor j: document 01's, as in `start_of` and `finish_of` of the rules.
  unfoldable pub start_by : ℕ → ℕ
  start_by j = start_on (busy j) (ready j) (W.minutes i j)

  unfoldable pub finish_by : ℕ → ℕ
  finish_by j = start_by j + W.minutes i j

  -- What the method is asked for task i.
  unfoldable pub question_by : (RB RCB : ℕ) → Question
  question_by RB RCB = record { processors = W.processors; cost = cost W i; finish = finish_by; RB = RB; RCB = RCB }

  -- The row that task i gets by a method, on the processor that it takes.
  abbrev pub row_by : Method → (RB RCB : ℕ) → Row
  row_by M RB RCB = let j = M (question_by RB RCB) in record { processor = j; start = start_by j; finish = finish_by j; cost = cost W i j }
