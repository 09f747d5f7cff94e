-- The core's form of the rows: "Core fills flat number buffers". Row i stands in the numbers at i of four buffers, which may differ in length.
use Rattle.std.specs.Prelude.{ℕ, min, List, ◌++◌, length, drop, get_or}
use Rattle.rules.specs.Folds.{listing}
use Rattle.rules.specs.Rows.{Row, row_of}
use Rattle.rules.specs.Method.{Name, by_HBCS}
use Rattle.rules.specs.Answer.{Outcome, plan, refusal, outcome_asked}

pub record Buffers : Type 0 where
  pub processors : List ℕ
  pub starts : List ℕ
  pub finishes : List ℕ
  pub costs : List ℕ

-- A row needs a number of each, so as many rows are lent as the shortest buffer has numbers.
unfoldable pub rows_lent : Buffers → ℕ
rows_lent b = min (min (length b.processors) (length b.starts)) (min (length b.finishes) (length b.costs))

-- Row i of four buffers, for i below the rows lent.
unfoldable pub row_in : Buffers → ℕ → Row
row_in b i =
    record {
      processor = get_or b.processors i 0;
      start = get_or b.starts i 0;
      finish = get_or b.finishes i 0;
      cost = get_or b.costs i 0;
    }

-- One buffer after the call: a plan writes one field of rows 0 to n-1, and what stands after them stays; a refusal changes nothing.
unfoldable pub column_after : (Row → ℕ) → Outcome → List ℕ → List ℕ
column_after field (plan W rows) buffer = listing W.tasks (λ i. field (row_of rows i)) ++ drop W.tasks buffer
column_after field (refusal number place) buffer = buffer

unfoldable pub buffers_written : Outcome → Buffers → Buffers
buffers_written o b =
    record {
      processors = column_after (λ row. row.processor) o b.processors;
      starts = column_after (λ row. row.start) o b.starts;
      finishes = column_after (λ row. row.finish) o b.finishes;
      costs = column_after (λ row. row.cost) o b.costs;
    }

-- The four buffers after the call.
unfoldable pub buffers_asked : Name → List ℕ → Buffers → Buffers
buffers_asked M s lent = buffers_written (outcome_asked M s (rows_lent lent)) lent

abbrev pub buffers_after : List ℕ → Buffers → Buffers
buffers_after s lent = buffers_asked by_HBCS s lent
