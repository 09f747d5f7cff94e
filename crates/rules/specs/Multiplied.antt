-- Prices and minutes multiplied: what a request with times a and prices b times another's says, and what is due to it.
use Rattle.std.specs.Prelude.{ℕ, ◌*◌, map, cond, eqb}
use Rattle.rules.specs.Reading.{Deadline, no_deadline, by}
use Rattle.rules.specs.Workflow.{Interval, Workflow}
use Rattle.rules.specs.Rows.{Row}
use Rattle.rules.specs.Answer.{Answer, planned, refused}

-- "A request without `D` stays without one."
unfoldable pub multiplied_deadline : ℕ → Deadline → Deadline
multiplied_deadline a no_deadline = no_deadline
multiplied_deadline a (by d) = by (a * d)

-- "windows by a"
unfoldable pub multiplied_interval : ℕ → Interval → Interval
multiplied_interval a v = record { begin = a * v.begin; end = a * v.end }

-- Times, transfers, windows and any deadline by a, prices by b, minimums and the budget by a times b. "Labels, edges' ends, n and m are equal."
unfoldable pub multiplied : ℕ → ℕ → Workflow → Workflow
multiplied a b W =
    record {
      tasks = W.tasks;
      processors = W.processors;
      budget = a * b * W.budget;
      deadline = multiplied_deadline a W.deadline;
      price = λ j. b * W.price j;
      minimum = λ j. a * b * W.minimum j;
      busy_at_first = λ j. map (multiplied_interval a) (W.busy_at_first j);
      clock = a * W.clock;
      minutes = λ i j. a * W.minutes i j;
      edges = W.edges;
      from = W.from;
      to = W.to;
      transfer = λ e. a * W.transfer e;
    }

-- The same machine; starts and finishes are a times, costs a times b times.
unfoldable pub multiplied_row : ℕ → ℕ → Row → Row
multiplied_row a b r =
    record {
      processor = r.processor;
      start = a * r.start;
      finish = a * r.finish;
      cost = a * b * r.cost;
    }

-- "The places of refusals 7 and 8 are the same, that of 9 is multiplied by a x b, that of 11 by a."
unfoldable pub multiplied_place : ℕ → ℕ → ℕ → ℕ → ℕ
multiplied_place a b number place = cond (eqb number 9) (a * b * place) (cond (eqb number 11) (a * place) place)

-- The length is a times, the cost and the remainder a times b times.
unfoldable pub multiplied_answer : ℕ → ℕ → Answer → Answer
multiplied_answer a b (planned n length cost left) = planned n (a * length) (a * b * cost) (a * b * left)
multiplied_answer a b (refused number place) = refused number (multiplied_place a b number place)
