-- Demand 3: two requests that differ only in their units get the same machines or the same refusal. Stated of what the caller gets, in lent rows and in
-- four buffers, of each of the three methods. Below: two requests that it speaks of (`SampleMultiplied`); why a and b are at least 1 (`ByZero`), why a `K` between
-- 1 and 999 stands outside (`ShareBetween`), why the mean is not rounded (`RoundedMean`), and that the 1 for a range of 0 is no reason (`StandIns`). The other files are what it rests on.
pub mod ScoreMultiplied
pub mod ZeroRanges
pub mod HBCSMultiplied
pub mod CostsMultiplied
pub mod RowsMultiplied
pub mod PlacingMultiplied
pub mod BudgetMultiplied
pub mod AnswerMultiplied
pub mod SampleMultiplied
pub mod StandIns
pub mod RoundedMean
pub mod ByZero
pub mod ShareBetween
use Rattle.std.specs.Prelude.{◌≡◌, ℕ, ◌*◌, ◌<◌, ◌≤◌, List, map, length, ◌≢◌}
use Rattle.std.proofs.Common.{sym, ap₂, ◌∙◌, mul-zero, arith, ne_eqb}
use Rattle.std.proofs.Math.Path.{ap}
use Rattle.std.proofs.Math.ListN.{take}
use Rattle.rules.specs.Records.{read}
use Rattle.rules.specs.Reading.{Request, read_request}
use Rattle.rules.specs.Workflow.{Workflow, workflow}
use Rattle.rules.specs.Rows.{Row}
use Rattle.rules.specs.Method.{Name, by_HBCS, by_cheapest, by_HEFT}
use Rattle.rules.specs.Budget.{unbound, held_to, workflow_for}
use Rattle.rules.specs.Answer.{outcome_by, outcome_asked, planned, refused, answer_of, answer_asked, answer, written, rows_asked}
use Rattle.rules.specs.Buffers.{Buffers, rows_lent, row_in, buffers_written, buffers_asked}
use Rattle.rules.specs.Multiplied.{multiplied_deadline, multiplied_interval, multiplied, multiplied_row, multiplied_place, multiplied_answer}
use Rattle.demands.specs.Demand3.BudgetMultiplied.{ExactShare, held_to_multiplied}
use Rattle.demands.specs.Demand3.AnswerMultiplied.{multiplied_outcome, outcome_by_multiplied, answer_of_multiplied, written_multiplied, row_in_multiplied}
use Rattle.good.specs.ReadIsGood.{read_is_good}
use Rattle.good.specs.RangeLaws.{no_windows_beyond}
use Rattle.demands.specs.Ground.GoodRequest.{outcome_of_good, ZeroBeyond, workflow_zero_beyond, ends_multiplied, same_everywhere}

-- "all times, transfers, windows and any deadline multiplied by a whole a, prices by a whole b, minimums and the budget by a times b": W' is W so multiplied.
-- "A request without `D` stays without one. [..] edges' ends, n and m are equal; a `P` may stand beside a `Q` with minimum 0": what is said is said of
-- workflows, which do not tell these two apart.
pub record MultipliedBy (a b : ℕ) (W W' : Workflow) : Type 0 where
  pub tasks : W'.tasks ≡ W.tasks
  pub processors : W'.processors ≡ W.processors
  pub budget : W'.budget ≡ a * b * W.budget
  pub deadline : W'.deadline ≡ multiplied_deadline a W.deadline
  pub price : (j : ℕ) → j < W.processors → W'.price j ≡ b * W.price j
  pub minimum : (j : ℕ) → j < W.processors → W'.minimum j ≡ a * b * W.minimum j
  pub windows : (j : ℕ) → j < W.processors → W'.busy_at_first j ≡ map (multiplied_interval a) (W.busy_at_first j)
  pub minutes : (i j : ℕ) → i < W.tasks → j < W.processors → W'.minutes i j ≡ a * W.minutes i j
  pub edges : W'.edges ≡ W.edges
  pub from : (e : ℕ) → e < W.edges → W'.from e ≡ W.from e
  pub to : (e : ℕ) → e < W.edges → W'.to e ≡ W.to e
  pub transfer : (e : ℕ) → e < W.edges → W'.transfer e ≡ a * W.transfer e

-- The shares of two requests: the same, and one at which nothing is rounded. They count for HBCS alone: "asked for alone, [..] a `K` is read but sets nothing".
abbrev pub SharesBy : Name → Request → Request → Type 0
SharesBy by_HBCS r r' = (r'.share ≡ r.share) × ExactShare r.share
SharesBy by_cheapest r r' = Unit {0}
SharesBy by_HEFT r r' = Unit {0}

-- What the second request gets, where the first has these rows lent and the second those: the answer is the first's with the length a times, cost and
-- remainder a times b times, or the same refusal; and in a plan the rows have the same machines, starts and finishes a times, costs a times b times.
pub record SamePlan (M : Name) (a b : ℕ) (s t : List ℕ) (lent lent' : List Row) : Type 0 where
  pub answers : answer_asked M t (length lent') ≡ multiplied_answer a b (answer_asked M s (length lent))
  pub rows : (n l c left : ℕ) → answer_asked M s (length lent) ≡ planned n l c left →
      take n (rows_asked M t lent') ≡ map (multiplied_row a b) (take n (rows_asked M s lent))

-- The same of four buffers and four others: row i stands in the numbers at i.
pub record SamePlanInBuffers (M : Name) (a b : ℕ) (s t : List ℕ) (lent lent' : Buffers) : Type 0 where
  pub answers : answer_asked M t (rows_lent lent') ≡ multiplied_answer a b (answer_asked M s (rows_lent lent))
  pub rows : (n l c left : ℕ) → answer_asked M s (rows_lent lent) ≡ planned n l c left → (i : ℕ) → i < n →
      row_in (buffers_asked M t lent') i ≡ multiplied_row a b (row_in (buffers_asked M s lent) i)

-- The workflow of the second is the first's, multiplied.
workflows_multiplied :
    (a b : ℕ) (s t : List ℕ) {end end' : ℕ} {r r' : Request} → read_request s ≡ read end r → read_request t ≡ read end' r'
    → MultipliedBy a b (workflow s r) (workflow t r') → workflow t r' ≡ multiplied a b (workflow s r)
unfolding multiplied workflow
workflows_multiplied a b s t {r = r} {r' = r'} good good' by = workflows
  where
    W_ends : ZeroBeyond (workflow s r)
    W_ends = workflow_zero_beyond s r

    W'-ends : ZeroBeyond (workflow t r')
    W'-ends = workflow_zero_beyond t r'

    windows_multiplied : (j : ℕ) → (workflow t r').busy_at_first j ≡ map (multiplied_interval a) ((workflow s r).busy_at_first j)
    windows_multiplied j =
        same_everywhere by.processors (no_windows_beyond t r' (read_is_good t good'))
        (λ k past. ap (map (multiplied_interval a)) (no_windows_beyond s r (read_is_good s good) k past)) by.windows j

    workflows : workflow t r' ≡ multiplied a b (workflow s r)
    workflows =
        λ z. record {
          tasks = by.tasks z;
          processors = by.processors z;
          budget = by.budget z;
          deadline = by.deadline z;
          price = λ j. same_everywhere by.processors W'-ends.price (ends_multiplied b W_ends.price) by.price j z;
          minimum = λ j. same_everywhere by.processors W'-ends.minimum (ends_multiplied (a * b) W_ends.minimum) by.minimum j z;
          busy_at_first = λ j. windows_multiplied j z;
          clock = sym (mul-zero a) z;
          minutes = λ i j.
              same_everywhere by.tasks (W'-ends.task j) (ends_multiplied a (W_ends.task j)) (λ k l.
              same_everywhere by.processors (W'-ends.processor k) (ends_multiplied a (W_ends.processor k)) (λ p m. by.minutes k p l m) j) i z;
          edges = by.edges z;
          from = λ e. same_everywhere by.edges W'-ends.from W_ends.from by.from e z;
          to = λ e. same_everywhere by.edges W'-ends.to W_ends.to by.to e z;
          transfer = λ e. same_everywhere by.edges W'-ends.transfer (ends_multiplied a W_ends.transfer) by.transfer e z;
        }

-- And so is what is in force.
in_force_multiplied :
    (M : Name) (a b : ℕ) → 1 ≤ a → 1 ≤ b → (s t : List ℕ) (r r' : Request) → workflow t r' ≡ multiplied a b (workflow s r) → SharesBy M r r'
    → workflow_for M t r' ≡ multiplied a b (workflow_for M s r)
in_force_multiplied by_HBCS a b pa pb s t r r' workflows (same, exact) =
    ap₂ (held_to by_HBCS) same workflows ∙ held_to_multiplied a b pa pb (workflow s r) by_HBCS r.share exact
in_force_multiplied by_cheapest a b pa pb s t r r' workflows shares =
    unfold held_to in ap unbound workflows ∙ held_to_multiplied a b pa pb (workflow s r) by_cheapest r.share tt
in_force_multiplied by_HEFT a b pa pb s t r r' workflows shares =
    unfold held_to in ap unbound workflows ∙ held_to_multiplied a b pa pb (workflow s r) by_HEFT r.share tt

-- The outcome of the second is the first's, multiplied.
outcome_multiplied :
    (M : Name) (a b : ℕ) → 1 ≤ a → 1 ≤ b → (s t : List ℕ) {end end' : ℕ} {r r' : Request} → read_request s ≡ read end r → read_request t ≡ read end' r'
    → MultipliedBy a b (workflow s r) (workflow t r') → SharesBy M r r' → {lent lent' : ℕ} → lent' ≡ lent
    → outcome_asked M t lent' ≡ multiplied_outcome a b (outcome_asked M s lent)
outcome_multiplied M a b pa pb s t {r = r} {r' = r'} good good' by shares {lent} {lent'} lengths =
    outcome_of_good M t good' lent'
    ∙ ap₂ (outcome_by M) (in_force_multiplied M a b pa pb s t r r' (workflows_multiplied a b s t good good' by) shares) lengths
    ∙ outcome_by_multiplied a b pa (workflow_for M s r) pb M lent
    ∙ ap (multiplied_outcome a b) (sym (outcome_of_good M s good lent))

module _ (M : Name) (a b : ℕ) (pa : 1 ≤ a) (pb : 1 ≤ b) (s t : List ℕ) {end end' : ℕ} {r r' : Request}
    (good : read_request s ≡ read end r) (good' : read_request t ≡ read end' r')
    (by : MultipliedBy a b (workflow s r) (workflow t r')) (shares : SharesBy M r r') where
  -- "If both pass reading and are lent the same number of rows, they get the same machines or the same refusal number".
  pub multiplied_requests : (lent lent' : List Row) → length lent' ≡ length lent → SamePlan M a b s t lent lent'
  unfolding answer_asked rows_asked
  multiplied_requests lent lent' lengths =
      let outcomes = outcome_multiplied M a b pa pb s t good good' by shares lengths in
      record {
        answers = ap answer_of outcomes ∙ answer_of_multiplied a b pa (outcome_asked M s (length lent));
        rows = λ n l c left e.
            ap (λ o. take n (written o lent')) outcomes ∙ written_multiplied a b (outcome_asked M s (length lent)) lent lent' n l c left e;
      }

  pub multiplied_requests_in_buffers : (lent lent' : Buffers) → rows_lent lent' ≡ rows_lent lent → SamePlanInBuffers M a b s t lent lent'
  unfolding answer_asked buffers_asked
  multiplied_requests_in_buffers lent lent' lengths =
      let outcomes = outcome_multiplied M a b pa pb s t good good' by shares lengths in
      record {
        answers = ap answer_of outcomes ∙ answer_of_multiplied a b pa (outcome_asked M s (rows_lent lent));
        rows = λ n l c left e i h.
            ap (λ o. row_in (buffers_written o lent') i) outcomes
            ∙ row_in_multiplied a b (outcome_asked M s (rows_lent lent)) lent lent' n l c left e i h;
      }

-- Times that were counted in fives of minutes become minutes, and prices 20 times what they were: then the budget is 100 times what it was.
pub budget_a_hundred_times : {W W' : Workflow} → MultipliedBy 5 20 W W' → W'.budget ≡ 100 * W.budget
budget_a_hundred_times by = by.budget

-- The same plan, with the numbers spelt out.
pub record InMinutes (s t : List ℕ) (lent lent' : List Row) : Type 0 where
  pub same_plan : SamePlan by_HBCS 5 20 s t lent lent'
  pub plan : (n l c left : ℕ) → answer s (length lent) ≡ planned n l c left → answer t (length lent') ≡ planned n (5 * l) (100 * c) (100 * left)
  pub too_dear : (place : ℕ) → answer s (length lent) ≡ refused 9 place → answer t (length lent') ≡ refused 9 (100 * place)
  pub too_long : (place : ℕ) → answer s (length lent) ≡ refused 11 place → answer t (length lent') ≡ refused 11 (5 * place)
  pub otherwise :
      (number place : ℕ) → number ≢ 9 → number ≢ 11 → answer s (length lent) ≡ refused number place
      → answer t (length lent') ≡ refused number place

pub from_five_minutes_to_minutes :
    (s t : List ℕ) {end end' : ℕ} {r r' : Request} → read_request s ≡ read end r → read_request t ≡ read end' r'
    → MultipliedBy 5 20 (workflow s r) (workflow t r') → SharesBy by_HBCS r r' → (lent lent' : List Row) → length lent' ≡ length lent
    → InMinutes s t lent lent'
unfolding multiplied_answer multiplied_place
from_five_minutes_to_minutes s t good good' by shares lent lent' lengths =
    let same = multiplied_requests by_HBCS 5 20 (omega arith) (omega arith) s t good good' by shares lent lent' lengths in
    record {
      same_plan = same;
      plan = λ n l c left e. same.answers ∙ ap (multiplied_answer 5 20) e;
      too_dear = λ place e. same.answers ∙ ap (multiplied_answer 5 20) e;
      too_long = λ place e. same.answers ∙ ap (multiplied_answer 5 20) e;
      otherwise = λ number place not_9 not_11 e. same.answers ∙ ap (multiplied_answer 5 20) e ∙ rw (ne_eqb number 9 not_9, ne_eqb number 11 not_11);
    }
