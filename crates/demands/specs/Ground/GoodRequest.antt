-- The outcome of a request that passes reading is its workflow's, and of another the refusal; each function of the workflow is 0 past its range.
use Rattle.std.specs.Prelude.{ℕ, ◌*◌, ◌≤◌, ◌<◌, ◌≡◌, cond, List, ltb}
use Rattle.std.proofs.Common.{sym, ◌∙◌, mul-zero, arith, le-ltb}
use Rattle.std.proofs.Math.Bool.{and-false}
use Rattle.std.proofs.Math.Decide.{dec_lt}
use Rattle.rules.specs.Records.{read, stopped}
use Rattle.rules.specs.Reading.{Request, read_request}
use Rattle.rules.specs.Workflow.{Workflow, workflow}
use Rattle.rules.specs.Method.{Name}
use Rattle.rules.specs.Budget.{workflow_for}
use Rattle.rules.specs.Answer.{refusal, outcome_by, outcome_read, outcome_asked}

pub outcome_of_good :
    (M : Name) (s : List ℕ) {end : ℕ} {r : Request} → read_request s ≡ read end r → (lent : ℕ)
    → outcome_asked M s lent ≡ outcome_by M (workflow_for M s r) lent
unfolding outcome_asked outcome_read
outcome_of_good M s good lent = rw good

pub outcome_of_stopped :
    (M : Name) (s : List ℕ) {number place : ℕ} → read_request s ≡ stopped number place → (lent : ℕ) → outcome_asked M s lent ≡ refusal number place
unfolding outcome_asked outcome_read
outcome_of_stopped M s e lent = rw e

-- Always x from k on; and 0.
abbrev pub EndsIn : {A : Type 0} → A → ℕ → (ℕ → A) → Type 0
EndsIn x k f = (i : ℕ) → k ≤ i → f i ≡ x

abbrev pub Ends : ℕ → (ℕ → ℕ) → Type 0
Ends k f = EndsIn 0 k f

pub ends_multiplied : (c : ℕ) {k : ℕ} {f : ℕ → ℕ} → Ends k f → Ends k (λ i. c * f i)
ends_multiplied c ends i l = rw (ends i l) (mul-zero c)

-- Two functions that end at the same number and are the same below it are the same.
pub same_everywhere :
    {A : Type 0} {x : A} {k l : ℕ} {f g : ℕ → A} → k ≡ l → EndsIn x k f → EndsIn x l g → ((i : ℕ) → i < l → f i ≡ g i) → (i : ℕ) → f i ≡ g i
same_everywhere {l = l} {f = f} {g = g} e f_ends g_ends same i = go (dec_lt i l)
  where
    go : Dec (i < l) → f i ≡ g i
    go (yes below) = same i below
    go (no past) = f_ends i (omega arith) ∙ sym (g_ends i (omega arith))

pub record ZeroBeyond (W : Workflow) : Type 0 where
  pub price : Ends W.processors W.price
  pub minimum : Ends W.processors W.minimum
  pub task : (j : ℕ) → Ends W.tasks (λ i. W.minutes i j)
  pub processor : (i : ℕ) → Ends W.processors (W.minutes i)
  pub from : Ends W.edges W.from
  pub to : Ends W.edges W.to
  pub transfer : Ends W.edges W.transfer

cond_past : (i k x : ℕ) → k ≤ i → cond (ltb i k) x 0 ≡ 0
cond_past i k x l = rw (le-ltb i k l)

pub workflow_zero_beyond : (s : List ℕ) (r : Request) → ZeroBeyond (workflow s r)
unfolding workflow
workflow_zero_beyond s r =
    record {
      price = λ j. cond_past j r.processors _;
      minimum = λ j. cond_past j r.processors _;
      task = λ j i l. rw (le-ltb i r.tasks l);
      processor = λ i j l. rw (le-ltb j r.processors l, and-false (ltb i r.tasks));
      from = λ e. cond_past e r.edges _;
      to = λ e. cond_past e r.edges _;
      transfer = λ e. cond_past e r.edges _;
    }
