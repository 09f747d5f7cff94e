-- The request that stands in the bytes: its numbers, and where its parts begin. The bytes settle it, and it is what is read.
use Rattle.std.specs.Prelude.{ℕ, ◌+◌, ◌*◌, ◌<◌, ◌≡◌, refl, List, length}
use Rattle.std.proofs.Common.{sym, ◌∙◌, subst, arith}
use Rattle.std.proofs.Math.Decide.{dec_lt}
use Rattle.rules.specs.Fields.{Kind, H, D, K, M, T, Z, kind_byte, size, body, byte, H_tasks, H_processors, H_budget, D_deadline, K_share}
use Rattle.rules.specs.Records.{Record, Read, read}
use Rattle.rules.specs.Reading.{Deadline, no_deadline, by, Share, no_share, thousandths, optional, deadline_part, share_part, Request, read_request}
use Rattle.rules.specs.Workflow.{processor_place, window_place, task_place, edge_place}
use Rattle.good.specs.Kinds.{deadline_read, share_read}
use Rattle.good.specs.Parts.{optional_cases}
use Rattle.good.specs.ReadIsGood.{read_is_good}
use Rattle.demands.specs.Demand1.Reads.{nothing, Comes}
use Rattle.demands.specs.Demand1.PartsRead.{share_place, parts_were_read}
use Rattle.demands.specs.Demand1.RecordsPass.{read_records_pass}

-- "at most one" of a kind stands at `at`: a is what it gives, and what comes next begins past it; or none does, and a is what holds without one.
pub data AtMostOne {A : Type 0} (s : List ℕ) (kind : Kind) (at : ℕ) (given without a : A) (next : ℕ) : Type 0 where
  it_stands : byte s at ≡ kind_byte kind → a ≡ given → next ≡ at + size kind → AtMostOne s kind at given without a next
  none_stands : (byte s at ≡ kind_byte kind → ⊥) → a ≡ without → next ≡ at → AtMostOne s kind at given without a next

-- "at most one `D`", straight after `H`: "No `D` means no deadline."
abbrev pub DeadlineStands : List ℕ → Deadline → (next : ℕ) → Type 0
DeadlineStands s d next = AtMostOne s D (size H) (by (D_deadline s (size H))) no_deadline d next

-- "at most one `K`", there: "No `K` means the budget of `H`." Past it the prices begin.
abbrev pub ShareStands : List ℕ → (at : ℕ) → Share → (prices_at : ℕ) → Type 0
ShareStands s at k prices_at = AtMostOne s K at (thousandths (K_share s at)) no_share k prices_at

-- "`P` or `Q` for 0 to m-1; then any number of `M` within the limit, [..]; then for each task 0 to n-1 its `T` followed by `W` for processors 0 to m-1;
-- then any number of `E` [..]; then `Z`; then nothing"
pub record Stands (s : List ℕ) (r : Request) : Type 0 where
  pub tasks : r.tasks ≡ H_tasks s 0
  pub processors : r.processors ≡ H_processors s 0
  pub budget : r.budget ≡ H_budget s 0
  pub deadline : DeadlineStands s r.deadline (share_place r.deadline)
  pub share : ShareStands s (share_place r.deadline) r.share r.prices_at
  pub windows_begin : r.windows_at ≡ processor_place s r r.processors
  pub windows_stand : (e : ℕ) → e < r.windows → byte s (window_place r e) ≡ kind_byte M
  pub tasks_begin : r.tasks_at ≡ window_place r r.windows
  pub task_stands : byte s r.tasks_at ≡ kind_byte T
  pub edges_begin : r.edges_at ≡ task_place r r.tasks
  pub ends : length s ≡ edge_place r r.edges + size Z

-- The request passes reading: reading comes to the input's end, where nothing is due, and this is the request that stands there.
pub record PassesReading (s : List ℕ) (r : Request) : Type 0 where
  pub comes : Comes s nothing (length s)
  pub stands : Stands s r

optional_stands :
    {A : Type 0} {next : ℕ} {a : A} (s : List ℕ) (kind : Kind) (part : Read Record) (at : ℕ) (given without : A)
    → ((next : ℕ) (was : Record) → part ≡ read next was → next ≡ at + size kind) → optional s kind part at given without ≡ read next a
    → AtMostOne s kind at given without a next
optional_stands s kind part at given without ends =
    optional_cases s kind part at given without (λ next a. AtMostOne s kind at given without a next) (λ next was there e. it_stands there refl (ends next was e))
    (λ other. none_stands other refl refl)

deadline_stands : (s : List ℕ) {next : ℕ} {d : Deadline} → deadline_part s (size H) ≡ read next d → DeadlineStands s d next
unfolding deadline_part
deadline_stands s = optional_stands s D _ (size H) _ _ (λ next was e. (deadline_read s (size H) e).0)

share_stands : (s : List ℕ) (budget at : ℕ) {next : ℕ} {k : Share} → share_part s budget at ≡ read next k → ShareStands s at k next
unfolding share_part
share_stands s budget at = optional_stands s K _ at _ _ (λ next was e. (share_read s budget at e).0)

-- What is read stands there.
pub read_stands : (s : List ℕ) {end : ℕ} {r : Request} → read_request s ≡ read end r → Stands s r
unfolding task_place
read_stands s {r = r} e =
    let parts = parts_were_read s e in
    let g = read_is_good s e in
    let records = read_records_pass s e in
    let first_task : task_place r 0 ≡ r.tasks_at = omega arith in
    record {
      tasks = parts.tasks;
      processors = parts.processors;
      budget = parts.budget;
      deadline = deadline_stands s parts.deadline_read;
      share = share_stands s _ _ parts.share_read;
      windows_begin = g.windows_begin;
      windows_stand = λ e l. (records.windows e l).whole.of_kind;
      tasks_begin = g.tasks_begin;
      task_stands = subst (λ at. byte s at ≡ kind_byte T) first_task (records.tasks 0 g.tasks_in.from_low).whole.of_kind;
      edges_begin = g.edges_begin;
      ends = g.ends;
    }

at_most_one_settled :
    {A : Type 0} {s : List ℕ} {kind : Kind} {at : ℕ} {given without a a' : A} {next next' : ℕ} → AtMostOne s kind at given without a next
    → AtMostOne s kind at given without a' next' → (a ≡ a') × (next ≡ next')
at_most_one_settled (it_stands there is past) (it_stands there' is' past') = (is ∙ sym is', past ∙ sym past')
at_most_one_settled (it_stands there is past) (none_stands other is' past') = absurd (other there)
at_most_one_settled (none_stands other is past) (it_stands there is' past') = absurd (other there)
at_most_one_settled (none_stands other is past) (none_stands other' is' past') = (is ∙ sym is', past ∙ sym past')

-- Windows stand there up to the first task.
windows_settled : (s : List ℕ) (at k k' : ℕ) → ((e : ℕ) → e < k → byte s (at + e * size M) ≡ kind_byte M) → byte s (at + k * size M) ≡ kind_byte T
    → ((e : ℕ) → e < k' → byte s (at + e * size M) ≡ kind_byte M) → byte s (at + k' * size M) ≡ kind_byte T → k ≡ k'
unfolding kind_byte
windows_settled s at k k' stand task stand' task' = go (dec_lt k k') (dec_lt k' k)
  where
    go : Dec (k < k') → Dec (k' < k) → k ≡ k'
    go (yes l) other = absurd (omega (arith, stand' k l))
    go (no l) (yes m) = absurd (omega (arith, stand k' m))
    go (no l) (no m) = omega arith

-- The bytes settle it.
pub stands_settled : {s : List ℕ} {r r' : Request} → Stands s r → Stands s r' → r ≡ r'
unfolding processor_place window_place task_place edge_place size body
stands_settled {s} {r} {r'} one other =
    let tasks : r.tasks ≡ r'.tasks = one.tasks ∙ sym other.tasks in
    let processors : r.processors ≡ r'.processors = one.processors ∙ sym other.processors in
    let (deadline, share_at) = at_most_one_settled one.deadline other.deadline in
    let share_there = subst (λ at. ShareStands s at r'.share r'.prices_at) (sym share_at) other.share in
    let (share, prices_at) = at_most_one_settled one.share share_there in
    let windows_at : r.windows_at ≡ r'.windows_at = cc in
    let windows : r.windows ≡ r'.windows =
    windows_settled s r.windows_at r.windows r'.windows one.windows_stand (rw one.tasks_begin at one.task_stands) (rw (← windows_at) at other.windows_stand)
    (rw (other.tasks_begin, ← windows_at) at other.task_stands) in
    let tasks_at : r.tasks_at ≡ r'.tasks_at = cc in
    let edges_at : r.edges_at ≡ r'.edges_at = cc in
    let edges : r.edges ≡ r'.edges = omega (arith, one.ends, other.ends) in
    λ t. record {
      tasks = tasks t;
      processors = processors t;
      budget = (one.budget ∙ sym other.budget) t;
      deadline = deadline t;
      share = share t;
      prices_at = prices_at t;
      windows_at = windows_at t;
      windows = windows t;
      tasks_at = tasks_at t;
      edges_at = edges_at t;
      edges = edges t;
    }
