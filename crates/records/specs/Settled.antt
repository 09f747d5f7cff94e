-- Two records or answers with one meaning are one: a contract that settles the meaning settles the answer.
use Rattle.std.specs.Prelude.{ℕ, ◌≡◌, refl, List, [], ◌∷◌, get_or, Result, Ok, Err}
use Rattle.std.proofs.Common.{sym, ◌∙◌, ap}
use Rattle.refusals.specs.declared.Fault.{Fault}
use Rattle.refusals.specs.declared.Fault.TheVariants.{CutShort, OtherKind, OutOfOrder, OutOfRange, BadLabel, BytesAfter, FewRows, Cycle, LowBudget, Late}
use Rattle.refusals.specs.declared.Refusal.{Refusal}
use Rattle.refusals.specs.Numbers.{number}
use Rattle.refusals.specs.Settled as refusals
use Rattle.rules.specs.Fields as fields
use Rattle.rules.specs.Records as rules
use Rattle.records.specs.declared.Cursor.{Cursor}
use Rattle.records.specs.declared.Header.{Header}
use Rattle.records.specs.declared.Processor.{Processor}
use Rattle.records.specs.declared.Processor.TheVariants.{Price, Minimum}
use Rattle.records.specs.declared.Window.{Window}
use Rattle.records.specs.declared.Task.{Task}
use Rattle.records.specs.declared.Minutes.{Minutes}
use Rattle.records.specs.declared.Edge.{Edge}
use Rattle.records.specs.Meaning.{meant_header, meant_processor, meant_window, meant_task, meant_minutes, meant_edge, meant_end, meant, Checked, Opened}

pub header_settled : (a b : Header) → meant_header a ≡ meant_header b → a ≡ b
header_settled a b same =
    let tasks : a.tasks ≡ b.tasks = cc in
    let processors : a.processors ≡ b.processors = cc in
    let budget : a.budget ≡ b.budget = cc in
    λ i. record { tasks = tasks i; processors = processors i; budget = budget i }

pub deadline_settled : (a b : ℕ) → rules.deadline a ≡ rules.deadline b → a ≡ b
deadline_settled a b same = cc

pub share_settled : (a b : ℕ) → rules.share a ≡ rules.share b → a ≡ b
share_settled a b same = cc

pub processor_settled : (a b : Processor) → meant_processor a ≡ meant_processor b → a ≡ b
processor_settled (Price j price) (Price i price') same = cc
processor_settled (Price j price) (Minimum i price' minimum) same = cc
processor_settled (Minimum j price minimum) (Price i price') same = cc
processor_settled (Minimum j price minimum) (Minimum i price' minimum') same = cc

pub window_settled : (a b : Window) → meant_window a ≡ meant_window b → a ≡ b
window_settled a b same =
    let processor : a.processor ≡ b.processor = cc in
    let begin : a.begin ≡ b.begin = cc in
    let end : a.end ≡ b.end = cc in
    λ i. record { processor = processor i; begin = begin i; end = end i }

pub task_settled : (a b : Task) → meant_task a ≡ meant_task b → a ≡ b
task_settled a b same =
    let task : a.task ≡ b.task = cc in
    let label : a.label ≡ b.label = cc in
    λ i. record { task = task i; label = label i }

pub minutes_settled : (a b : Minutes) → meant_minutes a ≡ meant_minutes b → a ≡ b
minutes_settled a b same =
    let task : a.task ≡ b.task = cc in
    let processor : a.processor ≡ b.processor = cc in
    let minutes : a.minutes ≡ b.minutes = cc in
    λ i. record { task = task i; processor = processor i; minutes = minutes i }

pub edge_settled : (a b : Edge) → meant_edge a ≡ meant_edge b → a ≡ b
edge_settled a b same =
    let from : a.from ≡ b.from = cc in
    let to : a.to ≡ b.to = cc in
    let transfer : a.transfer ≡ b.transfer = cc in
    λ i. record { from = from i; to = to i; transfer = transfer i }

pub end_settled : (a b : Unit {0}) → meant_end a ≡ meant_end b → a ≡ b
end_settled a b same = refl

-- The fault of each number.
fault_for : ℕ → Fault
fault_for n =
    get_or (Late ∷ CutShort ∷ OtherKind ∷ OutOfOrder ∷ OutOfRange ∷ BadLabel ∷ BytesAfter ∷ FewRows ∷ Cycle ∷ LowBudget ∷ []) n Late

fault_again : (f : Fault) → fault_for (number f) ≡ f
unfolding fault_for
fault_again CutShort = refl
fault_again OtherKind = refl
fault_again OutOfOrder = refl
fault_again OutOfRange = refl
fault_again BadLabel = refl
fault_again BytesAfter = refl
fault_again FewRows = refl
fault_again Cycle = refl
fault_again LowBudget = refl
fault_again Late = refl

pub fault_settled : (f g : Fault) → number f ≡ number g → f ≡ g
fault_settled f g same = sym (fault_again f) ∙ ap fault_for same ∙ fault_again g

pub refusal_settled : {A : Type 0} (a b : Refusal) →
    ◌≡◌ {A = rules.Read A} (rules.stopped (number a.fault) a.place) (rules.stopped (number b.fault) b.place) → a ≡ b
refusal_settled a b same =
    let fault : a.fault ≡ b.fault = fault_settled a.fault b.fault cc in
    let place : a.place ≡ b.place = cc in
    λ i. record { fault = fault i; place = place i }

-- Where values of one meaning are one, so are answers.
pub answer_settled : {T A : Type 0} (meaning : T → A) (settled : (x y : T) → meaning x ≡ meaning y → x ≡ y)
    (a b : Result (T × Cursor) Refusal) → meant meaning a ≡ meant meaning b → a ≡ b
answer_settled meaning settled (Ok (x, next)) (Ok (y, after)) same =
    let value : x ≡ y = settled x y cc in
    let place : next.at ≡ after.at = cc in
    λ i. Ok (value i, record { at = place i })
answer_settled meaning settled (Ok x) (Err r) same = cc
answer_settled meaning settled (Err r) (Ok x) same = cc
answer_settled meaning settled (Err r) (Err q) same = ap Err (refusal_settled r q same)

-- What a check of a record says is settled, and what its opening says.
pub checked_settled : (check at : ℕ) (a b : Result (Unit {0}) Refusal) → Checked check at a → Checked check at b → a ≡ b
checked_settled check at (Ok _) (Ok _) one other = refl
checked_settled check at (Ok _) (Err r) one other = absurd (refusals.number_not_0 r.fault (sym one ∙ other.0))
checked_settled check at (Err r) (Ok _) one other = absurd (refusals.number_not_0 r.fault (sym other ∙ one.0))
checked_settled check at (Err r) (Err q) one other =
    ap Err (refusals.refusal_settled r q (sym one.0 ∙ other.0) (sym one.1 ∙ other.1))

pub opened_settled : (s : List ℕ) (at : ℕ) (k : fields.Kind) (a b : Result Cursor Refusal) → Opened s at k a → Opened s at k b → a ≡ b
opened_settled s at k (Ok past) (Ok after) one other =
    let place : past.at ≡ after.at = one.1 ∙ sym other.1 in
    λ i. Ok (record { at = place i })
opened_settled s at k (Ok past) (Err r) one other = absurd (refusals.number_not_0 r.fault (sym one.0 ∙ other.0))
opened_settled s at k (Err r) (Ok past) one other = absurd (refusals.number_not_0 r.fault (sym other.0 ∙ one.0))
opened_settled s at k (Err r) (Err q) one other =
    ap Err (refusals.refusal_settled r q (sym one.0 ∙ other.0) (sym one.1 ∙ other.1))
