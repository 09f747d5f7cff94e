-- Two answers of reading with one meaning are one answer: the contract settles the view, or the refusal's number and place.
use Rattle.std.specs.Prelude.{ℕ, ◌≡◌, refl, List, Option, None, Some, Result, Ok, Err}
use Rattle.std.proofs.Common.{ap}
use Rattle.refusals.specs.declared.Refusal.{Refusal}
use Rattle.records.specs.Settled.{refusal_settled}
use Rattle.rules.specs.Reading.{Request}
use Rattle.reader.specs.declared.View.{View}
use Rattle.reader.specs.Meaning.{meant_deadline, meant_share, meant_view, meant_reading}

pub deadline_settled : (a b : Option ℕ) → meant_deadline a ≡ meant_deadline b → a ≡ b
deadline_settled None None same = refl
deadline_settled None (Some minutes) same = cc
deadline_settled (Some minutes) None same = cc
deadline_settled (Some minutes) (Some others) same = cc

pub share_settled : (a b : Option ℕ) → meant_share a ≡ meant_share b → a ≡ b
share_settled None None same = refl
share_settled None (Some k) same = cc
share_settled (Some k) None same = cc
share_settled (Some k) (Some j) same = cc

pub view_settled : (v w : View) → meant_view v ≡ meant_view w → v ≡ w
view_settled v w same =
    let deadline = deadline_settled v.deadline w.deadline (ap (λ (r : Request). r.deadline) same) in
    let share = share_settled v.share w.share (ap (λ (r : Request). r.share) same) in
    λ i. record {
      tasks = (same i).tasks;
      processors = (same i).processors;
      budget = (same i).budget;
      deadline = deadline i;
      share = share i;
      prices_at = (same i).prices_at;
      windows_at = (same i).windows_at;
      windows = (same i).windows;
      tasks_at = (same i).tasks_at;
      edges_at = (same i).edges_at;
      edges = (same i).edges;
    }

pub reading_settled : (s : List ℕ) (a b : Result View Refusal) → meant_reading s a ≡ meant_reading s b → a ≡ b
reading_settled s (Ok v) (Ok w) same = ap Ok (view_settled v w cc)
reading_settled s (Ok v) (Err r) same = cc
reading_settled s (Err r) (Ok w) same = cc
reading_settled s (Err r) (Err q) same = ap Err (refusal_settled r q same)
