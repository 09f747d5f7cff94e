-- The parts of a request that was read: each was read from where the request says that it begins.
use Rattle.std.specs.Prelude.{ℕ, ◌+◌, ◌≡◌, refl, Bool, true, false, cond, List, length, ltb}
use Rattle.std.proofs.Common.{◌∙◌, subst, zero-add}
use Rattle.rules.specs.Fields.{H, D, size, H_tasks, H_processors, H_budget}
use Rattle.rules.specs.Records.{Record, read, stopped, header_at, end_at}
use Rattle.rules.specs.Reading.{Deadline, no_deadline, by, deadline_part, share_part, prices_part, windows_part, tasks_part, edges_part}
use Rattle.rules.specs.Reading.{Request, nothing_after, read_request}
use Rattle.good.specs.Records.{stopped_not_read}
use Rattle.good.specs.Reading.{then_read}
use Rattle.good.specs.Kinds.{header_read, deadline_read}
use Rattle.good.specs.Parts.{optional_cases}

-- Where a `K` may stand: past `H` and any `D`.
abbrev pub share_place : Deadline → ℕ
share_place no_deadline = size H
share_place (by d) = size H + size D

pub record PartsRead (s : List ℕ) (r : Request) : Type 0 where
  pub tasks : r.tasks ≡ H_tasks s 0
  pub processors : r.processors ≡ H_processors s 0
  pub budget : r.budget ≡ H_budget s 0
  pub header_read : (next : ℕ) × (x : Record) × (header_at s 0 ≡ read next x)
  pub deadline_read : deadline_part s (size H) ≡ read (share_place r.deadline) r.deadline
  pub share_read : share_part s (H_budget s 0) (share_place r.deadline) ≡ read r.prices_at r.share
  pub prices_read : prices_part s r.processors r.prices_at ≡ read r.windows_at tt
  pub windows_read : windows_part s r.processors r.windows_at ≡ read r.tasks_at r.windows
  pub tasks_read : tasks_part s r.tasks r.processors r.tasks_at ≡ read r.edges_at tt
  pub ends_at : ℕ
  pub edges_read : edges_part s r.tasks r.edges_at ≡ read ends_at r.edges
  pub end_read : (next : ℕ) × (x : Record) × (end_at s ends_at ≡ read next x)

nothing_after_same : (s : List ℕ) (at : ℕ) (r : Request) {end : ℕ} {was : Request} → nothing_after s at r ≡ read end was → r ≡ was
unfolding nothing_after
nothing_after_same s at r {end} {was} e = go (ltb at (length s)) e
  where
    go : (t : Bool) → cond t (stopped 6 at) (read at r) ≡ read end was → r ≡ was
    go true p = absurd (stopped_not_read p)
    go false p = cc

deadline_ends : (s : List ℕ) {next : ℕ} {d : Deadline} → deadline_part s (size H) ≡ read next d → next ≡ share_place d
unfolding deadline_part
deadline_ends s =
    optional_cases s D _ (size H) _ _ (λ next d. next ≡ share_place d) (λ next was kind e. (deadline_read s (size H) e).0) (λ other. refl)

pub parts_were_read : (s : List ℕ) {end : ℕ} {r : Request} → read_request s ≡ read end r → PartsRead s r
unfolding read_request
parts_were_read s e =
    let (after_header, was, header, e₁) = then_read _ _ e in
    let (after_deadline, deadline, deadline_part_read, e₂) = then_read _ _ e₁ in
    let (prices_at, share, share_part_read, e₃) = then_read _ _ e₂ in
    let (windows_at, u, prices, e₄) = then_read _ _ e₃ in
    let (tasks_at, windows, windows_part_read, e₅) = then_read _ _ e₄ in
    let (edges_at, u, tasks, e₆) = then_read _ _ e₅ in
    let (after_edges, edges, edges_part_read, e₇) = then_read _ _ e₆ in
    let (after_end, last, end, e₈) = then_read _ _ e₇ in
    let after_H = (header_read s 0 header).ends ∙ zero-add (size H) in
    let deadline_there = subst (λ at. deadline_part s at ≡ read after_deadline deadline) after_H deadline_part_read in
    let after_D = deadline_ends s deadline_there in
    subst (PartsRead s) (nothing_after_same s after_end _ e₈)
    (record {
      tasks = refl;
      processors = refl;
      budget = refl;
      header_read = (after_header, was, header);
      deadline_read = subst (λ at. deadline_part s (size H) ≡ read at deadline) after_D deadline_there;
      share_read = subst (λ at. share_part s (H_budget s 0) at ≡ read prices_at share) after_D share_part_read;
      prices_read = prices;
      windows_read = windows_part_read;
      tasks_read = tasks;
      ends_at = after_edges;
      edges_read = edges_part_read;
      end_read = (after_end, last, end);
    })
