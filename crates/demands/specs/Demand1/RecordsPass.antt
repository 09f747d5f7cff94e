-- Every record of a request that passes reading stands at its place and passes there: so the numbers of its workflow are those of its records.
use Prim.Native.Nat.{ℕ, ◌+◌, ◌*◌, ◌<◌}
use Rattle.std.proofs.Math.Path.{◌≡◌, subst}
use Rattle.std.specs.Prelude.{List}
use Rattle.std.proofs.Common.{arith}
use Rattle.rules.specs.Fields.{H, D, K, M, T, W, E, size}
use Rattle.rules.specs.Records.{read, window_at, edge_at}
use Rattle.rules.specs.Reading.{by, thousandths, deadline_part, share_part, prices_part, windows_part, task_part, tasks_part, edges_part}
use Rattle.rules.specs.Reading.{Request, read_request}
use Rattle.rules.specs.Workflow.{processor_place, window_place, task_place, minutes_place, edge_place, read_in}
use Rattle.good.specs.Reading.{then_read, by_stride, each_part}
use Rattle.good.specs.Kinds.{task_read}
use Rattle.good.specs.Processors.{processors_walk}
use Rattle.good.specs.Parts.{minutes_steps, task_steps, optional_cases}
use Rattle.good.specs.Runs.{run_each, window_steps, edge_steps, edges_read}
use Rattle.demands.specs.Demand1.Wanted.{deadline, share, ProcessorKind, header, single, processor, window, task, minutes, edge, end, kind_of, Passes}
use Rattle.demands.specs.Demand1.PartsRead.{share_place, PartsRead, parts_were_read}
use Rattle.demands.specs.Demand1.ReadPasses.{header_passes, deadline_passes, share_passes, processor_passes, window_passes, task_passes}
use Rattle.demands.specs.Demand1.ReadPasses.{minutes_passes, edge_passes, end_passes}

-- The record of processor j, in the kind that it was read in.
abbrev pub ProcessorPasses : List ℕ → Request → ℕ → Type 0
ProcessorPasses s r j = (k : ProcessorKind) × (read_in s r j ≡ kind_of (processor k j)) × Passes s (processor_place s r j) (processor k j)

pub record RecordsPass (s : List ℕ) (r : Request) : Type 0 where
  pub header : Passes s 0 header
  pub deadline : (d : ℕ) → r.deadline ≡ by d → Passes s (size H) (single deadline)
  pub share : (k : ℕ) → r.share ≡ thousandths k → Passes s (share_place r.deadline) (single share)
  pub processors : (j : ℕ) → j < r.processors → ProcessorPasses s r j
  pub windows : (e : ℕ) → e < r.windows → Passes s (window_place r e) (window e)
  pub tasks : (i : ℕ) → i < r.tasks → Passes s (task_place r i) (task i)
  pub minutes : (i j : ℕ) → i < r.tasks → j < r.processors → Passes s (minutes_place r i j) (minutes i j)
  pub edges : (e : ℕ) → e < r.edges → Passes s (edge_place r e) (edge e)
  pub end : Passes s (edge_place r r.edges) end

module _ (s : List ℕ) (r : Request) (parts : PartsRead s r) where
  processor_stands : (j : ℕ) → j < r.processors → ProcessorPasses s r j
  unfolding prices_part processor_place read_in
  processor_stands j l =
      let (after, was, here) = each_part (processors_walk s r.prices_at) r.processors parts.prices_read j l in
      processor_passes s _ j here

  task_part_stands : (i : ℕ) → i < r.tasks → (after : ℕ) × (task_part s r.processors (task_place r i) i ≡ read after tt)
  unfolding tasks_part task_place
  task_part_stands i l =
      let walk = by_stride (size T + r.processors * size W) (task_steps s r.processors) r.tasks_at in
      let (after, was, here) = each_part walk r.tasks parts.tasks_read i l in
      (after, here)

  task_stands : (i : ℕ) → i < r.tasks → Passes s (task_place r i) (task i)
  unfolding task_part
  task_stands i l =
      let (after, part) = task_part_stands i l in
      let (place, was, here, rest) = then_read _ _ part in
      task_passes s _ i here

  minutes_stand : (i j : ℕ) → i < r.tasks → j < r.processors → Passes s (minutes_place r i j) (minutes i j)
  unfolding task_part minutes_place
  minutes_stand i j l m =
      let (after, part) = task_part_stands i l in
      let (place, was, here, rest) = then_read _ _ part in
      let begins = (task_read s (task_place r i) i here).0 in
      let (after', was', there) = each_part (by_stride (size W) (minutes_steps s i) place) r.processors rest j m in
      subst (λ at. Passes s at (minutes i j)) (omega arith) (minutes_passes s _ i j there)

  deadline_stands_there : (d : ℕ) → r.deadline ≡ by d → Passes s (size H) (single deadline)
  unfolding deadline_part
  deadline_stands_there =
      optional_cases s D _ (size H) _ _ (λ next d. (x : ℕ) → d ≡ by x → Passes s (size H) (single deadline))
      (λ next was kind e x is. deadline_passes s (size H) e)
      (λ other x is. let z : ◌≡◌ {A = ℕ} 0 1 = cc in absurd (omega arith)) parts.deadline_read

  share_stands_there : (k : ℕ) → r.share ≡ thousandths k → Passes s (share_place r.deadline) (single share)
  unfolding share_part
  share_stands_there =
      let at : ℕ = share_place r.deadline in
      optional_cases s K _ at _ _ (λ next k. (x : ℕ) → k ≡ thousandths x → Passes s at (single share))
      (λ next was kind e x is. share_passes s at e)
      (λ other x is. let z : ◌≡◌ {A = ℕ} 0 1 = cc in absurd (omega arith)) parts.share_read

  window_stands : (e : ℕ) → e < r.windows → Passes s (window_place r e) (window e)
  unfolding windows_part window_place
  window_stands e l =
      let walk = by_stride (size M) (window_steps s r.processors) r.windows_at in
      let (after, was, here) = each_part walk r.windows (run_each s M (window_at s r.processors) r.windows_at 65 parts.windows_read) e l in
      window_passes s _ e (subst (λ m. window_at s m (r.windows_at + e * size M) e ≡ read after was) parts.processors here)

  edge_stands : (e : ℕ) → e < r.edges → Passes s (edge_place r e) (edge e)
  unfolding edges_part edge_place
  edge_stands e l =
      let walk = by_stride (size E) (edge_steps s r.tasks) r.edges_at in
      let (after, was, here) = each_part walk r.edges (run_each s E (edge_at s r.tasks) r.edges_at 513 parts.edges_read) e l in
      edge_passes s _ e (subst (λ n. edge_at s n (r.edges_at + e * size E) e ≡ read after was) parts.tasks here)

  end_stands : Passes s (edge_place r r.edges) end
  unfolding edge_place
  end_stands =
      let (next, was, here) = parts.end_read in
      subst (λ at. Passes s at end) (edges_read s r.tasks r.edges_at parts.edges_read).ends (end_passes s parts.ends_at here)

-- What is read passes, record by record.
pub read_records_pass : (s : List ℕ) {end : ℕ} {r : Request} → read_request s ≡ read end r → RecordsPass s r
read_records_pass s {r = r} e =
    let parts = parts_were_read s e in
    let (next, was, header_there) = parts.header_read in
    record {
      header = header_passes s 0 header_there;
      deadline = deadline_stands_there s r parts;
      share = share_stands_there s r parts;
      processors = processor_stands s r parts;
      windows = window_stands s r parts;
      tasks = task_stands s r parts;
      minutes = minutes_stand s r parts;
      edges = edge_stands s r parts;
      end = end_stands s r parts;
    }
