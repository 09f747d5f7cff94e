-- A record that was read passes: kind by kind.
use Rattle.std.specs.Prelude.{ℕ, ◌≡◌, Bool, List, eqb}
use Rattle.std.proofs.Math.Path.{refl}
use Rattle.std.proofs.Math.Bool.{true, false, cond}
use Rattle.std.proofs.Common.{arith}
use Rattle.rules.specs.Fields.{H, D, K, P, Q, M, T, W, E, Z, kind_byte, byte, H_tasks, H_processors, H_budget}
use Rattle.rules.specs.Records.{Record, read, header_at, deadline_at, share_at, price_at, minimum_at, processor_at, window_at, task_at, minutes_at}
use Rattle.rules.specs.Records.{edge_at, end_at}
use Rattle.rules.specs.Workflow.{processor_kind}
use Rattle.good.specs.Records.{record_read}
use Rattle.demands.specs.Demand1.Wanted.{deadline, share, ProcessorKind, as_P, as_Q, header, single, processor, window, task, minutes, edge, end}
use Rattle.demands.specs.Demand1.Wanted.{kind_of, Passes}
use Rattle.demands.specs.Demand1.Goes.{goes_on}
use Rattle.demands.specs.Demand1.DueAt.{only_due}
use Rattle.demands.specs.Demand1.RecordGoes.{header_goes, deadline_goes, share_goes, price_goes, minimum_goes, window_goes, task_goes, minutes_goes}
use Rattle.demands.specs.Demand1.RecordGoes.{edge_goes, end_goes}

module _ (s : List ℕ) (at : ℕ) {next : ℕ} {r : Record} where
  pub header_passes : header_at s at ≡ read next r → Passes s at header
  unfolding header_at
  header_passes e = (goes_on (header_goes s at (only_due header (omega (arith, (record_read s at H _ _ e).whole)))) e).passes

  pub deadline_passes : deadline_at s at ≡ read next r → Passes s at (single deadline)
  unfolding deadline_at
  deadline_passes e = (goes_on (deadline_goes s at (only_due (single deadline) (omega (arith, (record_read s at D _ _ e).whole)))) e).passes

  pub share_passes : share_at s (H_budget s 0) at ≡ read next r → Passes s at (single share)
  unfolding share_at
  share_passes e = (goes_on (share_goes s at (only_due (single share) (omega (arith, (record_read s at K _ _ e).whole)))) e).passes

  -- In the kind that stands there.
  pub processor_passes :
      (j : ℕ) → processor_at s at j ≡ read next r
      → (k : ProcessorKind) × (processor_kind s at ≡ kind_of (processor k j)) × Passes s at (processor k j)
  unfolding processor_at price_at minimum_at processor_kind
  processor_passes j e = go (eqb (byte s at) (kind_byte Q)) e
    where
      go :
          (t : Bool) → cond t (minimum_at s at j) (price_at s at j) ≡ read next r
          → (k : ProcessorKind) × (cond t Q P ≡ kind_of (processor k j)) × Passes s at (processor k j)
      go true p =
          (as_Q, refl, (goes_on (minimum_goes s at j (only_due (processor as_Q j) (omega (arith, (record_read s at Q _ _ p).whole)))) p).passes)
      go false p =
          (as_P, refl, (goes_on (price_goes s at j (only_due (processor as_P j) (omega (arith, (record_read s at P _ _ p).whole)))) p).passes)

  pub window_passes : (before : ℕ) → window_at s (H_processors s 0) at before ≡ read next r → Passes s at (window before)
  unfolding window_at
  window_passes before e = (goes_on (window_goes s at before (only_due (window before) (omega (arith, (record_read s at M _ _ e).whole)))) e).passes

  pub task_passes : (i : ℕ) → task_at s at i ≡ read next r → Passes s at (task i)
  unfolding task_at
  task_passes i e = (goes_on (task_goes s at i (only_due (task i) (omega (arith, (record_read s at T _ _ e).whole)))) e).passes

  pub minutes_passes : (i j : ℕ) → minutes_at s at i j ≡ read next r → Passes s at (minutes i j)
  unfolding minutes_at
  minutes_passes i j e = (goes_on (minutes_goes s at i j (only_due (minutes i j) (omega (arith, (record_read s at W _ _ e).whole)))) e).passes

  pub edge_passes : (before : ℕ) → edge_at s (H_tasks s 0) at before ≡ read next r → Passes s at (edge before)
  unfolding edge_at
  edge_passes before e = (goes_on (edge_goes s at before (only_due (edge before) (omega (arith, (record_read s at E _ _ e).whole)))) e).passes

  pub end_passes : end_at s at ≡ read next r → Passes s at end
  unfolding end_at
  end_passes e = (goes_on (end_goes s at (only_due end (omega (arith, (record_read s at Z _ _ e).whole)))) e).passes
