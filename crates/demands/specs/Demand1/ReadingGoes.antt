-- A request that is read goes as document 01 has it, part by part: reading comes to the input's end, or to the fault that ends it.
use Rattle.std.specs.Prelude.{ℕ, ◌<◌, ◌≡◌, Bool, cond, List}
use Rattle.std.proofs.Math.Path.{refl}
use Rattle.std.proofs.Common.{arith}
use Rattle.std.proofs.Math.ListN.{length}
use Rattle.rules.specs.Records.{read, stopped}
use Rattle.rules.specs.Reading.{nothing_after, Request, read_request}
use Rattle.demands.specs.Demand1.Reads.{nothing, after_header, after_deadline, after_share, after_end, Comes, at_the_front, bytes_after, Stops}
use Rattle.demands.specs.Demand1.ReadsSettled.{comes_inside}
use Rattle.demands.specs.Demand1.Tells.{Tells, holds, fails, ltb_tells}
use Rattle.demands.specs.Demand1.Goes.{Goes, on, ends, goes_then}
use Rattle.demands.specs.Demand1.Awaits.{awaits_only, comes_past, awaited}
use Rattle.demands.specs.Demand1.RecordGoes.{header_goes, end_goes}
use Rattle.demands.specs.Demand1.PartsGo.{awaits_due, awaits_first_task, awaits_end, deadline_part_goes, share_part_goes, prices_part_goes}
use Rattle.demands.specs.Demand1.PartsGo.{windows_part_goes, tasks_part_goes, edges_part_goes}

module _ (s : List ℕ) where
  nothing_after_goes : (at : ℕ) (r : Request) → Comes s nothing at → Goes (λ end _. Comes s nothing (length s)) (Stops s) (nothing_after s at r)
  unfolding nothing_after
  nothing_after_goes at r comes = go (ltb_tells at (length s))
    where
      go : {t : Bool} → Tells (at < length s) t → Goes (λ end _. Comes s nothing (length s)) (Stops s) (cond t (stopped 6 at) (read at r))
      go (holds more) = ends (record { due = nothing; comes = comes; fault = bytes_after refl more })
      go (fails none) =
          let same : at ≡ length s = omega (arith, comes_inside comes) in
          on (rw same at comes)

  -- What is read is read to the input's end, with nothing due any more; and a refusal is the fault at its place.
  pub reading_goes : Goes (λ end _. Comes s nothing (length s)) (Stops s) (read_request s)
  unfolding read_request
  reading_goes =
      let a = awaits_only at_the_front in
      goes_then (awaited a (header_goes s 0 a.here)) (λ after_H _ h.
      let (n_in, m_in, budget_in) = h.passes.in_range in
      goes_then (deadline_part_goes s after_H after_deadline (awaits_due (comes_past a h after_header))) (λ after_D _ d.
      goes_then (share_part_goes s after_D after_share d) (λ prices_at _ first.
      goes_then (prices_part_goes s prices_at m_in.from_low first) (λ windows_at _ windows_due.
      goes_then (windows_part_goes s windows_at m_in.to_high windows_due) (λ tasks_at _ w.
      goes_then (tasks_part_goes s tasks_at m_in.from_low n_in.from_low (awaits_first_task w.0 w.1)) (λ edges_at _ edges_due.
      goes_then (edges_part_goes s edges_at edges_due) (λ after_edges _ e.
      let z = awaits_end e.0 e.1 in
      goes_then (awaited z (end_goes s after_edges z.here)) (λ end _ p.
      nothing_after_goes end _ (comes_past z p after_end)))))))))
