-- The parts of a request go as document 01 has it: each record is the one that reading awaits, and past the last what follows the part is due.
use Prim.Native.Nat.{ℕ, suc, ◌+◌, ◌*◌, ◌≤◌, ◌<◌}
use Rattle.std.specs.Prelude.{◌≡◌, Bool, cond, List}
use Rattle.std.proofs.Math.Path.{refl}
use Rattle.std.proofs.Common.{sym, ◌∙◌}
use Rattle.std.proofs.Math.Nat.{suc-mul}
use native.Mathlib.Omega.{arith}
use Rattle.rules.specs.Fields.{Kind, Q, M, E, kind_byte, size, byte, H_tasks, H_processors, H_budget}
use Rattle.rules.specs.Records.{Record, Read, read, stopped, price_at, minimum_at, processor_at, window_at, edge_at}
use Rattle.rules.specs.Reading.{then, each, optional, deadline_part, share_part, prices_part, how_many, run_part, windows_part, task_part, tasks_part}
use Rattle.rules.specs.Reading.{edges_part}
use Rattle.good.specs.Runs.{of_that_kind, then_another, edges_found, windows_found, windows_at_most}
use Rattle.demands.specs.Demand1.Wanted.{Single, deadline, share, ProcessorKind, as_P, as_Q, Wanted, single, processor, task, minutes, end, kind_of}
use Rattle.demands.specs.Demand1.Reads.{DueHere, only, at_most_one, either_processor, window_or_task, edge_or_end, IsDue, that_single, or_later}
use Rattle.demands.specs.Demand1.Reads.{either_kind, a_window, or_the_first_task, an_edge, or_the_end, Follows}
use Rattle.demands.specs.Demand1.Reads.{next_processor, first_window, next_window, first_minutes, next_minutes, next_task, first_edge}
use Rattle.demands.specs.Demand1.Reads.{next_edge, Comes, Stops}
use Rattle.demands.specs.Demand1.FaultSettled.{due_unique}
use Rattle.demands.specs.Demand1.Tells.{Tells, holds, fails, eqb_tells}
use Rattle.demands.specs.Demand1.Goes.{Goes, on, ends, goes_on, goes_ends, goes_further, goes_then, goes_each}
use Rattle.demands.specs.Demand1.ReadsSettled.{comes_inside}
use Rattle.demands.specs.Demand1.DueAt.{DueAt, Past, Faulty}
use Rattle.demands.specs.Demand1.Awaits.{Awaits, awaits_only, comes_past, awaited}
use Rattle.demands.specs.Demand1.RecordGoes.{deadline_goes, share_goes, price_goes, minimum_goes, window_goes, task_goes, minutes_goes, edge_goes}

-- The record stands there that is due, or the other of two.
awaits_standing :
    {s : List ℕ} {due : DueHere} {at : ℕ} {w : Wanted} → Comes s due at → IsDue due w → byte s at ≡ kind_byte (kind_of w) → Awaits s at w
awaits_standing {due} comes d kind =
    record {
      due = due;
      here = record { inside = comes_inside comes; is_due = d; no_other = λ v d' k. due_unique d' d (sym k ∙ kind) };
      comes = comes;
    }

-- Reading awaits this: it is due, and of what is due besides nothing stands there.
pub record AwaitsDue (s : List ℕ) (at : ℕ) (this : DueHere) : Type 0 where
  pub due : DueHere
  pub is_due : (w : Wanted) → IsDue this w → IsDue due w
  pub no_other : (v : Wanted) → IsDue due v → byte s at ≡ kind_byte (kind_of v) → IsDue this v
  pub comes : Comes s due at

module _ {s : List ℕ} {at : ℕ} where
  pub awaits_due : {due : DueHere} → Comes s due at → AwaitsDue s at due
  awaits_due {due} comes = record { due = due; is_due = λ w d. d; no_other = λ v d b. d; comes = comes }

  -- No such record stands there, so it is what comes later that is awaited.
  awaits_later : {o : Single} {later : DueHere} → AwaitsDue s at (at_most_one o later) → (byte s at ≡ kind_byte (kind_of (single o)) → ⊥) → AwaitsDue s at later
  awaits_later {o} {later} a other =
      record { due = a.due; is_due = λ w d. a.is_due w (or_later d); no_other = λ v d b. one b (a.no_other v d b); comes = a.comes }
    where
      one : {v : Wanted} → byte s at ≡ kind_byte (kind_of v) → IsDue (at_most_one o later) v → IsDue later v
      one b that_single = absurd (other b)
      one b (or_later d) = d

  -- No `Q` stands there, so it is a `P` that is awaited.
  awaits_P : {j : ℕ} → AwaitsDue s at (either_processor j) → (byte s at ≡ kind_byte Q → ⊥) → Awaits s at (processor as_P j)
  awaits_P {j} a other =
      record {
        due = a.due;
        here = record { inside = comes_inside a.comes; is_due = a.is_due _ either_kind; no_other = λ v d b. one b (a.no_other v d b) };
        comes = a.comes;
      }
    where
      one : {v : Wanted} → byte s at ≡ kind_byte (kind_of v) → IsDue (either_processor j) v → v ≡ processor as_P j
      one b (either_kind {k = as_P}) = refl
      one b (either_kind {k = as_Q}) = absurd (other b)

  -- No window stands there, so it is the first task that is awaited; no edge, so it is the end.
  pub awaits_first_task : {before : ℕ} → Comes s (window_or_task before) at → (byte s at ≡ kind_byte M → ⊥) → Awaits s at (task 0)
  awaits_first_task {before} comes other =
      record {
        due = window_or_task before;
        here = record { inside = comes_inside comes; is_due = or_the_first_task; no_other = λ v. one };
        comes = comes;
      }
    where
      one : {v : Wanted} → IsDue (window_or_task before) v → byte s at ≡ kind_byte (kind_of v) → v ≡ task 0
      one a_window k = absurd (other k)
      one or_the_first_task k = refl

  pub awaits_end : {before : ℕ} → Comes s (edge_or_end before) at → (byte s at ≡ kind_byte E → ⊥) → Awaits s at end
  awaits_end {before} comes other =
      record {
        due = edge_or_end before;
        here = record { inside = comes_inside comes; is_due = or_the_end; no_other = λ v. one };
        comes = comes;
      }
    where
      one : {v : Wanted} → IsDue (edge_or_end before) v → byte s at ≡ kind_byte (kind_of v) → v ≡ end
      one an_edge k = absurd (other k)
      one or_the_end k = refl

module _ (s : List ℕ) where
  -- Where the i-th task is to begin: there it is due, or past the last the edges are.
  abbrev TaskNext : ℕ → ℕ → Type 0
  TaskNext i at = (i < H_tasks s 0 → Awaits s at (task i)) × (i ≡ H_tasks s 0 → Comes s (edge_or_end 0) at)

  abbrev MinutesNext : ℕ → ℕ → ℕ → Type 0
  MinutesNext i j at = (j < H_processors s 0 → Comes s (only (minutes i j)) at) × (j ≡ H_processors s 0 → TaskNext (suc i) at)

  abbrev ProcessorNext : ℕ → ℕ → Type 0
  ProcessorNext j at = (j < H_processors s 0 → AwaitsDue s at (either_processor j)) × (j ≡ H_processors s 0 → Comes s (window_or_task 0) at)

  task_part_goes :
      (i at : ℕ) → 1 ≤ H_processors s 0 → Awaits s at (task i)
      → Goes (λ next _. TaskNext (suc i) next) (Stops s) (task_part s (H_processors s 0) at i)
  unfolding task_part
  task_part_goes i at some a =
      goes_then (awaited a (task_goes s at i a.here)) (λ next _ p.
      goes_further
      (goes_each (MinutesNext i) (H_processors s 0) (λ l. comes_past a p first_minutes, λ e. absurd (omega arith))
      (λ j place l here.
      let b = awaits_only (here.0 l) in
      goes_further (awaited b (minutes_goes s place i j b.here)) (λ after _ q. (
        λ more. comes_past b q (next_minutes more),
        λ e. (λ more. awaits_only (comes_past b q (next_task e more)), λ e'. comes_past b q (first_edge e e')),
      ))))
      (λ after _ q. q.1 refl))

  pub tasks_part_goes :
      (at : ℕ) → 1 ≤ H_processors s 0 → 1 ≤ H_tasks s 0 → Awaits s at (task 0)
      → Goes (λ next _. Comes s (edge_or_end 0) next) (Stops s) (tasks_part s (H_tasks s 0) (H_processors s 0) at)
  unfolding tasks_part
  tasks_part_goes at some some_tasks first =
      goes_further
      (goes_each TaskNext (H_tasks s 0) (λ l. first, λ e. absurd (omega arith)) (λ i place l here. task_part_goes i place some (here.0 l)))
      (λ after _ q. q.1 refl)

  past_processor :
      {k : ProcessorKind} {j at next : ℕ} {r : Record} (a : Awaits s at (processor k j)) → Past s at (processor k j) next r → ProcessorNext (suc j) next
  past_processor a p = (λ more. awaits_due (comes_past a p (next_processor more)), λ e. comes_past a p (first_window e))

  processor_goes : (j at : ℕ) → AwaitsDue s at (either_processor j) → Goes (λ next _. ProcessorNext (suc j) next) (Stops s) (processor_at s at j)
  unfolding processor_at
  processor_goes j at a = go (eqb_tells (byte s at) (kind_byte Q))
    where
      go :
          {t : Bool} → Tells (byte s at ≡ kind_byte Q) t
          → Goes (λ next _. ProcessorNext (suc j) next) (Stops s) (cond t (minimum_at s at j) (price_at s at j))
      go (holds kind) =
          let b = awaits_standing a.comes (a.is_due (processor as_Q j) either_kind) kind in
          goes_further (awaited b (minimum_goes s at j b.here)) (λ after _ p. past_processor b p)
      go (fails other) =
          let b = awaits_P a other in
          goes_further (awaited b (price_goes s at j b.here)) (λ after _ p. past_processor b p)

  pub prices_part_goes :
      (at : ℕ) → 1 ≤ H_processors s 0 → AwaitsDue s at (either_processor 0)
      → Goes (λ next _. Comes s (window_or_task 0) next) (Stops s) (prices_part s (H_processors s 0) at)
  unfolding prices_part
  prices_part_goes at some first =
      goes_further
      (goes_each ProcessorNext (H_processors s 0) (λ l. first, λ e. absurd (omega arith)) (λ j place l here. processor_goes j place (here.0 l)))
      (λ after _ q. q.1 refl)

  -- Where at most one is due, it stands there and is awaited, or what comes later is.
  optional_goes :
      {A : Type 0} {later : DueHere} (o : Single) (part : Read Record) (at : ℕ) (given without : A) → Follows s at (single o) later
      → ((due : DueHere) → DueAt s due at (single o) → Goes (Past s at (single o)) (Faulty s due at) part) → AwaitsDue s at (at_most_one o later)
      → Goes (λ next _. AwaitsDue s next later) (Stops s) (optional s (kind_of (single o)) part at given without)
  unfolding optional
  optional_goes {later = later} o part at given without follows one a = go (eqb_tells (byte s at) (kind_byte (kind_of (single o))))
    where
      go : {t : Bool} → Tells (byte s at ≡ kind_byte (kind_of (single o))) t
          → Goes (λ next _. AwaitsDue s next later) (Stops s) (cond t (then part (λ next _. read next given)) (read at without))
      go (holds kind) =
          let b = awaits_standing a.comes (a.is_due (single o) that_single) kind in
          goes_then (awaited b (one b.due b.here)) (λ next _ p. on (awaits_due (comes_past b p follows)))
      go (fails other) = on (awaits_later a other)

  pub deadline_part_goes :
      {later : DueHere} (at : ℕ) → Follows s at (single deadline) later → AwaitsDue s at (at_most_one deadline later)
      → Goes (λ next _. AwaitsDue s next later) (Stops s) (deadline_part s at)
  unfolding deadline_part
  deadline_part_goes at follows = optional_goes deadline _ at _ _ follows (λ due. deadline_goes s at)

  pub share_part_goes :
      {later : DueHere} (at : ℕ) → Follows s at (single share) later → AwaitsDue s at (at_most_one share later)
      → Goes (λ next _. AwaitsDue s next later) (Stops s) (share_part s (H_budget s 0) at)
  unfolding share_part
  share_part_goes at follows = optional_goes share _ at _ _ follows (λ due. share_goes s at)

  -- Past records of one kind: with so many before it this is due, and no more of that kind stands there.
  abbrev PastRun : Kind → (ℕ → DueHere) → ℕ → ℕ → Type 0
  PastRun kind due next count = Comes s (due count) next × (byte s next ≡ kind_byte kind → ⊥)

  -- Each that stands there is awaited, and fewer pass than are looked for.
  run_part_goes :
      (kind : Kind) (due : ℕ → DueHere) (part : ℕ → ℕ → Read Record) (at most : ℕ)
      → ((k place : ℕ) → Comes s (due k) place → byte s place ≡ kind_byte kind
      → Goes (λ next _. (next ≡ place + size kind) × Comes s (due (suc k)) next) (Stops s) (part place k))
      → ((k next : ℕ) → each part at k ≡ read next tt → k < most) → Comes s (due 0) at
      → Goes (PastRun kind due) (Stops s) (run_part s kind part at most)
  unfolding run_part then
  run_part_goes kind due part at most one few comes =
      go (each part at count) refl
      (goes_each (λ k place. (place ≡ at + k * size kind) × Comes s (due k) place) count (omega arith, comes)
      (λ k place l here.
      goes_further (one k place here.1 (rw here.0 (of_that_kind s kind at most k l))) (λ next _ p. (omega (arith, p.0, here.0, suc-mul k (size kind)), p.1))))
    where
      count : ℕ
      count = how_many s kind at most

      go :
          (x : Read (Unit {0})) → each part at count ≡ x
          → Goes (λ next _. (next ≡ at + count * size kind) × Comes s (due count) next) (Stops s) x
          → Goes (PastRun kind due) (Stops s) (then x (λ next _. read next count))
      go (read next tt) e g =
          let (there, here) = goes_on g refl in
          on (here, λ k. then_another s kind at most (few count next e) (rw there at k))
      go (stopped number place) e g = ends (goes_ends g refl)

  pub windows_part_goes :
      (at : ℕ) → H_processors s 0 ≤ 16 → Comes s (window_or_task 0) at
      → Goes (PastRun M window_or_task) (Stops s) (windows_part s (H_processors s 0) at)
  unfolding windows_part
  windows_part_goes at narrow =
      run_part_goes M window_or_task (window_at s (H_processors s 0)) at 65
      (λ k place comes kind.
      let a = awaits_standing comes a_window kind in
      goes_further (awaited a (window_goes s place k a.here)) (λ next _ p. (p.ends, comes_past a p next_window)))
      (λ k next e. omega (arith, windows_at_most (windows_found s _ at e) narrow))

  pub edges_part_goes : (at : ℕ) → Comes s (edge_or_end 0) at → Goes (PastRun E edge_or_end) (Stops s) (edges_part s (H_tasks s 0) at)
  unfolding edges_part
  edges_part_goes at =
      run_part_goes E edge_or_end (edge_at s (H_tasks s 0)) at 513
      (λ k place comes kind.
      let a = awaits_standing comes an_edge kind in
      goes_further (awaited a (edge_goes s place k a.here)) (λ next _ p. (p.ends, comes_past a p next_edge)))
      (λ k next e. omega (arith, (edges_found s _ at e).few))
