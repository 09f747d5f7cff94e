-- Two inputs that agree up to N bytes have the same parts wherever those end within N, since reading goes forward by whole records.
use Rattle.std.specs.Prelude.{◌≡◌, List}
use Rattle.std.proofs.Math.Path.{refl}
use Rattle.std.proofs.Common.{ap, arith}
use Prim.Native.Nat.{ℕ, zero, suc, ◌+◌, ◌*◌, ◌<◌, ◌≤◌}
use Rattle.std.proofs.Math.Nat.{suc-mul, mul-le-mul_right}
use Rattle.rules.specs.Fields.{Kind, D, K, Q, M, T, W, E, size, body, D_deadline, K_share}
use Rattle.rules.specs.Records.{Record, Read, read, stopped}
use Rattle.rules.specs.Reading.{then, each, by, thousandths, optional, deadline_part, share_part, prices_part, counted, how_many, run_part, windows_part}
use Rattle.rules.specs.Reading.{task_part, tasks_part, edges_part, nothing_after, Request}
use Rattle.rules.specs.Workflow.{past_processors}
use Rattle.good.specs.Reading.{Walks, Steps, by_stride, each_ends}
use Rattle.good.specs.Kinds.{task_read}
use Rattle.good.specs.Processors.{processors_walk, past_processors_most}
use Rattle.good.specs.Parts.{minutes_steps, task_steps}
use Rattle.good.specs.Runs.{how_many_at_most, edge_steps, window_steps}
use Rattle.good.specs.Agree.{Agree, two_agree, four_agree, deadline_agrees, share_agrees, processor_agrees, window_agrees, task_agrees}
use Rattle.good.specs.Agree.{minutes_agrees, edge_agrees}

-- The same step, and the same after it wherever it was read.
pub then_agrees : {A B : Type 0} {x y : Read A} {f g : ℕ → A → Read B} →
    x ≡ y → ((next : ℕ) (a : A) → x ≡ read next a → f next a ≡ g next a) → then x f ≡ then y g
unfolding then
then_agrees {A} {x} {f} {g} e same = rw (← e) (go x same)
  where
    go : (x : Read A) → ((next : ℕ) (a : A) → x ≡ read next a → f next a ≡ g next a) → then x f ≡ then x g
    go (read next a) same = same next a refl
    go (stopped number place) same = refl

-- Parts are the same that are the same at their places.
each_agrees : {A : Type 0} {part : ℕ → ℕ → Read A} {at : ℕ} {place : ℕ → ℕ} → Walks part at place →
    (other : ℕ → ℕ → Read A) (k : ℕ) → ((j : ℕ) → j < k → part (place j) j ≡ other (place j) j) → each part at k ≡ each other at k
unfolding each
each_agrees walk other zero same = refl
each_agrees walk other (suc k) same =
    then_agrees (each_agrees walk other k (λ j h. same j (omega arith)))
    (λ next _ e. then_agrees (rw (each_ends walk k e) (same k (omega arith))) (λ after _ _. refl))

module _ {N : ℕ} {s t : List ℕ} (a : Agree N s t) where
  optional_agrees : {A : Type 0} {one other : A} {part same : Read Record} (kind : Kind) (at : ℕ) (without : A) → at < N →
      part ≡ same → one ≡ other → optional s kind part at one without ≡ optional t kind same at other without
  unfolding optional
  optional_agrees kind at without h same_part same_given = rw (a.same_byte at h, same_part, same_given)

  pub deadline_part_agrees : (at : ℕ) → at + size D ≤ N → deadline_part s at ≡ deadline_part t at
  unfolding deadline_part D_deadline size body
  deadline_part_agrees at h =
      optional_agrees D at _ (omega arith) (deadline_agrees a at h) (ap by (four_agree a (at + 1) (omega arith)))

  pub share_part_agrees : (budget at : ℕ) → at + size K ≤ N → share_part s budget at ≡ share_part t budget at
  unfolding share_part K_share size body
  share_part_agrees budget at h =
      optional_agrees K at _ (omega arith) (share_agrees a budget at h) (ap thousandths (two_agree a (at + 1) (omega arith)))

  pub prices_agree : (m at : ℕ) → at + m * size Q ≤ N → prices_part s m at ≡ prices_part t m at
  unfolding prices_part size body
  prices_agree m at h =
      each_agrees (processors_walk s at) _ m
      (λ j below. processor_agrees a (past_processors s at j) j (omega (arith, past_processors_most s at j)))

  task_part_agrees : (m at i : ℕ) → at + (size T + m * size W) ≤ N → task_part s m at i ≡ task_part t m at i
  unfolding task_part size body
  task_part_agrees m at i h =
      then_agrees (task_agrees a at i (omega arith))
      (λ next _ e.
      let (ends, labelled) = task_read s at i e in
      each_agrees (by_stride (size W) (minutes_steps s i) next) _ m (λ j below. minutes_agrees a (next + j * size W) i j (omega arith)))

  pub tasks_agree : (n m at : ℕ) → at + n * (size T + m * size W) ≤ N → tasks_part s n m at ≡ tasks_part t n m at
  unfolding tasks_part
  tasks_agree n m at h =
      let d : ℕ = size T + m * size W in
      each_agrees (by_stride d (task_steps s m) at) _ n
      (λ i below. task_part_agrees m (at + i * d) i (omega (arith, suc-mul i d, mul-le-mul_right d below)))

  how_many_agrees : (kind : Kind) (at most : ℕ) → at + most * size kind ≤ N → how_many s kind at most ≡ how_many t kind at most
  unfolding counted how_many size
  how_many_agrees kind at zero h = refl
  how_many_agrees kind at (suc most) h =
      let fits = suc-mul most (1 + body kind) in
      rw (a.same_byte at (omega arith), how_many_agrees kind (at + (1 + body kind)) most (omega arith))

  run_agrees : (kind : Kind) {part : ℕ → ℕ → Read Record} → Steps part (size kind) → (other : ℕ → ℕ → Read Record) (at most : ℕ) →
      ((place k : ℕ) → place + size kind ≤ N → part place k ≡ other place k) → at + most * size kind ≤ N →
      run_part s kind part at most ≡ run_part t kind other at most
  unfolding run_part
  run_agrees kind steps other at most same h =
      let d : ℕ = size kind in
      rw (← how_many_agrees kind at most h)
      (then_agrees (each_agrees (by_stride d steps at) other _ (λ j below.
      same _ j (omega (arith, suc-mul j d, mul-le-mul_right d (within below))))) (λ next _ _. refl))
    where
      within : {j : ℕ} → j < how_many s kind at most → suc j ≤ most
      within below = omega (arith, how_many_at_most s kind at most)

  pub windows_agree : (m at : ℕ) → at + 65 * size M ≤ N → windows_part s m at ≡ windows_part t m at
  unfolding windows_part
  windows_agree m at h = run_agrees M (window_steps s m) _ at 65 (λ place k. window_agrees a m place k) h

  pub edges_agree : (n at : ℕ) → at + 513 * size E ≤ N → edges_part s n at ≡ edges_part t n at
  unfolding edges_part
  edges_agree n at h = run_agrees E (edge_steps s n) _ at 513 (λ place k. edge_agrees a n place k) h

  pub nothing_agrees : (at : ℕ) (r : Request) → at < N → nothing_after s at r ≡ nothing_after t at r
  unfolding nothing_after
  nothing_agrees at r h = rw (a.same_reach (suc at) h)
