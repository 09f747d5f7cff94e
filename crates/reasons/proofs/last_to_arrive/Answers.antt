-- Of the edges passed, the first of those with the latest minute is kept, with its minute.
use Rattle.std.proofs.Common.{◌≡◌, refl, ℕ, ◌+◌, ◌≤◌, ◌<◌, arith, lt-ltb, le-ltb}
use Rattle.std.specs.Prelude.{max}
use Rattle.rules.specs.Workflow.{workflow}
use Rattle.rules.specs.Folds.{largest}
use Rattle.rules.specs.Orders.{tie, higher, first}
use Rattle.rules.specs.Start.{arrived}
use Rattle.rules.specs.Why.{last_to_arrive}
use Rattle.laws.specs.Folds.{largest_next}
use Rattle.laws.specs.Highest.{highest_next}
use Rattle.reasons.specs.declared.Arrival.{Arrival}
use Rattle.reasons.proofs.last_to_arrive.Goals as goal
use Rattle.reasons.proofs.last_to_arrive.Goals.{then-last-minute, else-last-minute}

-- What is kept of the first k edges.
Kept : (ℕ → ℕ) → ℕ → Arrival → Type 0
Kept minutes k last = (last.edge ≡ first k (higher minutes tie)) × (last.minute ≡ largest k minutes)

later : (minutes : ℕ → ℕ) (k : ℕ) (last : Arrival) → Kept minutes k last → last.minute < minutes k → Kept minutes (k + 1) (record { edge = k; minute = minutes k })
unfolding Kept
later minutes k last kept h =
    let most : minutes k ≡ max last.minute (minutes k) = omega arith in
    (highest_next minutes k kept.0 kept.1 (rw (lt-ltb _ _ h)), largest_next k minutes kept.1 most)

no_later : (minutes : ℕ → ℕ) (k : ℕ) (last : Arrival) → Kept minutes k last → minutes k ≤ last.minute → Kept minutes (k + 1) last
unfolding Kept
no_later minutes k last kept h =
    let most : last.minute ≡ max last.minute (minutes k) = omega arith in
    (highest_next minutes k kept.0 kept.1 (rw (le-ltb _ _ h)), largest_next k minutes kept.1 most)

pub loop-edge-init : goal.loop-edge-init
unfolding first largest
loop-edge-init c = (refl, refl)

pub loop-edge-preserved : goal.loop-edge-preserved
unfolding Kept
loop-edge-preserved c =
    let kept = c.loop-edge.invariant in
    let here = c.awaited-minute.ensures in
    elim c.if-last-minute.branch [
      | then-last-minute w ↦ rw (w.last-is, here) (later _ _ _ kept (rw here at w.if-last-minute.true))
      | else-last-minute w ↦ rw w.last-is (no_later _ _ _ kept (rw here at w.if-last-minute.false))
    ]

pub returns : goal.returns
unfolding workflow arrived last_to_arrive
returns c =
    let all : c.loop-edge.edge ≡ c.args.r.now.view.edges = omega arith in
    (rw all at c.loop-edge.invariant.0, rw all at c.loop-edge.invariant.1)
