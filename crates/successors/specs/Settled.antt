-- What is answered, and what is lent back, is settled: two arrays that have where each task's edges begin are one, and so are two that hold what holds each
-- task back.
use Rattle.std.specs.Prelude.{ℕ, ◌+◌, ◌≤◌, ◌<◌, ◌≡◌, Bool, List, get_or}
use Rattle.std.proofs.Common.{sym, ◌∙◌, ⊎_elim, arith, ext_get_or}
use Rattle.rules.specs.Workflow.{Workflow}
use Rattle.laws.specs.Numbers.{below_or_on}
use Rattle.successors.specs.Begins.{Begins, BeginsFrom}
use Rattle.successors.specs.Held.{Held}

-- A task's edges begin at one place, for what is before it is not from there on.
not_below : {W : Workflow} {task at at' : ℕ} → Begins W task at → Begins W task at' → at < at' → ⊥
not_below {at = at} one other below = omega (arith, one.onward at (omega arith) (omega (arith, other.within)), other.before at below)

begin_settled : {W : Workflow} {task at at' : ℕ} → Begins W task at → Begins W task at' → at ≡ at'
begin_settled one other = omega (arith, not_below one other, not_below other one)

pub begins_settled : {W : Workflow} {xs ys : List ℕ} → BeginsFrom W 0 xs → BeginsFrom W 0 ys → xs ≡ ys
begins_settled {W} {xs} {ys} one other = ext_get_or 0 xs ys (one.size ∙ sym other.size) (λ i l. same i)
  where
    same : (i : ℕ) → get_or xs i 0 ≡ get_or ys i 0
    same i =
        ⊎_elim (λ (q : i ≤ W.tasks). begin_settled (one.begin i (omega arith) q) (other.begin i (omega arith) q))
        (λ (q : W.tasks + 1 ≤ i). one.past i (omega arith) ∙ sym (other.past i (omega arith)))
        (below_or_on i W.tasks)

pub held_settled : {W : Workflow} {placed : ℕ → Bool} {xs ys : List ℕ} → Held W placed xs → Held W placed ys → xs ≡ ys
held_settled {W} {placed} {xs} {ys} one other =
    ext_get_or 0 xs ys (one.size ∙ sym other.size) (λ i l. one.holds i ∙ sym (other.holds i))
