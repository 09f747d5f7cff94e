-- Two answers that the contract of `plan_into` allows are one answer, and so are two exits of each buffer: the contract settles the rows and what stands
-- after them.
use Rattle.std.specs.Prelude.{ℕ, ◌≡◌, List}
use Rattle.std.proofs.Common.{sym, ◌∙◌}
use Rattle.rules.specs.Method.{Name}
use Rattle.rules.specs.Buffers.{Buffers}
use Rattle.planner.specs.Planned.{Answer}
use Rattle.planner.specs.Settled.{answer_settled}
use Rattle.buffers.specs.Into.{PlannedInto}

pub planned_into_settled :
    (M : Name) (s : List ℕ) (lent a b : Buffers) (r t : Answer) → PlannedInto M s lent a r → PlannedInto M s lent b t → (a ≡ b) × (r ≡ t)
planned_into_settled M s lent a b r t one other =
    (one.after_is ∙ sym other.after_is, answer_settled r t (one.answer_is ∙ sym other.answer_is))
