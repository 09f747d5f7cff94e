-- Reading has one way to go: from where reading comes to, one record at most passes, and one thing follows it. So it comes to one last place.
use Rattle.std.specs.Prelude.{ℕ, ◌+◌, ◌≤◌, ◌≡◌, refl, List, length}
use Rattle.std.proofs.Common.{sym, ◌∙◌, subst, arith}
use Rattle.rules.specs.Fields.{size}
use Rattle.demands.specs.Demand1.Wanted.{Wanted, header, kind_of, Passes}
use Rattle.demands.specs.Demand1.Reads.{DueHere, only, IsDue, Follows, after_header, after_deadline, after_share, next_processor, first_window}
use Rattle.demands.specs.Demand1.Reads.{next_window, first_minutes, next_minutes, next_task, first_edge, next_edge, after_end, Comes, at_the_front, past}
use Rattle.demands.specs.Demand1.FaultSettled.{due_unique}

follows_settled : {s : List ℕ} {at : ℕ} {w : Wanted} {next next' : DueHere} → Follows s at w next → Follows s at w next' → next ≡ next'
follows_settled after_header after_header = refl
follows_settled after_deadline after_deadline = refl
follows_settled after_share after_share = refl
follows_settled (next_processor l) (next_processor l') = refl
follows_settled (next_processor l) (first_window e) = absurd (omega arith)
follows_settled (first_window e) (next_processor l) = absurd (omega arith)
follows_settled (first_window e) (first_window e') = refl
follows_settled next_window next_window = refl
follows_settled first_minutes first_minutes = refl
follows_settled (next_minutes l) (next_minutes l') = refl
follows_settled (next_minutes l) (next_task e k) = absurd (omega arith)
follows_settled (next_minutes l) (first_edge e k) = absurd (omega arith)
follows_settled (next_task e k) (next_minutes l) = absurd (omega arith)
follows_settled (next_task e k) (next_task e' k') = refl
follows_settled (next_task e k) (first_edge e' k') = absurd (omega arith)
follows_settled (first_edge e k) (next_minutes l) = absurd (omega arith)
follows_settled (first_edge e k) (next_task e' k') = absurd (omega arith)
follows_settled (first_edge e k) (first_edge e' k') = refl
follows_settled next_edge next_edge = refl
follows_settled after_end after_end = refl

-- Reading comes to no place past the input's end.
pub comes_inside : {s : List ℕ} {due : DueHere} {at : ℕ} → Comes s due at → at ≤ length s
comes_inside at_the_front = omega arith
comes_inside (past before d passes follows) = passes.whole.to_its_end

-- No record that is due passes there.
abbrev pub Last : List ℕ → DueHere → ℕ → Type 0
Last s due at = (w : Wanted) → IsDue due w → Passes s at w → ⊥

-- From the one place on to the last.
data Onward (s : List ℕ) (last : DueHere) (place : ℕ) : DueHere → ℕ → Type 0 where
  there : {due : DueHere} {at : ℕ} → due ≡ last → at ≡ place → Onward s last place due at
  on :
      {due next : DueHere} {at : ℕ} {w : Wanted} → IsDue due w → Passes s at w → Follows s at w next
      → Onward s last place next (at + size (kind_of w)) → Onward s last place due at

from_the_front :
    {s : List ℕ} {last due : DueHere} {place at : ℕ} → Comes s due at → Onward s last place due at → Onward s last place (only header) 0
from_the_front at_the_front rest = rest
from_the_front (past before d passes follows) rest = from_the_front before (on d passes follows rest)

module _ {s : List ℕ} {last last' : DueHere} {place place' : ℕ} (ends : Last s last place) (ends' : Last s last' place') where
  same_last : {due : DueHere} {at : ℕ} → Onward s last place due at → Onward s last' place' due at → (last ≡ last') × (place ≡ place')
  same_last (there e p) (there e' p') = (sym e ∙ e', sym p ∙ p')
  same_last (there e p) (on {w = w} d passes follows rest) = absurd (ends w (rw e at d) (rw p at passes))
  same_last (on {w = w} d passes follows rest) (there e p) = absurd (ends' w (rw e at d) (rw p at passes))
  same_last (on {at = at} {w = w} d passes follows rest) (on {next = next'} {w = v} d' passes' follows' rest') =
      let same : w ≡ v = due_unique d d' (sym passes.whole.of_kind ∙ passes'.whole.of_kind) in
      let next_same = follows_settled follows (subst (λ x. Follows s at x next') (sym same) follows') in
      same_last rest (rw (next_same, same) rest')

  -- Two last places that reading comes to are one, with the same due there.
  pub last_settled : Comes s last place → Comes s last' place' → (last ≡ last') × (place ≡ place')
  last_settled one other = same_last (from_the_front one (there refl refl)) (from_the_front other (there refl refl))
