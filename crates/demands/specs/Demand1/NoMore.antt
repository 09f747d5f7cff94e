-- "at most one `D`; at most one `K`", in this order: past one of them no second is due, and past a `K` no `D`. Where such a record stands, that is "the kind byte
-- is not one due here".
use Rattle.std.specs.Prelude.{ℕ, ◌+◌, ◌<◌, ◌≡◌, List, length}
use Rattle.std.proofs.Common.{sym, ◌∙◌, arith}
use Rattle.rules.specs.Fields.{kind_byte, size, byte}
use Rattle.rules.specs.Records.{stopped}
use Rattle.rules.specs.Reading.{read_request}
use Rattle.demands.specs.Demand1.Wanted.{Single, deadline, share, as_P, Wanted, single, processor, kind_of, Passes}
use Rattle.demands.specs.Demand1.Reads.{DueHere, either_processor, at_most_one, IsDue, that_single, or_later, either_kind, Follows, after_deadline, after_share}
use Rattle.demands.specs.Demand1.Reads.{Comes, past, kind_not_due}
use Rattle.demands.specs.Demand1.FaultSettled.{single_told}
use Rattle.demands.specs.Demand1.Reading.{fault_stops}

-- Past the one the other may not stand.
pub data NoMore : (one other : Single) → Type 0 where
  second : {o : Single} → NoMore o o
  deadline_past_share : NoMore share deadline

-- What is due past the one: the first processor at least, and not the other.
record Later (s : List ℕ) (at : ℕ) (o other : Single) : Type 0 where
  later : DueHere
  follows : Follows s at (single o) later
  first_processor : IsDue later (processor as_P 0)
  not_due : (w : Wanted) → IsDue later w → w ≡ single other → ⊥

not_a_processor : {w : Wanted} {o : Single} → IsDue (either_processor 0) w → w ≡ single o → ⊥
not_a_processor either_kind e = let z : ◌≡◌ {A = ℕ} 0 1 = cc in omega arith

past_share : {s : List ℕ} {at : ℕ} {other : Single} → Later s at share other
past_share = record { later = either_processor 0; follows = after_share; first_processor = either_kind; not_due = λ w. not_a_processor }

later_without : {s : List ℕ} {at : ℕ} {o other : Single} → NoMore o other → Later s at o other
later_without (second {o = deadline}) =
    record { later = at_most_one share (either_processor 0); follows = after_deadline; first_processor = or_later either_kind; not_due = λ w. no_deadline }
  where
    no_deadline : {w : Wanted} → IsDue (at_most_one share (either_processor 0)) w → w ≡ single deadline → ⊥
    no_deadline that_single e = let z : ◌≡◌ {A = ℕ} 0 1 = cc in omega arith
    no_deadline (or_later d) e = not_a_processor d e
later_without (second {o = share}) = past_share
later_without deadline_past_share = past_share

pub no_more_is_due :
    (s : List ℕ) {due : DueHere} {at : ℕ} {o other : Single} → NoMore o other → Comes s due at → IsDue due (single o) → Passes s at (single o)
    → at + size (kind_of (single o)) < length s → byte s (at + size (kind_of (single o))) ≡ kind_byte (kind_of (single other))
    → read_request s ≡ stopped 2 (at + size (kind_of (single o)))
no_more_is_due s {at = at} {other = other} none comes d passes there stands =
    let l = later_without {s = s} {at = at} none in
    fault_stops s (past comes d passes l.follows)
    (kind_not_due l.first_processor there (λ v due kind. l.not_due v due (single_told other v (sym kind ∙ stands))))
