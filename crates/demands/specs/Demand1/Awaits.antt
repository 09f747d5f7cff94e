-- A record that reading awaits: a fault there ends reading.
use Rattle.std.specs.Prelude.{ℕ, List}
use Rattle.std.proofs.Common.{sym, subst}
use Rattle.rules.specs.Records.{Record, Read}
use Rattle.demands.specs.Demand1.Wanted.{Wanted}
use Rattle.demands.specs.Demand1.Reads.{DueHere, only, Follows, Comes, past, Stops}
use Rattle.demands.specs.Demand1.ReadsSettled.{comes_inside}
use Rattle.demands.specs.Demand1.Goes.{Goes, on, ends}
use Rattle.demands.specs.Demand1.DueAt.{DueAt, only_due, Past, Faulty}

pub record Awaits (s : List ℕ) (at : ℕ) (w : Wanted) : Type 0 where
  pub due : DueHere
  pub here : DueAt s due at w
  pub comes : Comes s due at

pub awaits_only : {s : List ℕ} {at : ℕ} {w : Wanted} → Comes s (only w) at → Awaits s at w
awaits_only {w} comes = record { due = only w; here = only_due w (comes_inside comes); comes = comes }

module _ {s : List ℕ} {at : ℕ} {w : Wanted} (a : Awaits s at w) where
  -- What follows a record that passes is due past it.
  pub comes_past : {next : ℕ} {r : Record} {due : DueHere} → Past s at w next r → Follows s at w due → Comes s due next
  comes_past {due} p follows = subst (Comes s due) (sym p.ends) (past a.comes a.here.is_due p.passes follows)

  pub awaited :
      {A : Type 0} {P : ℕ → A → Type 0} {x : Read A} → Goes P (Faulty s a.due at) x → Goes P (Stops s) x
  awaited (on p) = on p
  awaited (ends {number = number} q) =
      ends (subst (Stops s number) (sym q.there) (record { due = a.due; comes = a.comes; fault = q.fault }))
