-- What is kept of the processors: one interval more; and it all ends when what they are busy with does.
use Rattle.std.specs.Prelude.{ℕ, ◌+◌, ◌≤◌, ◌<◌, ◌≡◌, Bool, eqb}
use Rattle.std.proofs.Math.Path.{refl}
use Rattle.std.proofs.Common.{◌∙◌, arith, ltb-true, ltb-false}
use Rattle.std.proofs.Math.Bool.{true, false, cond}
use mathlib.Core.List.{List, ◌∷◌, Memᴰ}
use Rattle.std.proofs.Math.Dec.{ltb}
use Rattle.rules.specs.Workflow.{Interval, busy_with}
use Rattle.laws.specs.SameStart.{SameStart, same_start_more, same_start_none, same_start_ends}
use Rattle.laws.specs.Stores.{at}
use Rattle.busy.specs.declared.Processors.{Processors}
use Rattle.busy.specs.Kept.{room_most, kept_by, InOrder, Keeps, EndBy}
use Rattle.busy.specs.KeptLaws.{kept_has_minutes}
use Rattle.busy.specs.Put.{WithInterval, with_interval, put_there, put_in}
use Rattle.busy.specs.PutLaws.{put_all, put_in_order, put_busy}

-- Any arrays in order keep what they hold.
pub keeps_itself : {p : Processors} → InOrder p.begins p.ends p.first → Keeps (kept_by p) (at p.first 16) p
keeps_itself order = record { in_order = order; in_all = refl; holds = λ j l ready minutes. refl }

-- A window or row is put in, or left out where it has no minutes.
module _ {busy : ℕ → List Interval} {k j : ℕ} {before : Processors} (held : Keeps busy k before) (l : j < 16) (room : k < room_most) (x y : ℕ) where
  abbrev new : Interval
  new = record { begin = x; end = y }

  with_it : (i : ℕ) (t : Bool) → i < 16 → SameStart (cond t (new ∷ kept_by before i) (kept_by before i)) (cond t (new ∷ busy i) (busy i))
  with_it i true below = same_start_more new _ _ (held.holds i below)
  with_it i false below = held.holds i below

  without_it : (i : ℕ) (t : Bool) → y ≤ x → SameStart (busy i) (cond t (new ∷ busy i) (busy i))
  without_it i true none = same_start_none new (busy i) none
  without_it i false none = λ ready minutes. refl

  pub keeps_put : Keeps (busy_with j new busy) (k + cond (ltb x y) 1 0) (put_in j x y before)
  unfolding put_in busy_with
  keeps_put = go (ltb x y) refl
    where
      go : (t : Bool) → ltb x y ≡ t → Keeps (busy_with j new busy) (k + cond t 1 0) (cond t (with_interval (at before.first 16) j x y before) before)
      go true some =
          let order = held.in_order in
          let put : WithInterval k j x y before (with_interval (at before.first 16) j x y before) = rw held.in_all put_there in
          record {
            in_order = put_in_order order held.in_all l room (ltb-true x y some) put;
            in_all = put_all order held.in_all l room (ltb-true x y some) put;
            holds = λ i below ready minutes.
                put_busy order held.in_all l room (ltb-true x y some) put i below ready minutes ∙ with_it i (eqb j i) below ready minutes;
          }
      go false none =
          record {
            in_order = held.in_order;
            in_all = held.in_all ∙ omega arith;
            holds = λ i below ready minutes. held.holds i below ready minutes ∙ without_it i (eqb j i) (ltb-false x y none) ready minutes;
          }

pub keeps_end_by :
    {busy : ℕ → List Interval} {k : ℕ} {p : Processors} → Keeps busy k p → (c : ℕ)
    → ((j : ℕ) → j < 16 → (v : Interval) → Memᴰ v (busy j) → v.end ≤ c) → EndBy c p.begins p.ends p.first
keeps_end_by {busy} held c each j l v m =
    same_start_ends _ (busy j) (held.holds j l) c (each j l) v m (kept_has_minutes held.in_order l m)
