-- Bytes written over a lent buffer one after the other are one write. Each is `put_bytes`' own; a text is appended to.
use Rattle.std.specs.Prelude.{ℕ, ◌+◌, ◌≡◌, refl, List, [], ◌∷◌, ◌++◌, length, take, drop, set}
use Rattle.std.proofs.Common.{sym, ap, ◌∙◌, append_assoc, append-nil, arith, add-one, length-append, length-take-le, take-suc-set, drop-set-lt, drop-drop}
use Rattle.std.proofs.lemmas.List.{set-append_left}
use Rattle.std.proofs.Math.Seq.{take-set-lt}
use Rattle.decimals.specs.Wrote.{Room, Wrote, wrote_length}

module _ (out : List ℕ) (at : ℕ) where
  pub wrote_nothing : Wrote out at [] out at
  wrote_nothing = record { ends = omega arith; front = sym (append-nil (take at out)); rest = refl }

  pub wrote_byte : (b : ℕ) → Room out at (b ∷ []) → Wrote out at (b ∷ []) (set out at b) (at + 1)
  wrote_byte b room =
      record {
        ends = omega arith;
        front = rw add-one (take-suc-set out at b (omega (arith, room.fits)));
        rest = drop-set-lt (at + 1) out at b (omega arith);
      }

  -- A byte set just before what is written.
  pub wrote_before :
      (b : ℕ) {t out' : List ℕ} {end : ℕ} → Room out at (b ∷ []) → Wrote out (at + 1) t out' end → Wrote out at (b ∷ t) (set out' at b) end
  wrote_before b {t} {out'} {end} room w =
      let first = take-set-lt (at + 1) out at b (omega arith) in
      let long = length-take-le (at + 1) out room.fits in
      record {
        ends = omega arith;
        front =
            take-set-lt end out' at b (omega arith)
            ∙ ap (λ xs. set xs at b) w.front
            ∙ set-append_left (take (at + 1) out) t at b (omega arith)
            ∙ ap (λ xs. xs ++ t) (sym first ∙ (wrote_byte b room).front)
            ∙ append_assoc (take at out) (b ∷ []) t;
        rest = drop-set-lt end out' at b (omega arith) ∙ w.rest;
      }

pub wrote_then :
    {out out₁ out₂ t u : List ℕ} {at mid end : ℕ} → Wrote out at t out₁ mid → Wrote out₁ mid u out₂ end → Wrote out at (t ++ u) out₂ end
wrote_then {out} {out₁} {out₂} {t} {u} {at} {mid} {end} one next =
    let further : drop end out₁ ≡ drop end out =
    rw (next.ends, ← drop-drop (length u) mid out₁, ← drop-drop (length u) mid out) (ap (drop (length u)) one.rest) in
    record {
      ends = omega (arith, one.ends, next.ends, length-append t u);
      front = next.front ∙ ap (λ xs. xs ++ u) one.front ∙ append_assoc (take at out) t u;
      rest = next.rest ∙ further;
    }

-- Room for two writes: for the first, and then for the second.
pub room_first : {out t : List ℕ} {at : ℕ} (u : List ℕ) → Room out at (t ++ u) → Room out at t
room_first {t = t} u room = record { fits = omega (arith, room.fits, length-append t u) }

pub room_next : {out t u out₁ : List ℕ} {at mid : ℕ} → Room out at (t ++ u) → Wrote out at t out₁ mid → Room out₁ mid u
room_next {t = t} {u = u} room w =
    record { fits = omega (arith, room.fits, w.ends, length-append t u, wrote_length (room_first u room) w) }
