-- Bytes written over a buffer from one place on, and what stands before and after them stays.
use Rattle.std.specs.Prelude.{ℕ, ◌+◌, ◌≤◌, ◌≡◌, refl, List, ◌++◌, length, take, drop}
use Rattle.std.proofs.Common.{sym, ap, ◌∙◌, append_assoc, arith, zero-add, length-append, length-take, length-drop, length-take-le, take-append-drop, drop-drop}
use Rattle.std.proofs.Math.Seq.{take-append_seam, drop-append_seam}

-- There is room for the bytes.
pub record Room (out : List ℕ) (at : ℕ) (bytes : List ℕ) : Type 0 where
  pub fits : at + length bytes ≤ length out

-- The bytes are written over `out` from `at` on: what it is then, and where they end.
pub record Wrote (out : List ℕ) (at : ℕ) (bytes out' : List ℕ) (end : ℕ) : Type 0 where
  pub ends : end ≡ at + length bytes
  pub front : take end out' ≡ take at out ++ bytes
  pub rest : drop end out' ≡ drop end out

-- They are, where they stand between what stood before and past them.
pub wrote_between :
    {out t : List ℕ} {at : ℕ} (k : ℕ) → k ≡ length t → Room out at t → Wrote out at t (take at out ++ (t ++ drop k (drop at out))) (at + length t)
wrote_between {out} {t} {at} k e room =
    let past = drop k (drop at out) in
    let whole = sym (append_assoc (take at out) t past) in
    let long : at + length t ≡ length (take at out ++ t) =
    omega (arith, room.fits, length-append (take at out) t, length-take-le at out (omega (arith, room.fits))) in
    let further : at + k ≡ at + length t = omega arith in
    record {
      ends = refl;
      front = ap (take (at + length t)) whole ∙ ap (λ n. take n ((take at out ++ t) ++ past)) long ∙ take-append_seam (take at out ++ t) past;
      rest =
          ap (drop (at + length t)) whole
          ∙ ap (λ n. drop n ((take at out ++ t) ++ past)) long
          ∙ drop-append_seam (take at out ++ t) past
          ∙ drop-drop k at out
          ∙ ap (λ n. drop n out) further;
    }

pub wrote_length : {out t out' : List ℕ} {at end : ℕ} → Room out at t → Wrote out at t out' end → length out' ≡ length out
wrote_length {out} {t} {out'} {at} {end} room w =
    omega (
      arith,
      room.fits,
      w.ends,
      ap length w.front ∙ length-append (take at out) t,
      length-take end out',
      length-take at out,
      ap length w.rest,
      length-drop end out',
      length-drop end out,
    )

-- What stood before, the bytes, and what stood past them.
wrote_all : {out t out' : List ℕ} {at end : ℕ} → Wrote out at t out' end → out' ≡ (take at out ++ t) ++ drop (at + length t) out
wrote_all {out} {t} {out'} {at} {end} w =
    sym (take-append-drop end out')
    ∙ ap (λ xs. xs ++ drop end out') w.front
    ∙ ap (λ xs. (take at out ++ t) ++ xs) (w.rest ∙ ap (λ n. drop n out) w.ends)

pub wrote_from_start : {out t out' : List ℕ} {end : ℕ} → Wrote out 0 t out' end → out' ≡ t ++ drop (length t) out
wrote_from_start {out} {t} w = wrote_all w ∙ ap (λ n. t ++ drop n out) (zero-add (length t))

-- Two exits of the buffer, and two ends, that such a contract allows are one.
pub wrote_settled : {out t a b : List ℕ} {at e f : ℕ} → Wrote out at t a e → Wrote out at t b f → (a ≡ b) × (e ≡ f)
wrote_settled one other = (wrote_all one ∙ sym (wrote_all other), one.ends ∙ sym other.ends)
