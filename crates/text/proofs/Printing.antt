-- The two ways that printing ends: the buffer is too small and keeps its content, or the text is written over its front.
use Rattle.std.specs.Prelude.{ℕ, ◌<◌, refl, Bool, List, ◌++◌, take, drop, leb, Result, Ok, Err}
use Rattle.std.proofs.Math.Path.{◌≡◌}
use Rattle.std.proofs.Common.{sym, ap, subst, ◌∙◌, arith, length-append, length-drop}
use Rattle.std.proofs.Math.Bool.{true, false, cond}
use Rattle.std.proofs.Math.ListN.{length}
use borrow.Author.Tests.{le-leb, lt-leb, leb-true}
use Rattle.text.specs.declared.TooSmall.{TooSmall}
use Rattle.decimals.specs.Wrote.{Room, Wrote, wrote_from_start}
use Rattle.text.specs.Printed.{printed, after, PrintedAs, FitsIn}

module _ (t out : List ℕ) where
  pub printed_nothing : {n : ℕ} → n ≡ length t → length out < n → PrintedAs t out out (Err (record { needed = n }))
  unfolding printed after
  printed_nothing {n} long small =
      let short = lt-leb (length t) (length out) (omega arith) in
      record { answer_is = rw short (ap (λ m. Err (record { needed = m })) long); after_is = rw short }

  pub printed_whole : {out' : List ℕ} {end : ℕ} → Room out 0 t → Wrote out 0 t out' end → PrintedAs t out out' (Ok end)
  unfolding printed after
  printed_whole {out'} {end} room wrote =
      let fits = le-leb (length t) (length out) (omega (arith, room.fits)) in
      let long : end ≡ length t = omega (arith, wrote.ends) in
      record { answer_is = rw fits (ap Ok long); after_is = rw fits (wrote_from_start wrote) }

-- A text that stands written over the front of another buffer is printed from there.
module _ {whole whole' t : List ℕ} {n : ℕ} (wrote : Wrote whole 0 t whole' n) where
  pub front_length : n ≡ length (take n whole')
  front_length = rw wrote.front (omega (arith, wrote.ends))

  pub front_printed : {out out' : List ℕ} {r : Result ℕ TooSmall} → PrintedAs (take n whole') out out' r → PrintedAs t out out' r
  front_printed = rw wrote.front (λ printed. printed)

-- Either answer tells how long the text is.
abbrev pub told_length : Result ℕ TooSmall → ℕ
told_length (Ok n) = n
told_length (Err small) = small.needed

pub printed_tells : (t : List ℕ) (room : ℕ) → told_length (printed t room) ≡ length t
unfolding printed
printed_tells t room = elim (leb (length t) room) as (λ b. told_length (cond b (Ok (length t)) (Err (record { needed = length t }))) ≡ length t) [ true ↦ refl | false ↦ refl ]

module _ (t : List ℕ) (room : ℕ) {n : ℕ} where
  pub whole_printed : Ok n ≡ printed t room → n ≡ length t
  whole_printed e = ap told_length e ∙ printed_tells t room

  pub too_small_printed : Err (record { needed = n }) ≡ printed t room → n ≡ length t
  too_small_printed e = ap told_length e ∙ printed_tells t room

-- Printing keeps the buffer's length.
length_after : (t out : List ℕ) → length (after t out) ≡ length out
unfolding after
length_after t out = go (leb (length t) (length out)) refl
  where
    go : (b : Bool) → leb (length t) (length out) ≡ b → length (cond b (t ++ drop (length t) out) out) ≡ length out
    go true fits =
        omega (arith, leb-true (length t) (length out) fits, length-append t (drop (length t) out), length-drop (length t) out)
    go false fits = refl

-- What is printed whole lies inside the buffer as it is then.
pub printed_fits : {t out out' : List ℕ} {r : Result ℕ TooSmall} → PrintedAs t out out' r → FitsIn (length out') r
unfolding printed
printed_fits {t} {out} {out'} p =
    subst (FitsIn (length out')) (sym p.answer_is)
    (subst (λ room. FitsIn room (printed t (length out))) (sym (ap length p.after_is ∙ length_after t out)) (go (leb (length t) (length out)) refl))
  where
    go : (b : Bool) → leb (length t) (length out) ≡ b → FitsIn (length out) (cond b (Ok (length t)) (Err (record { needed = length t })))
    go true fits = leb-true (length t) (length out) fits
    go false fits = tt
