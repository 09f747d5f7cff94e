-- Bytes written over a buffer from the last to the first.
use Rattle.std.specs.Prelude.{ℕ, ◌+◌, ◌≤◌, ◌≡◌, List, [], ◌∷◌, ◌++◌, length, set}
use Rattle.std.proofs.Common.{sym, ap, ◌∙◌, append_assoc, append-nil, arith, length-append}
use Rattle.decimals.specs.Wrote.{Room, Wrote, wrote_length}
use Rattle.decimals.specs.Lent.{wrote_nothing, wrote_before}

-- Of the bytes to write from `at` on, those past `front` are written, from `place` on.
pub record WroteLast (out : List ℕ) (at : ℕ) (bytes front out' : List ℕ) (place end : ℕ) : Type 0 where
  pub last : List ℕ
  pub parts : bytes ≡ front ++ last
  pub starts : place ≡ at + length front
  pub wrote : Wrote out place last out' end

pub wrote_last_none : (out : List ℕ) (at : ℕ) (bytes : List ℕ) {end : ℕ} → end ≡ at + length bytes → WroteLast out at bytes bytes out end end
wrote_last_none out at bytes {end} e = record { last = []; parts = sym (append-nil bytes); starts = e; wrote = wrote_nothing out end }

module _ {out bytes front out' : List ℕ} {at place end : ℕ} (room : Room out at bytes) where
  pub wrote_last_fits : WroteLast out at bytes front out' place end → (place ≤ length out) × (length out' ≡ length out)
  wrote_last_fits w =
      let fits : place + length w.last ≤ length out = omega (arith, ap length w.parts, length-append front w.last) in
      (omega arith, wrote_length (record { fits = fits }) w.wrote)

  -- The last byte of the front is written too.
  pub wrote_last_more :
      {less : List ℕ} {before : ℕ} (b : ℕ) → front ≡ less ++ (b ∷ []) → place ≡ before + 1 → WroteLast out at bytes front out' place end
      → WroteLast out at bytes less (set out' before b) before end
  wrote_last_more {less} {before} b longer e w =
      record {
        last = b ∷ w.last;
        parts = w.parts ∙ ap (λ xs. xs ++ w.last) longer ∙ append_assoc less (b ∷ []) w.last;
        starts = omega (arith, ap length longer, length-append less (b ∷ []));
        wrote = wrote_before out before b (record { fits = omega (arith, (wrote_last_fits w).0) }) (rw e at w.wrote);
      }

pub wrote_last_all : {out bytes out' : List ℕ} {at place end : ℕ} → WroteLast out at bytes [] out' place end → Wrote out at bytes out' end
wrote_last_all {at = at} {place = place} w = let first : place ≡ at = omega arith in rw w.parts (rw first at w.wrote)
