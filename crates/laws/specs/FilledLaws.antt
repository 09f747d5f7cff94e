-- The laws of an array that is filled one index after the other, and that what it holds settles it.
use Rattle.std.specs.Prelude.{ℕ, ◌+◌, ◌≤◌, ◌<◌, ◌≡◌, refl, List, set, replicate}
use Rattle.std.proofs.Common.{sym, ◌∙◌, arith, length-set, get_or-set_other, ext_get_or}
use Rattle.std.proofs.Math.Decide.{dec_le}
use Rattle.laws.specs.Stores.{stored_below, repeated, at}
use Rattle.laws.specs.Filled.{AtMost, Filled}

-- A store leaves what is past it.
pub stored_past : (xs : List ℕ) (i x k : ℕ) → i + 1 ≤ k → at (set xs i x) k ≡ at xs k
stored_past xs i x k l = get_or-set_other xs i k x 0 (λ e. omega arith)

pub filled_none : (f : ℕ → ℕ) → Filled 0 f (replicate 16 0)
filled_none f = record { size = refl; below = λ j l. absurd (omega arith); past = λ j l. repeated 16 0 j }

pub filled_more : {m x : ℕ} {f : ℕ → ℕ} {xs : List ℕ} → Filled m f xs → m < 16 → x ≡ f m → Filled (m + 1) f (set xs m x)
filled_more {m} {x} {f} {xs} so_far l e =
    record {
      size = length-set xs m x ∙ so_far.size;
      below = stored_below (λ j y. y ≡ f j) xs m x 0 (omega (arith, so_far.size)) so_far.below e;
      past = λ j b. stored_past xs m x j b ∙ so_far.past j (omega arith);
    }

-- A bound of the function is one of the array.
pub filled_at_most : {m : ℕ} {f : ℕ → ℕ} {xs : List ℕ} → Filled m f xs → (b : ℕ) → ((j : ℕ) → f j ≤ b) → AtMost b xs
filled_at_most {m} {f} {xs} all b most j = go (dec_le m j)
  where
    go : Dec (m ≤ j) → at xs j ≤ b
    go (yes l) = omega (arith, all.past j l)
    go (no n) = omega (arith, all.below j (omega arith), most j)

-- Two arrays that hold the first m values of one function are one array.
pub filled_settled : {m : ℕ} {f : ℕ → ℕ} (xs ys : List ℕ) → Filled m f xs → Filled m f ys → xs ≡ ys
filled_settled {m} {f} xs ys one other = ext_get_or 0 xs ys (one.size ∙ sym other.size) (λ j l. same j (dec_le m j))
  where
    same : (j : ℕ) → Dec (m ≤ j) → at xs j ≡ at ys j
    same j (yes l) = one.past j l ∙ sym (other.past j l)
    same j (no l) = one.below j (omega arith) ∙ sym (other.below j (omega arith))
