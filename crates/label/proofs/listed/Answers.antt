-- `label::listed` meets its contract: `found` tells whether `b` is one of the bytes of the list before the `i`-th.
use mathlib.Core.Path.{◌≡◌, refl, sym}
use Prim.Native.Nat.{ℕ, zero, suc, ◌+◌, ◌<◌, zero-le, suc-le-suc}
use native.Mathlib.Nat.{le_of_suc-le-suc}
use native.Mathlib.Omega.{arith}
use mathlib.Core.Bool.{Bool, true, false, ◌||◌, true≢false, false≢true}
use mathlib.Core.List.Memᴰ
use mathlib.Core.List.{List, [], ◌∷◌, Memᴰ}
use lib.ListN.{length, get_or}
use lib.Dec.{eqb}
use borrow.Author.Tests.{eqb-true, eqb-false}
use borrow.Author.Count.{below_more}
use Rattle.label.specs.Label.{the_list}
use Rattle.label.proofs.listed.Invariants.{Told}
use Rattle.label.proofs.listed.Goals as goal

member_at : (xs : List ℕ) (i : ℕ) → i < length xs → Memᴰ (get_or xs i 0) xs
member_at [] i h = absurd (omega arith)
member_at (x ∷ xs) zero h = Memᴰ.head refl
member_at (x ∷ xs) (suc i) h = Memᴰ.tail (member_at xs i (le_of_suc-le-suc h))

place_of : {b : ℕ} {xs : List ℕ} → Memᴰ b xs → (i : ℕ) × (i < length xs) × (get_or xs i 0 ≡ b)
place_of (Memᴰ.head e) = (0, suc-le-suc zero-le, sym e)
place_of (Memᴰ.tail m) = let (i, h, e) = place_of m in (suc i, suc-le-suc h, e)

told_more : {b : ℕ} (i : ℕ) (t u : Bool) → i < 64 → eqb (get_or the_list i 0) b ≡ u → Told b i t → Told b (i + 1) (t || u)
told_more i true u h e told =
    record { within = omega arith; passes = told.passes; fails = λ none. absurd (true≢false none) }
told_more {b} i false true h e told =
    record {
      within = omega arith;
      passes = λ _. Memᴰ.cast (sym (eqb-true _ b e)) (member_at the_list i (omega arith));
      fails = λ none. absurd (true≢false none);
    }
told_more {b} i false false h e told =
    record {
      within = omega arith;
      passes = told.passes;
      fails = λ none. below_more _ _ (told.fails none) (eqb-false _ b e);
    }

pub loop-i-init : goal.loop-i-init
loop-i-init c =
    record { within = omega arith; passes = λ e. absurd (false≢true e); fails = λ none k h. absurd (omega arith) }

pub loop-i-preserved : goal.loop-i-preserved
loop-i-preserved c = told_more c.loop-i.i c.loop-i.found _ c.loop-i-test.true refl c.loop-i.invariant

pub returns : goal.returns
returns c =
    let told = c.loop-i.invariant in
    record {
      passes = told.passes;
      fails = λ none m. let (i, h, same) = place_of m in told.fails none i (omega arith) same;
    }
