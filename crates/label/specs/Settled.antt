-- A field has at most one label's length, and each answer of the check is settled by its contract.
use Rattle.std.specs.Prelude.{◌≡◌, refl, ℕ, ◌<◌, Bool, true, false, ◌⊎◌, List}
use Rattle.std.proofs.Common.{eq-zero-or-pos, arith, inl, inr}
use Rattle.label.specs.Label.{Label, ListedTold, LabelLength, LabelTold}
use Rattle.label.specs.ListLaws.{space_not_listed}

-- Where a shorter label ends a space stands, and a longer one has a byte of the list there.
not_shorter : {s : List ℕ} {at k l : ℕ} → Label s at k → Label s at l → k < l → ⊥
not_shorter {k} short long less =
    space_not_listed (rw (short.then_spaces k (omega arith) (omega arith)) at (long.of_the_list k less))

-- A field is a label of one length.
pub label_unique : {s : List ℕ} {at k l : ℕ} → Label s at k → Label s at l → k ≡ l
label_unique one other = omega (arith, not_shorter one other, not_shorter other one)

-- The length is settled.
pub length_settled : {s : List ℕ} {at r q : ℕ} → LabelLength s at r → LabelLength s at q → r ≡ q
length_settled {r} {q} one other = go (eq-zero-or-pos r) (eq-zero-or-pos q)
  where
    go : (r ≡ 0) ⊎ (0 < r) → (q ≡ 0) ⊎ (0 < q) → r ≡ q
    go (inl none) (inl none') = omega arith
    go (inl none) (inr some) = absurd (one.none none q (other.label some))
    go (inr some) (inl none) = absurd (other.none none r (one.label some))
    go (inr some) (inr some') = label_unique (one.label some) (other.label some')

-- Two answers that tell whether P holds are the same.
told_settled : {P : Type 0} (r q : Bool) → (r ≡ true → P) → (r ≡ false → P → ⊥) → (q ≡ true → P) → (q ≡ false → P → ⊥) → r ≡ q
told_settled true true passes fails passes' fails' = refl
told_settled true false passes fails passes' fails' = absurd (fails' refl (passes refl))
told_settled false true passes fails passes' fails' = absurd (fails refl (passes' refl))
told_settled false false passes fails passes' fails' = refl

-- Whether a byte is listed is settled.
pub listed_told_settled : {b : ℕ} {r q : Bool} → ListedTold b r → ListedTold b q → r ≡ q
listed_told_settled {r} {q} one other = told_settled r q one.passes one.fails other.passes other.fails

-- Whether a label stands in a field is settled.
pub label_told_settled : {s : List ℕ} {at : ℕ} {r q : Bool} → LabelTold s at r → LabelTold s at q → r ≡ q
label_told_settled {r} {q} one other =
    told_settled r q one.passes (λ e l. one.fails e l.0 l.1) other.passes (λ e l. other.fails e l.0 l.1)
