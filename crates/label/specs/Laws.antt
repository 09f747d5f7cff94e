-- Laws of the computed length: `is_label` decides `Label`, and `label_length` is the length that `LabelLength` speaks of.
use Rattle.std.specs.Prelude.{◌≡◌, refl, ℕ, zero, suc, ◌+◌, ◌<◌, ◌≤◌, Bool, true, false, cond, ◌||◌, ◌↔◌, List, get_or, leb, ltb, eqb}
use Rattle.std.proofs.Common.{sym, ◌∙◌, eq-or-lt_of_le, le_of_suc-le-suc, eq-zero-or-pos, arith, true≢false, ⊎_elim, leb-true, leb-false, le-leb, eqb-true, eq-eqb, le-ltb, ltb-false}
use Rattle.std.proofs.Math.Bool.{and-eq-true_iff}
use Rattle.label.specs.Label.{Label, LabelLength, LabelTold}
use Rattle.label.specs.Length.{all, is_label, length_up_to, label_length}
use Rattle.label.specs.ListLaws.{stands_in_iff_listed}
use Rattle.label.specs.Settled.{length_settled, label_told_settled}

each_of_all : (k : ℕ) (p : ℕ → Bool) → all k p ≡ true → (j : ℕ) → j < k → p j ≡ true
unfolding all
each_of_all zero p e j h = absurd (omega arith)
each_of_all (suc k) p e j h =
    let (below, here) = (and-eq-true_iff (all k p) (p k)).0 e in
    ⊎_elim (λ same. rw same here) (λ less. each_of_all k p below j less) (eq-or-lt_of_le (le_of_suc-le-suc h))

all_of_each : (k : ℕ) (p : ℕ → Bool) → ((j : ℕ) → j < k → p j ≡ true) → all k p ≡ true
unfolding all
all_of_each zero p h = refl
all_of_each (suc k) p h =
    (and-eq-true_iff (all k p) (p k)).1 (all_of_each k p (λ j less. h j (omega arith)), h k (omega arith))

label_of_is_label : (s : List ℕ) (at len : ℕ) → is_label s at len ≡ true → Label s at len
unfolding is_label
label_of_is_label s at len e =
    let t = simp and-eq-true_iff at e in
    record {
      whole = leb-true _ _ t.0;
      one_or_more = leb-true _ _ t.1.0;
      eight_or_fewer = leb-true _ _ t.1.1.0;
      of_the_list = λ k h. (stands_in_iff_listed _).0 (each_of_all _ _ t.1.1.1.0 k h);
      then_spaces = λ k h h'. eqb-true _ _ (rw (le-ltb k len h) at (each_of_all _ _ t.1.1.1.1 k h'));
    }

is_label_of_label : (s : List ℕ) (at len : ℕ) → Label s at len → is_label s at len ≡ true
unfolding is_label
is_label_of_label s at len l =
    simp and-eq-true_iff (
      le-leb _ _ l.whole,
      (
        le-leb _ _ l.one_or_more,
        (
          le-leb _ _ l.eight_or_fewer,
          (all_of_each _ _ (λ k h. (stands_in_iff_listed _).1 (l.of_the_list k h)), all_of_each _ _ (λ k h. past k h (ltb k len) refl)),
        ),
      ),
    )
  where
    past : (k : ℕ) → k < 8 → (t : Bool) → ltb k len ≡ t → (t || eqb (get_or s (at + k) 0) 32) ≡ true
    past k h true within = refl
    past k h false beyond = eq-eqb _ _ (l.then_spaces k (ltb-false k len beyond) h)

-- The computed test tells whether a label of that length stands there.
pub is_label_iff_label : (s : List ℕ) (at len : ℕ) → (is_label s at len ≡ true) ↔ Label s at len
is_label_iff_label s at len = (label_of_is_label s at len, is_label_of_label s at len)

-- r is the length of a label of s at `at` where it is not 0, and where it is 0 no label there is of a length up to m.
abbrev UpTo : List ℕ → ℕ → ℕ → ℕ → Type 0
UpTo s at m r = (1 ≤ r → Label s at r) × (r ≡ 0 → (len : ℕ) → len ≤ m → Label s at len → ⊥)

length_up_to_is : (s : List ℕ) (at m : ℕ) → UpTo s at m (length_up_to s at m)
unfolding length_up_to
length_up_to_is s at zero = (λ h. absurd (omega arith), λ e len h l. omega arith)
length_up_to_is s at (suc k) = go (is_label s at (suc k)) refl (length_up_to_is s at k)
  where
    go : (t : Bool) → is_label s at (suc k) ≡ t → UpTo s at k (length_up_to s at k) → UpTo s at (suc k) (cond t (suc k) (length_up_to s at k))
    go true e less = (λ h. label_of_is_label s at (suc k) e, λ z len h l. omega arith)
    go false e less = (
      less.0,
      λ z len h l.
          let other : len ≡ suc k → ⊥ = λ same. true≢false (sym (is_label_of_label s at (suc k) (rw same at l)) ∙ e) in
          less.1 z len (omega arith) l,
    )

-- The computed length is the label's.
pub label_length_is_length : (s : List ℕ) (at : ℕ) → LabelLength s at (label_length s at)
unfolding label_length
label_length_is_length s at =
    let (label, none) = length_up_to_is s at 8 in
    record { label = label; none = λ e len l. none e len l.eight_or_fewer l }

-- Whatever is the label's length is the computed one.
pub length_is_label_length : {s : List ℕ} {at r : ℕ} → LabelLength s at r → r ≡ label_length s at
length_is_label_length {s} {at} found = length_settled found (label_length_is_length s at)

-- A label stands where the computed length is not 0.
pub label_of_label_length : (s : List ℕ) (at : ℕ) → 1 ≤ label_length s at → Label s at (label_length s at)
label_of_label_length s at = (label_length_is_length s at).label

-- The computed length is at most 8.
pub label_length_at_most_eight : (s : List ℕ) (at : ℕ) → label_length s at ≤ 8
label_length_at_most_eight s at =
    ⊎_elim (λ none. omega arith) (λ some. (label_of_label_length s at some).eight_or_fewer) (eq-zero-or-pos (label_length s at))

-- A label stands where its length is 1 or more.
pub told_by_length : {s : List ℕ} {at r : ℕ} → LabelLength s at r → LabelTold s at (leb 1 r)
told_by_length {r} found =
    record {
      passes = λ e. (r, found.label (leb-true 1 r e));
      fails = λ e. found.none (omega (arith, leb-false 1 r e));
    }

-- Whatever tells a label tells that the computed length is 1 or more.
pub told_is_one_or_more : {s : List ℕ} {at : ℕ} {r : Bool} → LabelTold s at r → r ≡ leb 1 (label_length s at)
told_is_one_or_more {s} {at} told = label_told_settled told (told_by_length (label_length_is_length s at))
