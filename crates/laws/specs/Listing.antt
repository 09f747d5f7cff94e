-- The laws of `listing`, read off `Fold`: its length, the value at each place, and what is done to each value.
use Prim.Native.Nat.{ℕ, zero, suc, ◌+◌, ◌<◌}
use Rattle.std.specs.Prelude.{◌≡◌, length, take}
use Rattle.std.proofs.Math.Path.{refl, sym, ap}
use Rattle.std.proofs.Common.{◌∙◌, take_at}
use mathlib.Core.List.Memᴰ
use mathlib.Core.List.{List, [], ◌∷◌, ◌++◌, map, map-append, Memᴰ}
use Rattle.std.proofs.Math.Logic.{⊎_elim}
use native.Mathlib.Omega.{arith}
use Rattle.std.proofs.Math.Numerals.{add-one}
use Rattle.std.proofs.Math.ListN.{get_or, length-append, get_or-append}
use Rattle.std.proofs.lemmas.List.{get_or_at}
use Rattle.rules.specs.Folds.{listing}
use Rattle.laws.specs.Numbers.{below_next}
use Rattle.laws.specs.Fold.{Joins, fold_next, fold_same, fold_mapped}

abbrev pub with_last {ℓ} : {A : Type ℓ} → List A → A → List A
with_last xs x = xs ++ (x ∷ [])

listing_joins {ℓ} : {A : Type ℓ} → Joins {A = A} with_last listing
unfolding listing
listing_joins k f = refl

module _ {ℓ} {A : Type ℓ} (k : ℕ) (f : ℕ → A) where
  pub listing_next : {x r : List A} → x ≡ listing k f → r ≡ with_last x (f k) → r ≡ listing (k + 1) f
  listing_next = fold_next with_last listing listing_joins k f

  pub listing_same : (g : ℕ → A) → ((i : ℕ) → i < k → f i ≡ g i) → listing k f ≡ listing k g
  listing_same g = fold_same with_last listing listing_joins k f g (unfold listing in refl)

  pub listing_mapped {κ} : {B : Type κ} (g : A → B) → listing k (λ i. g (f i)) ≡ map g (listing k f)
  unfolding listing
  listing_mapped g =
      fold_mapped with_last listing listing_joins with_last listing listing_joins g (map g) (λ xs x. sym (map-append g xs (x ∷ []))) k f refl

module _ {ℓ} {A : Type ℓ} (f : ℕ → A) where
  pub length_listing : (k : ℕ) → length (listing k f) ≡ k
  unfolding listing
  length_listing zero = refl
  length_listing (suc k) = length-append (listing k f) (f k ∷ []) ∙ ap (λ n. n + 1) (length_listing k) ∙ add-one k

  pub take_listing : (k : ℕ) (more : List A) → take k (listing k f ++ more) ≡ listing k f
  take_listing k more = take_at (listing k f) more k (length_listing k)

  pub getD_listing : (k : ℕ) (d : A) (i : ℕ) → i < k → get_or (listing k f) i d ≡ f i
  unfolding listing
  getD_listing zero d i l = absurd (omega arith)
  getD_listing (suc k) d i l =
      below_next (λ n. get_or (with_last (listing k f) (f k)) n d ≡ f n) k (get_or_at (listing k f) (f k) [] d k (length_listing k))
      (λ n m. get_or-append (listing k f) (f k ∷ []) d n (rw (length_listing k) m) ∙ getD_listing k d n m)
      i l

  -- Each value stands in it, and nothing else does.
  pub stands_in_listing : (k i : ℕ) → i < k → Memᴰ (f i) (listing k f)
  unfolding listing
  stands_in_listing zero i l = absurd (omega arith)
  stands_in_listing (suc k) i l =
      below_next (λ n. Memᴰ (f n) (with_last (listing k f) (f k))) k (Memᴰ.append_right (listing k f) (Memᴰ.head refl))
      (λ n m. Memᴰ.append_left (f k ∷ []) (stands_in_listing k n m))
      i l

  pub in_listing : (k : ℕ) {x : A} → Memᴰ x (listing k f) → (i : ℕ) × (i < k) × (x ≡ f i)
  unfolding listing
  in_listing zero m = absurd (Memᴰ.not-nil m)
  in_listing (suc k) m =
      ⊎_elim (λ h. let (i, l, e) = in_listing k h in (i, omega arith, e)) (λ h. (k, omega arith, Memᴰ.eq_of_singleton h))
      (Memᴰ.append_cases (listing k f) m)
