-- A list whose front is written over by a function's first k values, while what stands after them stays: its length, the value at each place, one value
-- more, and what is done to each value.
use Rattle.std.specs.Prelude.{ℕ, zero, suc, ◌+◌, ◌-◌, ◌≤◌, ◌<◌, ◌≡◌, refl, List, [], ◌∷◌, ◌++◌, map, length, drop, set, get_or}
use Rattle.std.proofs.Common.{sym, ap, ap₂, ◌∙◌, append_assoc, arith, add-one, length-append, length-drop, get_or-append-add, get_or-drop, ext_get_or}
use Rattle.std.proofs.lemmas.List.{map-append, set_at}
use Rattle.std.proofs.Math.Decide.{dec_lt}
use Rattle.std.proofs.Math.ListN.{get_or-append}
use Rattle.std.proofs.Math.Seq.{drop-cons}
use Rattle.rules.specs.Folds.{listing}
use Rattle.laws.specs.Listing.{listing_mapped, length_listing, getD_listing}

abbrev pub overwritten {ℓ} : {A : Type ℓ} → ℕ → (ℕ → A) → List A → List A
overwritten k f xs = listing k f ++ drop k xs

map_drop {ℓ κ} : {A : Type ℓ} {B : Type κ} (g : A → B) (k : ℕ) (xs : List A) → map g (drop k xs) ≡ drop k (map g xs)
map_drop g zero xs = refl
map_drop g (suc k) [] = refl
map_drop g (suc k) (x ∷ xs) = map_drop g k xs

module _ {ℓ} {A : Type ℓ} (k : ℕ) (f : ℕ → A) (xs : List A) where
  pub length_overwritten : k ≤ length xs → length (overwritten k f xs) ≡ length xs
  length_overwritten l =
      length-append (listing k f) (drop k xs) ∙ ap₂ ◌+◌ (length_listing f k) (length-drop k xs) ∙ omega arith

  pub overwritten_next : k < length xs → set (overwritten k f xs) k (f k) ≡ overwritten (k + 1) f xs
  unfolding listing
  overwritten_next l =
      rw (add-one, drop-cons xs k (f k), append_assoc) (set_at (listing k f) _ (drop (suc k) xs) (f k) k (length_listing f k))

  pub overwritten_more : {ys : List A} {x : A} → ys ≡ overwritten k f xs → x ≡ f k → k < length xs → set ys k x ≡ overwritten (k + 1) f xs
  overwritten_more so_far value l = rw (so_far, value) (overwritten_next l)

  pub overwritten_mapped {κ} : {B : Type κ} (g : A → B) → overwritten k (λ i. g (f i)) (map g xs) ≡ map g (overwritten k f xs)
  overwritten_mapped g = ap₂ ◌++◌ (listing_mapped k f g) (sym (map_drop g k xs)) ∙ sym (map-append g (listing k f) (drop k xs))

  pub overwritten_below : (d : A) (i : ℕ) → i < k → get_or (overwritten k f xs) i d ≡ f i
  overwritten_below d i l = get_or-append (listing k f) (drop k xs) d i (rw (length_listing f k) l) ∙ getD_listing f k d i l

  pub overwritten_behind : (d : A) (i : ℕ) → k ≤ i → get_or (overwritten k f xs) i d ≡ get_or xs i d
  overwritten_behind d i l = let e : k + (i - k) ≡ i = omega arith in rw e at (go (i - k))
    where
      go : (more : ℕ) → get_or (overwritten k f xs) (k + more) d ≡ get_or xs (k + more) d
      go more =
          ap (λ n. get_or (overwritten k f xs) (n + more) d) (sym (length_listing f k)) ∙ get_or-append-add (listing k f) (drop k xs) more d ∙ get_or-drop k xs more d

  -- A list that has these values at its front already.
  pub overwritten_as_it_is : (d : A) → k ≤ length xs → ((i : ℕ) → i < k → get_or xs i d ≡ f i) → xs ≡ overwritten k f xs
  overwritten_as_it_is d l front = ext_get_or d xs (overwritten k f xs) (sym (length_overwritten l)) (λ i m. go i (dec_lt i k))
    where
      go : (i : ℕ) → Dec (i < k) → get_or xs i d ≡ get_or (overwritten k f xs) i d
      go i (yes b) = front i b ∙ sym (overwritten_below d i b)
      go i (no b) = sym (overwritten_behind d i (omega arith))
