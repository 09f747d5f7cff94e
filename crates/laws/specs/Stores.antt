-- An array after a store, at every index; and one that holds one value throughout.
use Rattle.std.specs.Prelude.{ℕ, zero, suc, ◌+◌, ◌<◌, ◌≡◌, refl, List, cond, eqb, get_or, set, length, replicate}
use Rattle.std.proofs.Common.{sym, ap, ◌∙◌, arith, get_or-set_same, get_or-set_other, eq-eqb, ne_eqb, below_more}
use Rattle.std.proofs.Math.Decide.{ℕ_discrete}

-- An array of numbers as a function, which is 0 past its end.
abbrev pub at : List ℕ → ℕ → ℕ
at xs k = get_or xs k 0

pub stored {ℓ} : {A : Type ℓ} (xs : List A) (i : ℕ) (x d : A) (k : ℕ) → i < length xs → get_or (set xs i x) k d ≡ cond (eqb i k) x (get_or xs k d)
stored xs i x d k h = go (ℕ_discrete i k)
  where
    go : Dec (i ≡ k) → get_or (set xs i x) k d ≡ cond (eqb i k) x (get_or xs k d)
    go (yes e) = rw (eq-eqb i k e, ← e) (get_or-set_same xs i x d h)
    go (no n) = rw (ne_eqb i k n) (get_or-set_other xs i k x d (λ e. n (sym e)))

-- An array that holds f, after a store: it holds g, which is f with x at i.
pub stored_holds {ℓ} : {A : Type ℓ} (xs : List A) (f g : ℕ → A) (i : ℕ) (x d : A) → i < length xs
    → ((k : ℕ) → get_or xs k d ≡ f k) → ((k : ℕ) → cond (eqb i k) x (f k) ≡ g k) → (k : ℕ) → get_or (set xs i x) k d ≡ g k
stored_holds xs f g i x d l holds with_x k = stored xs i x d k l ∙ ap (cond (eqb i k) x) (holds k) ∙ with_x k

-- What holds of each value below i, and of the one that is stored at i, holds of each below i + 1.
pub stored_below {ℓ} : {A : Type ℓ} (P : ℕ → A → Type 0) (xs : List A) (i : ℕ) (x d : A) → i < length xs
    → ((k : ℕ) → k < i → P k (get_or xs k d)) → P i x → (k : ℕ) → k < i + 1 → P k (get_or (set xs i x) k d)
stored_below P xs i x d h below here =
    below_more (λ k. P k (get_or (set xs i x) k d)) i
    (λ k l. rw (get_or-set_other xs i k x d (λ e. omega arith)) (below k l))
    (rw (get_or-set_same xs i x d h) here)

pub repeated {ℓ} : {A : Type ℓ} (n : ℕ) (d : A) (k : ℕ) → get_or (replicate n d) k d ≡ d
repeated zero d k = refl
repeated (suc n) d zero = refl
repeated (suc n) d (suc k) = repeated n d k
