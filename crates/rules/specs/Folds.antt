-- "Sum over", "largest over", "lowest": over the numbers below a count, in one form.
use Rattle.std.specs.Prelude.{ℕ, zero, suc, ◌+◌, max, min, Bool, false, ◌||◌, List, [], ◌∷◌, ◌++◌}

-- f 0 + .. + f (k - 1)
unfoldable pub sum : ℕ → (ℕ → ℕ) → ℕ
sum zero f = 0
sum (suc k) f = sum k f + f k

-- The largest of f 0 .. f (k - 1); 0 where there is none.
unfoldable pub largest : ℕ → (ℕ → ℕ) → ℕ
largest zero f = 0
largest (suc k) f = max (largest k f) (f k)

-- The lowest of f 0 .. f (k - 1), for k at least 1.
unfoldable pub lowest : ℕ → (ℕ → ℕ) → ℕ
lowest zero f = f 0
lowest (suc k) f = min (lowest k f) (f k)

-- Some number below k passes the test.
unfoldable pub any : ℕ → (ℕ → Bool) → Bool
any zero test = false
any (suc k) test = any k test || test k

-- f 0, .., f (k - 1)
unfoldable pub listing {ℓ} : {A : Type ℓ} → ℕ → (ℕ → A) → List A
listing zero f = []
listing (suc k) f = listing k f ++ (f k ∷ [])
