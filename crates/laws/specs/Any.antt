-- The laws of `any`, read off `Fold`: some number below the count passes the test, and then it is true.
use Rattle.std.specs.Prelude.{ℕ, zero, suc, ◌+◌, ◌<◌, ◌≡◌, Bool, true, false}
use Rattle.std.proofs.Math.Path.{refl}
use Rattle.std.proofs.Math.Bool.{◌||◌}
use Rattle.std.proofs.lemmas.Bool.{false≢true}
use Rattle.std.proofs.Common.{⊎_elim, arith}
use Rattle.rules.specs.Folds.{any}
use Rattle.laws.specs.Tests.{or_either, or_left, or_right}
use Rattle.laws.specs.Fold.{Joins, fold_next, fold_same, fold_keeps, fold_to_each}

any_joins : Joins ◌||◌ any
unfolding any
any_joins k f = refl

module _ (k : ℕ) (test : ℕ → Bool) where
  pub any_next : {x r : Bool} → x ≡ any k test → r ≡ (x || test k) → r ≡ any (k + 1) test
  any_next = fold_next ◌||◌ any any_joins k test

  pub any_same : (other : ℕ → Bool) → ((i : ℕ) → i < k → test i ≡ other i) → any k test ≡ any k other
  any_same other = fold_same ◌||◌ any any_joins k test other (unfold any in refl)

  pub any_holds : (i : ℕ) → i < k → test i ≡ true → any k test ≡ true
  any_holds =
      fold_to_each ◌||◌ any any_joins (λ b a. a ≡ true → b ≡ true) (λ b a. or_right b a) (λ b a c h e. or_left b c (h e)) k test

  pub any_fails : ((i : ℕ) → i < k → test i ≡ false) → any k test ≡ false
  unfolding any
  any_fails = fold_keeps ◌||◌ any any_joins (λ b. b ≡ false) (λ a. a ≡ false) k test refl (λ b a h g. rw (h, g))

pub any_attained : (k : ℕ) (test : ℕ → Bool) → any k test ≡ true → (i : ℕ) × (i < k) × (test i ≡ true)
unfolding any
any_attained zero test e = absurd (false≢true e)
any_attained (suc k) test e =
    ⊎_elim (λ h. let w = any_attained k test h in (w.0, omega arith, w.2)) (λ h. (k, omega arith, h))
    (or_either (any k test) (test k) e)
