-- The lowest task whose row is met: 0 where none of those passed is; and the first that is found.
use Rattle.std.proofs.Common.{◌≡◌, refl, sym, ℕ, zero, suc, ◌+◌, ◌<◌, Bool, true, false, arith, add-one, add-zero}
use Rattle.std.specs.Prelude.{cond, not, ◌&&◌}
use Rattle.rules.specs.Orders.{first}
use Rattle.rules.specs.Why.{meets_row, lowest_met}
use Rattle.reasons.specs.MetLaws.{lowest_met_next}

module _ (sits begins ends : ℕ → ℕ) (minutes i t : ℕ) where
  abbrev test : ℕ → Bool
  test = meets_row sits begins ends minutes i t

  abbrev lowest : ℕ → ℕ
  lowest k = lowest_met k sits begins ends minutes i t

  pub none_met : (k : ℕ) → ((j : ℕ) → j < k → test j ≡ false) → lowest k ≡ 0
  unfolding lowest_met first
  none_met zero none = refl
  none_met (suc k) none =
      let here = none k (omega arith) in
      let before : lowest k ≡ 0 = none_met k (λ j h. none j (omega arith)) in
      let turn : 0 ≡ cond (test k && not (test 0)) k 0 = rw here in
      let next : 0 ≡ lowest (k + 1) = lowest_met_next sits begins ends minutes i t k {x = 0} (sym before) turn in
      rw add-one at (sym next)

  -- Task k is met, and none below it.
  module _ (k : ℕ) (none : (j : ℕ) → j < k → test j ≡ false) (met : test k ≡ true) where
    found_next : lowest (k + 1) ≡ k
    found_next = sym (lowest_met_next sits begins ends minutes i t k {x = 0} (sym (none_met k none)) (go k none met))
      where
        go : (m : ℕ) → ((j : ℕ) → j < m → test j ≡ false) → test m ≡ true → m ≡ cond (test m && not (test 0)) m 0
        go zero none met = rw met
        go (suc m) none met = rw (met, none 0 (omega arith))

    pub lowest_found : (more : ℕ) → lowest (k + 1 + more) ≡ k
    lowest_found zero = rw add-zero found_next
    lowest_found (suc more) =
        let n : ℕ = k + 1 + more in
        let turn : k ≡ cond (test n && not (test k)) n k = rw met (go (test n)) in
        let next = lowest_met_next sits begins ends minutes i t n {x = k} (sym (lowest_found more)) turn in
        let same : k + 1 + suc more ≡ n + 1 = omega arith in
        rw same (sym next)
      where
        go : (b : Bool) → k ≡ cond (b && false) (k + 1 + more) k
        go true = refl
        go false = refl
