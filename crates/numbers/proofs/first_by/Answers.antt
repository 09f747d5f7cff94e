-- Of the numbers passed the first in the order is kept.
use Rattle.std.specs.Prelude.{ℕ, ◌<◌, ◌≡◌, refl, Bool, cond}
use Rattle.std.proofs.Common.{arith, ap, ◌∙◌}
use Rattle.rules.specs.Orders.{first}
use Rattle.laws.specs.First.{first_next}
use Rattle.numbers.proofs.first_by.Goals as goal
use Rattle.numbers.proofs.first_by.Goals.{then-goes_before, else-goes_before}

-- What one turn takes, by what the test is.
taken : (i first : ℕ) {t test : Bool} {r : ℕ} → t ≡ test → r ≡ cond t i first → r ≡ cond test i first
taken i first same e = e ∙ ap (λ t. cond t i first) same

pub loop-i-init : goal.loop-i-init
unfolding first
loop-i-init g c = (omega arith, λ some. some, λ beats computes. refl)

pub goes_before-requires : goal.goes_before-requires
goes_before-requires g c = c.requires _ _ c.loop-i-test.true (omega (arith, c.loop-i.invariant.1))

pub loop-i-preserved : goal.loop-i-preserved
loop-i-preserved g c =
    let n = c.args.n in
    let i = c.loop-i.i in
    let before : c.loop-i.first < n = omega (arith, c.loop-i.invariant.1) in
    let test = c.goes_before.result in
    let r : c.if-goes_before.first ≡ cond test i c.loop-i.first =
    elim c.if-goes_before.branch [
      | then-goes_before w ↦ rw w.if-goes_before.true w.first-is
      | else-goes_before w ↦ rw w.if-goes_before.false w.first-is
    ] in (
      elim c.if-goes_before.branch [ then-goes_before w ↦ omega arith | else-goes_before w ↦ omega arith ],
      elim c.if-goes_before.branch [ then-goes_before w ↦ λ some. omega arith | else-goes_before w ↦ λ some. omega arith ],
      λ beats computes. first_next i beats (c.loop-i.invariant.2 beats computes)
          (taken i c.loop-i.first (computes _ _ c.loop-i-test.true before test c.goes_before.ensures) r),
    )

pub returns : goal.returns
returns g c =
    let passed : c.loop-i.i ≡ c.args.n = omega arith in
    record { below = c.loop-i.invariant.1; settled = rw passed at c.loop-i.invariant.2 }
