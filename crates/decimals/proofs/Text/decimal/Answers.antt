-- At each turn the last digit of `front` is stored, and at the end the only one.
use Rattle.std.proofs.Common.{◌≡◌, ◌+◌, ◌-◌, ◌++◌, List, ℕ, length, drop, set, take, ap, ◌∙◌, sym, append-nil, arith, rules}
use Rattle.std.proofs.Math.ListN.{length-set}
use Rattle.decimals.specs.Decimals.{decimal_digit, length_longer, decimal_length}
use Rattle.decimals.proofs.Digits.{digit_more, digits_all}
use Rattle.rules.specs.Text.{decimal}
use Rattle.decimals.proofs.Text.decimal.Goals as goal

stored : (g : _) (c : goal.After-push_all-arg-2-1 g) →
    let place = c.loop-front.place - 1 in
    take (20 - place) (drop place (set c.loop-front.digits place (48 + c.loop-front.front))) ≡ decimal c.args.x
stored g c =
    let kept = c.loop-front.invariant in
    let room = ap length (decimal_digit c.loop-front.front (omega arith)) in
    rw kept.wide at (digits_all c.args.x _ _ _ kept.parts (omega arith) kept.within (omega arith))

pub loop-front-init : goal.loop-front-init
loop-front-init g c =
    record { parts = sym (append-nil _); room = decimal_length 19 c.args.x (omega arith); within = omega arith; wide = search rules }

pub overflow_sub-place : goal.overflow_sub-place
overflow_sub-place g c = omega (arith, length_longer c.loop-front.front (omega arith), c.loop-front.invariant.room)

pub loop-front-preserved : goal.loop-front-preserved
loop-front-preserved g c =
    let loop = c.loop-front in
    let longer = length_longer loop.front (omega arith) in
    record {
      parts = digit_more _ _ _ _ loop.invariant.parts (omega arith) loop.invariant.within (omega arith);
      room = omega arith;
      within = omega (arith, length-set {A = ℕ});
      wide = length-set loop.digits _ _ ∙ loop.invariant.wide;
    }

pub overflow_sub-place-2 : goal.overflow_sub-place-2
overflow_sub-place-2 g c = omega (arith, ap length (decimal_digit c.loop-front.front (omega arith)), c.loop-front.invariant.room)

pub push_all-requires : goal.push_all-requires
push_all-requires g c = (search rules, rw (stored g c) c.requires)

pub returns : goal.returns
returns g c = c.push_all.ensures ∙ ap (λ (xs : List ℕ). c.args.self.now ++ xs) (stored g c.before)
