-- There is room for the rest of the line at each turn.
use Rattle.std.proofs.Common.{ℕ, ◌≡◌, [], length, drop, ap, ◌∙◌, arith, rules, length-append}
use Rattle.std.proofs.lemmas.List.{drop_more, drop_all}
use Rattle.decimals.specs.Lines.{spaced, line_spaced, room_spaced}
use Rattle.decimals.proofs.Text.line.Goals as goal

pub push_all-requires : goal.push_all-requires
push_all-requires g c =
    let a = c.args in
    (search rules, omega (arith, ap length (line_spaced a.opening.now a.numbers.now), length-append a.opening.now (spaced a.numbers.now)))

pub told-requires : goal.told-requires
told-requires g c =
    let loop = c.loop-x in
    let xs = c.args.numbers.now in
    let room = room_spaced loop.self _ _ xs loop.x-index _ loop.invariant c.requires in
    let next = ap length (ap spaced (drop_more xs loop.x-index 0 (omega arith))) in
    (search rules, omega (arith, length-append {A = ℕ}))

pub push-requires : goal.push-requires
push-requires g c =
    let loop = c.loop-x in
    let xs = c.args.numbers.now in
    let none : drop loop.x-index xs ≡ [] = drop_all loop.x-index xs (omega arith) in
    let room = rw none at (room_spaced loop.self _ _ xs loop.x-index _ loop.invariant c.requires) in
    (search rules, omega arith)

pub returns : goal.returns
returns g c =
    let a = c.args in
    let loop = c.loop-x in
    let xs = a.numbers.now in
    let none : drop loop.x-index xs ≡ [] = drop_all loop.x-index xs (omega arith) in
    rw (line_spaced a.opening.now xs) (c.push.ensures ∙ rw none at loop.invariant)
