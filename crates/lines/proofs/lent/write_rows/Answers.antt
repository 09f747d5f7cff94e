-- After i turns the lines of the first i tasks are written; the next one finds room.
use Rattle.std.proofs.Common.{◌≡◌, add-one, arith}
use Rattle.rules.specs.Labels.{label}
use Rattle.rules.specs.Text.{lines}
use Rattle.good.specs.ReadIsGood.{read_is_good}
use Rattle.lookup.specs.Parts.{part_inside, part_slice}
use Rattle.decimals.specs.Lent.{wrote_nothing, wrote_then}
use Rattle.lines.specs.Lines.{column_line, room_line}
use Rattle.lines.specs.Longest.{label_at_most}
use Rattle.lines.proofs.lent.write_rows.Goals as goal

pub loop-i-init : goal.loop-i-init
unfolding lines
loop-i-init c = (omega (arith, c.requires.n_le_tasks, (read_is_good _ c.args.r.now.good).tasks_in.to_high), wrote_nothing _ _)

pub overflow_add-after : goal.overflow_add-after
overflow_add-after c = omega (arith, part_inside c.args.r.now.bytes.now _ c.label-name.result c.label-name.ensures)

pub slice_bounds-write_row-end : goal.slice_bounds-write_row-end
slice_bounds-write_row-end c = omega (arith, part_inside c.args.r.now.bytes.now _ c.label-name.result c.label-name.ensures)

pub write_row-end-requires-clause-short : goal.write_row-end-requires-clause-short
unfolding label
write_row-end-requires-clause-short c =
    let a = c.args in
    let name = part_slice a.r.now.bytes.now _ c.label-name.result c.label-name.ensures in
    rw name (label_at_most a.r.now.bytes.now c.loop-i.i a.r.now.good (omega (arith, c.requires.n_le_tasks)))

pub write_row-end-requires-clause-room : goal.write_row-end-requires-clause-room
unfolding column_line label
write_row-end-requires-clause-room c =
    let a = c.args in
    let loop = c.loop-i in
    let name = part_slice a.r.now.bytes.now _ c.label-name.result c.label-name.ensures in
    rw name (room_line _ a.n c.requires.room loop.i (omega arith) loop.invariant.1)

pub loop-i-preserved : goal.loop-i-preserved
unfolding lines column_line label
loop-i-preserved c =
    let a = c.args in
    let loop = c.loop-i in
    let name = part_slice a.r.now.bytes.now _ c.label-name.result c.label-name.ensures in
    (loop.invariant.0, rw (add-one loop.i) (wrote_then loop.invariant.1 (rw name at c.write_row-end.ensures)))

pub returns : goal.returns
returns c =
    let all : c.loop-i.i ≡ c.args.n = omega arith in
    rw (← all) c.loop-i.invariant.1
