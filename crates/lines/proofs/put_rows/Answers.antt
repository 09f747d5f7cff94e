-- After i turns the lines of the first i tasks are appended.
use Rattle.std.proofs.Common.{ℕ, List, ◌++◌, length, ap, ◌∙◌, sym, append-nil, append_assoc, add-one, arith, rules, length-append}
use Rattle.rules.specs.Labels.{label}
use Rattle.rules.specs.Text.{lines, row_line}
use Rattle.good.specs.ReadIsGood.{read_is_good}
use Rattle.lookup.specs.Parts.{part_inside, part_slice}
use Rattle.lines.specs.Lines.{column_line, next_fits}
use Rattle.lines.proofs.put_rows.Goals as goal

pub loop-i-init : goal.loop-i-init
unfolding lines
loop-i-init g c = (omega (arith, c.requires.n_le_tasks, (read_is_good _ c.args.r.now.good).tasks_in.to_high), sym (append-nil _))

pub overflow_add-past : goal.overflow_add-past
overflow_add-past g c = omega (arith, part_inside c.args.r.now.bytes.now _ c.label-part.result c.label-part.ensures)

pub slice_bounds-line-end : goal.slice_bounds-line-end
slice_bounds-line-end g c = omega (arith, part_inside c.args.r.now.bytes.now _ c.label-part.result c.label-part.ensures)

pub line-requires : goal.line-requires
unfolding column_line row_line label
line-requires g c =
    let a = c.args in
    let loop = c.loop-i in
    let line_of = column_line a.r.now.bytes.now a.rows.now.processors a.rows.now.starts a.rows.now.finishes a.rows.now.costs in
    let name = part_slice a.r.now.bytes.now _ c.label-part.result c.label-part.ensures in
    let fits = next_fits line_of loop.i a.n (omega arith) in
    (search rules, rw name (omega (arith, ap length loop.invariant.1, length-append a.text.now (lines loop.i line_of), c.requires.room)))

pub loop-i-preserved : goal.loop-i-preserved
unfolding lines column_line row_line label
loop-i-preserved g c =
    let a = c.args in
    let loop = c.loop-i in
    let line_of = column_line a.r.now.bytes.now a.rows.now.processors a.rows.now.starts a.rows.now.finishes a.rows.now.costs in
    let name = part_slice a.r.now.bytes.now _ c.label-part.result c.label-part.ensures in (
      loop.invariant.0,
      rw (add-one loop.i)
          (rw name at c.line.ensures ∙ ap (λ (xs : List ℕ). xs ++ line_of loop.i) loop.invariant.1 ∙ append_assoc a.text.now (lines loop.i line_of) (line_of loop.i)),
    )
