-- The part lies inside the request, and the slice is that part.
use mathlib.Core.Path.{ap}
use Prim.Native.Nat.{◌+◌}
use Rattle.rules.specs.Labels.{Part}
use Rattle.lookup.specs.Parts.{part_inside, part_slice}
use native.Mathlib.Omega.{arith}
use Rattle.lookup.proofs.label.Goals as goal

pub overflow_add-result : goal.overflow_add-result
overflow_add-result c = let part = c.label_part-begin in
    omega (arith, part_inside c.args.s.now c.args.task part.result part.ensures)

pub slice_bounds-result-end : goal.slice_bounds-result-end
slice_bounds-result-end c = let part = c.label_part-begin in
    omega (arith, part_inside c.args.s.now c.args.task part.result part.ensures)

pub returns : goal.returns
returns c =
    let part = c.label_part-begin in
    record {
      bytes_are = part_slice c.args.s.now c.args.task part.result part.ensures;
      stands_at = ap (λ (p : Part). (c.args.s.ref_ptr.0, p.begin + c.args.s.ref_ptr.1)) part.ensures;
    }
