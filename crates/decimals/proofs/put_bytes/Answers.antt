-- The bytes stand between what stood before and past them.
use Rattle.std.proofs.Common.{arith}
use Rattle.decimals.specs.Wrote.{wrote_between}
use Rattle.decimals.proofs.put_bytes.Goals as goal

pub returns : goal.returns
returns c = rw c.copy_from_slice.ensures.after (wrote_between _ (omega arith) c.requires)
