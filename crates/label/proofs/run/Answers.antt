-- `label::run` meets its contract: the `k` bytes passed stand in the list.
use native.Mathlib.Omega.{arith}
use borrow.Author.Count.{below_more}
use Rattle.label.proofs.run.Goals as goal

pub loop-k-init : goal.loop-k-init
loop-k-init c = (omega arith, λ j h. absurd (omega arith))

pub loop-k-preserved : goal.loop-k-preserved
loop-k-preserved c =
    (omega arith, below_more _ _ c.loop-k.invariant.1 (c.listed.ensures.passes c.if-listed.true))

pub returns-else-listed : goal.returns-else-listed
returns-else-listed c =
    record {
      eight_or_fewer = omega arith;
      of_the_list = c.loop-k.invariant.1;
      stops = λ h. c.listed.ensures.fails c.if-listed.false;
    }

pub returns : goal.returns
returns c =
    record {
      eight_or_fewer = omega arith;
      of_the_list = c.loop-k.invariant.1;
      stops = λ h. absurd (omega arith);
    }
