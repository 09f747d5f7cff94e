-- `label::spaces` meets its contract: the bytes from `from` up to `i` are spaces.
use native.Mathlib.Omega.{arith}
use mathlib.Core.Bool.{true≢false, false≢true}
use borrow.Author.Count.{below_more}
use Rattle.label.proofs.spaces.Goals as goal

pub loop-i-init : goal.loop-i-init
loop-i-init c = (omega arith, λ k h h'. omega arith)

pub returns-then-s-i-ne32 : goal.returns-then-s-i-ne32
returns-then-s-i-ne32 c =
    record {
      passes = λ e. absurd (false≢true e);
      fails = λ e. (c.loop-i.i, omega arith, omega arith, c.if-s-i-ne32.true);
    }

pub loop-i-preserved : goal.loop-i-preserved
loop-i-preserved c = (omega arith, below_more _ _ c.loop-i.invariant.1 (λ h. c.if-s-i-ne32.false))

pub returns : goal.returns
returns c =
    record {
      passes = λ e k h h'. c.loop-i.invariant.1 k (omega arith) h;
      fails = λ e. absurd (true≢false e);
    }
