-- One that is ahead leads; else the leader stays.
use Rattle.choosing.specs.Leading.{led_by}
use Rattle.choosing.proofs.led.Goals as goal

pub returns-then-ahead : goal.returns-then-ahead
unfolding led_by
returns-then-ahead c = rw (← c.ahead.ensures, c.if-ahead.true)

pub returns-else-ahead : goal.returns-else-ahead
unfolding led_by
returns-else-ahead c = rw (← c.ahead.ensures, c.if-ahead.false)
