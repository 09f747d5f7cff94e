-- The windows passed are kept, each among those of its processor.
use Rattle.std.specs.Prelude.{ℕ, List, ◌<◌, ◌^◌, ◌≡◌, refl}
use Rattle.std.proofs.Common.{arith, add-one, lt-ltb}
use Rattle.rules.specs.Fields.{M_processor, M_begin, M_end}
use Rattle.rules.specs.Workflow.{window_place, window_of, windows_on, workflow}
use Rattle.good.specs.Good.{GoodWindow}
use Rattle.good.specs.ReadIsGood.{read_is_good}
use Rattle.reader.specs.declared.View.{View}
use Rattle.reader.specs.Meaning.{ViewOf, meant_view}
use Rattle.busy.proofs.AtFirst.{keeps_none}
use Rattle.busy.specs.KeepsLaws.{keeps_put}
use Rattle.downtime.specs.Windows.{kept_windows}
use Rattle.downtime.proofs.busy_at_first.Goals as goal

-- The window in hand: on a processor that there is, with minutes, in reach; and there is room for it.
record InReach (e processor begin end : ℕ) : Type 0 where
  processor_below : processor < 16
  has_minutes : begin < end
  end_in : end < 2 ^ 32
  room : e < 64

module _ (s : List ℕ) (v : View) (good : ViewOf s v) (e : ℕ) (some : e < v.windows) where
  window : GoodWindow s v.processors (window_place (meant_view v) e)
  window = (read_is_good s good).window_in e some

  in_reach : {processor begin end : ℕ} → let place = window_place (meant_view v) e in
      processor ≡ M_processor s place → begin ≡ M_begin s place → end ≡ M_end s place → InReach e processor begin end
  in_reach processor_is begin_is end_is =
      record {
        processor_below = omega (arith, window.processor_below, (read_is_good s good).processors_in);
        has_minutes = omega (arith, window.has_minutes);
        end_in = omega (arith, window.end_in);
        room = omega (arith, (read_is_good s good).windows_in);
      }

pub loop-e-init : goal.loop-e-init
unfolding windows_on kept_windows
loop-e-init c = (rw c.new-busy.ensures keeps_none, c.new-busy.ensures)

pub put-requires : goal.put-requires
put-requires c =
    let (processor, begin, end) = c.window-w.ensures in
    let window = in_reach c.args.r.now.bytes.now c.args.r.now.view c.args.r.now.good c.loop-e.e c.loop-e-test.true processor begin end in
    record { j_bound = (window.processor_below, window.end_in); room = omega (arith, c.loop-e.invariant.0.in_all, window.room) }

pub loop-e-preserved : goal.loop-e-preserved
unfolding windows_on window_of kept_windows
loop-e-preserved c =
    let loop = c.loop-e in
    let w = c.window-w.result in
    let (processor, begin, end) = c.window-w.ensures in
    let window = in_reach c.args.r.now.bytes.now c.args.r.now.view c.args.r.now.good loop.e c.loop-e-test.true processor begin end in
    let some = lt-ltb w.begin w.end window.has_minutes in
    let keeps = keeps_put loop.invariant.0 window.processor_below (omega (arith, window.room)) w.begin w.end in (
      rw (c.put.ensures, add-one loop.e, ← processor, ← begin, ← end) (rw (some, add-one loop.e) at keeps),
      rw (c.put.ensures, add-one loop.e, ← processor, ← begin, ← end, ← loop.invariant.1) refl,
    )

pub returns : goal.returns
unfolding workflow
returns c =
    let all : c.loop-e.e ≡ c.args.r.now.view.windows = omega arith in
    (rw all at c.loop-e.invariant.1, rw all at c.loop-e.invariant.0)
