-- After each turn the rows so far are the rules', and what is kept is what they come to.
use Rattle.std.specs.Prelude.{◌-◌, ◌≡◌, refl}
use Rattle.std.proofs.Common.{arith, ap, ◌∙◌}
use Rattle.rules.specs.Workflow.{workflow}
use Rattle.rules.specs.Ranks.{cost, lowest_cost, cheapest_total}
use Rattle.rules.specs.Start.{arrival, arrived}
use Rattle.rules.specs.Placing.{place}
use Rattle.lookup.specs.Flow.{flow}
use Rattle.lookup.specs.Views.{view_in_range}
use Rattle.laws.specs.Begun.{begun}
use Rattle.choosing.specs.Named.{meant_method}
use Rattle.links.specs.LinksLaws.{linked_first}
use Rattle.busy.specs.KeepsLaws.{keeps_itself}
use Rattle.hand.specs.Hand.{start_by, finish_by, question_by}
use Rattle.placing.specs.KeptHand.{ready_within}
use Rattle.placing.specs.KeptLaws.{kept_first, ends_within, busy_within, rb_within, rcb_within}
use Rattle.placing.specs.Begins.{held_begun, released_begun}
use Rattle.placing.proofs.Turn.{set_up, rcb_is, row_in_reach, turned}
use Rattle.placing.proofs.place.Goals as goal

pub link_all-requires : goal.link_all-requires
link_all-requires c = linked_first _

pub loop-k-init : goal.loop-k-init
unfolding workflow begun cheapest_total lowest_cost cost place
loop-k-init c =
    let a = c.args in
    let pre = c.requires in
    let (in_order, few, ended, clock_in, budget_in) = pre.in_order in
    let held = held_begun a.budget a.outset a.clock _ c.count_all.ensures in (
      (view_in_range a.r.now.bytes.now a.r.now.view c.args.r.now.good).tasks_in.to_high,
      set_up a.r.now.bytes.now a.r.now.view c.args.r.now.good a.budget a.outset a.clock pre.ranks_of.0 pre.v_value.0 pre.v_value.1 in_order ended clock_in budget_in,
      kept_first _ pre.columns held (keeps_itself in_order) few refl pre.ranks_of.1,
    )

pub next_task-task-requires : goal.next_task-task-requires
unfolding workflow begun
next_task-task-requires c =
    let so = c.loop-k.invariant.1 in
    (so.range.tasks_in.from_low, so.range.tasks_in.to_high, λ i l. omega (arith, c.requires.ranks_of.0.are i l))

pub lowest_of-lowest-requires : goal.lowest_of-lowest-requires
unfolding workflow begun
lowest_of-lowest-requires c =
    let so = c.loop-k.invariant.1 in
    (so.range.processors_in.from_low, so.range.processors_in.to_high)

pub overflow_sub-rcb : goal.overflow_sub-rcb
unfolding workflow begun arrived arrival cost lowest_cost start_by finish_by question_by
overflow_sub-rcb c =
    let loop = c.loop-k in
    (rcb_is loop.invariant.1 (meant_method c.args.method) loop.invariant.2 c.loop-k-test.true c.next_task-task.ensures.is_first
    c.cost_on_all-costs_of.ensures c.lowest_of-lowest.ensures).0

pub ready_on_all-ready-requires : goal.ready_on_all-ready-requires
unfolding workflow begun
ready_on_all-ready-requires c =
    let loop = c.loop-k in
    (c.next_task-task.ensures.below, c.link_all.ensures, ends_within loop.invariant.1.range loop.invariant.2 c.loop-k-test.true)

pub row_for-row-requires-clause-task_lt_tasks : goal.row_for-row-requires-clause-task_lt_tasks
unfolding workflow begun arrived arrival cost lowest_cost start_by finish_by question_by
row_for-row-requires-clause-task_lt_tasks c =
    let loop = c.loop-k in
    (c.next_task-task.ensures.below, ready_within loop.invariant.1.range loop.invariant.2 _ c.ready_on_all-ready.ensures c.loop-k-test.true)

pub row_for-row-requires-clause-end_by : goal.row_for-row-requires-clause-end_by
unfolding workflow begun
row_for-row-requires-clause-end_by c = busy_within c.loop-k.invariant.1.range c.loop-k.invariant.2 c.loop-k-test.true

pub row_for-row-requires-clause-filled : goal.row_for-row-requires-clause-filled
unfolding workflow begun
row_for-row-requires-clause-filled c =
    let loop = c.loop-k in
    let range = loop.invariant.1.range in
    (c.cost_on_all-costs_of.ensures, rb_within range loop.invariant.2 c.loop-k-test.true, omega (arith, rcb_within range loop.invariant.2 c.loop-k-test.true))

pub put-requires-clause-j_bound : goal.put-requires-clause-j_bound
unfolding workflow begun arrived arrival cost lowest_cost start_by finish_by question_by
put-requires-clause-j_bound c =
    let loop = c.loop-k in
    let row =
    row_in_reach loop.invariant.1 (meant_method c.args.method) loop.invariant.2 c.loop-k-test.true c.next_task-task.ensures.is_first
    c.cost_on_all-costs_of.ensures c.lowest_of-lowest.ensures c.ready_on_all-ready.ensures c.row_for-row.ensures in
    (row.0, omega (arith, row.2))

pub overflow_add-spent : goal.overflow_add-spent
unfolding workflow begun arrived arrival cost lowest_cost start_by finish_by question_by
overflow_add-spent c =
    let loop = c.loop-k in
    let kept =
    turned loop.invariant.1 (meant_method c.args.method) loop.invariant.2 c.loop-k-test.true c.next_task-task.ensures.is_first
    c.cost_on_all-costs_of.ensures c.lowest_of-lowest.ensures c.ready_on_all-ready.ensures c.row_for-row.ensures refl refl in
    omega (arith, kept.spent_most)

pub loop-k-preserved : goal.loop-k-preserved
unfolding workflow begun arrived arrival cost lowest_cost start_by finish_by question_by
loop-k-preserved c =
    let a = c.args in
    let loop = c.loop-k in
    let held = c.release.ensures ∙ released_begun a.budget a.outset a.clock (flow a.r.now) _ _ _ _ in (
      loop.invariant.0,
      loop.invariant.1,
      rw (c.max-length.ensures, c.saturating_sub-rb.ensures)
          (turned loop.invariant.1 (meant_method a.method) loop.invariant.2 c.loop-k-test.true c.next_task-task.ensures.is_first
          c.cost_on_all-costs_of.ensures c.lowest_of-lowest.ensures c.ready_on_all-ready.ensures c.row_for-row.ensures held c.put.ensures),
    )

pub returns : goal.returns
unfolding workflow begun
returns c =
    let a = c.args in
    let passed : c.loop-k.k ≡ a.r.now.view.tasks = omega arith in
    let kept = rw passed at c.loop-k.invariant.2 in
    record {
      length_is = kept.length_is;
      cost_is = kept.spent_is;
      left_is = c.saturating_sub.ensures ∙ ap (λ x. a.budget - x) kept.spent_is;
      columns = kept.columns;
    }
