-- The placing begins with what it is handed: a workflow with this budget, these intervals and this clock is in range; and where intervals and clock are those that
-- a workflow begins with, its rows are that workflow's with the budget in force, whatever its deadline.
use Prim.Native.Nat.{ℕ, zero, suc, ◌-◌, ◌≤◌}
use Rattle.std.proofs.Math.Path.{◌≡◌, refl, sym, ap, subst}
use Rattle.std.proofs.Common.{◌∙◌, arith}
use Rattle.std.specs.Prelude.{Bool, List, set}
use Rattle.rules.specs.Reading.{Deadline, no_deadline}
use Rattle.rules.specs.Workflow.{Workflow}
use Rattle.rules.specs.Rows.{spent, length_of}
use Rattle.rules.specs.Method.{Name}
use Rattle.rules.specs.Budget.{in_force}
use Rattle.good.specs.Ranges.{InRange}
use Rattle.laws.specs.Bounds.{first_most, budget_most}
use Rattle.laws.specs.Begun.{begun, R_begun, place_begun}
use Rattle.laws.specs.Method.{method_chooses_among}
use Rattle.busy.specs.declared.Processors.{Processors}
use Rattle.busy.specs.Kept.{kept_by, InOrder, EndBy, Keeps}
use Rattle.busy.specs.KeptLaws.{kept_below, kept_has_minutes}
use Rattle.successors.specs.Begins.{BeginsFrom}
use Rattle.successors.specs.Held.{waited_for, held_back, Held, counted_down, released}
use Rattle.placing.specs.declared.Placing.{Placing}
use Rattle.placing.specs.Placed.{RanksOf, Columns, all_rows, PlacedAs}

-- What the placing is handed, with no deadline: it looks at none.
abbrev pub handed : (budget : ℕ) → Processors → (clock : ℕ) → Workflow → Workflow
handed budget p clock W = begun budget no_deadline (kept_by p) clock W

module _ {W : Workflow} (range : InRange W) {p : Processors} where
  pub begun_in_range :
      {budget clock : ℕ} → budget ≤ budget_most → InOrder p.begins p.ends p.first → EndBy first_most p.begins p.ends p.first
      → clock ≤ first_most → InRange (handed budget p clock W)
  unfolding begun
  begun_in_range budget_in order ended clock_in =
      record {
        tasks_in = range.tasks_in;
        processors_in = range.processors_in;
        budget_in = budget_in;
        deadline_in = λ d e. let none : ◌≡◌ {A = ℕ} 0 1 = cc in absurd (omega arith);
        edges_in = range.edges_in;
        price_in = range.price_in;
        minimum_in = range.minimum_in;
        first_minutes = λ j v m. kept_has_minutes order (kept_below order m) m;
        first_end_in = λ j v m. ended j (kept_below order m) v m;
        clock_in = clock_in;
        minutes_most = range.minutes_most;
        from_below = range.from_below;
        to_below = range.to_below;
        unequal = range.unequal;
        transfer_in = range.transfer_in;
        from_rises = range.from_rises;
        to_rises = range.to_rises;
      }

  -- What is kept gives the same starts as what W begins with: so the same rows, with any budget and deadline in force.
  module _ {intervals : ℕ} (keeps : Keeps W.busy_at_first intervals p) (M : Name) (budget : ℕ) (deadline : Deadline) where
    same_rows : all_rows M (handed budget p W.clock W) ≡ all_rows M (in_force budget deadline W)
    unfolding begun in_force
    same_rows =
        place_begun (method_chooses_among M) W range.processors_in.from_low budget W.clock no_deadline deadline (kept_by p) W.busy_at_first
        (λ j l. keeps.holds j (omega (arith, range.processors_in))) W.tasks

    pub placed_as :
        {sits starts ends costs : List ℕ} {r : Placing} → PlacedAs M (handed budget p W.clock W) sits starts ends costs r
        → PlacedAs M (in_force budget deadline W) sits starts ends costs r
    unfolding begun in_force
    placed_as {sits} {starts} {ends} {costs} {r} placed =
        record {
          length_is = placed.length_is ∙ ap length_of same_rows;
          cost_is = placed.cost_is ∙ ap spent same_rows;
          left_is = placed.left_is ∙ ap (λ rows. budget - spent rows) same_rows;
          columns = subst (λ rows. Columns rows sits starts ends costs) same_rows placed.columns;
        }

-- Ranks are the same however it begins, and so is what holds each task back.
module _ (budget : ℕ) (p : Processors) (clock : ℕ) (W : Workflow) where
  abbrev so : Workflow
  so = handed budget p clock W

  pub ranks_begun : {ranks : List ℕ} → RanksOf W ranks → RanksOf so ranks
  unfolding begun
  ranks_begun ranks_of =
      record { are = λ i l. ranks_of.are i l ∙ ap (λ R. suc (R i)) (sym (R_begun budget no_deadline (kept_by p) clock W)) }

  pub held_begun : {placed : ℕ → Bool} {held : List ℕ} → Held W placed held → Held so placed held
  unfolding begun held_back waited_for
  held_begun held = record { size = held.size; holds = held.holds }

  counted_down_begun : (begin : ℕ) (held : List ℕ) (k : ℕ) → counted_down so begin held k ≡ counted_down W begin held k
  unfolding begun counted_down
  counted_down_begun begin held zero = refl
  counted_down_begun begin held (suc k) = rw (counted_down_begun begin held k) refl

  pub released_begun : (begin end task : ℕ) (held : List ℕ) → released W begin end task held ≡ released so begin end task held
  unfolding released
  released_begun begin end task held = sym (counted_down_begun begin (set held task 1) (end - begin))

  pub begins_begun : {begins : List ℕ} → BeginsFrom W 0 begins → BeginsFrom so 0 begins
  unfolding begun
  begins_begun begins =
      record {
        size = begins.size;
        past = begins.past;
        begin = λ task l m.
            let there = begins.begin task l m in
            record { within = there.within; before = there.before; onward = there.onward };
      }
