-- What is in force for a multiplied workflow: the budget of `H`, and the one that a `K` of 0 or of 1,000 sets, are a times b times; without a budget and a deadline
-- there is none in either.
use Rattle.std.specs.Prelude.{ℕ, ◌+◌, ◌*◌, ◌-◌, ◌≤◌, ◌≡◌}
use Rattle.std.proofs.Math.Path.{refl, sym, ap, ap₂}
use Rattle.std.proofs.Common.{◌∙◌, mul-zero, mul-add}
use Rattle.std.proofs.Math.Nat.{mul-sub}
use Rattle.rules.specs.Reading.{Share, no_share, thousandths}
use Rattle.rules.specs.Workflow.{Workflow}
use Rattle.rules.specs.Ranks.{cheapest_total}
use Rattle.rules.specs.Rows.{spent}
use Rattle.rules.specs.Method.{HEFT, Name, by_HBCS, by_cheapest, by_HEFT}
use Rattle.rules.specs.Placing.{place}
use Rattle.rules.specs.Budget.{in_force, unbound, cost_alone, budget_of, held_to}
use Rattle.rules.specs.Multiplied.{multiplied, multiplied_deadline}
use Rattle.demands.specs.Demand2.TwoPlans.{at_0, at_1000}
use Rattle.demands.specs.Demand3.HBCSMultiplied.{HEFT_keeps_choices}
use Rattle.demands.specs.Demand3.CostsMultiplied.{cheapest_total_multiplied}
use Rattle.demands.specs.Demand3.RowsMultiplied.{spent_multiplied}
use Rattle.demands.specs.Demand3.PlacingMultiplied.{place_multiplied}

-- "A `K` stays what it is: at 0 and at 1,000 the demand holds; between them floor stands outside it."
pub data ExactShare : Share → Type 0 where
  no_K : ExactShare no_share
  lowest : ExactShare (thousandths 0)
  highest : ExactShare (thousandths 1_000)

module _ (a b : ℕ) (pa : 1 ≤ a) (pb : 1 ≤ b) (W : Workflow) where
  unbound_multiplied : unbound (multiplied a b W) ≡ multiplied a b (unbound W)
  unfolding unbound in_force multiplied multiplied_deadline
  unbound_multiplied =
      λ t. record {
        tasks = W.tasks;
        processors = W.processors;
        budget = sym (mul-zero (a * b)) t;
        deadline = (multiplied a b (unbound W)).deadline;
        price = (multiplied a b W).price;
        minimum = (multiplied a b W).minimum;
        busy_at_first = (multiplied a b W).busy_at_first;
        clock = (multiplied a b W).clock;
        minutes = (multiplied a b W).minutes;
        edges = W.edges;
        from = W.from;
        to = W.to;
        transfer = (multiplied a b W).transfer;
      }

  HEFT_cost_multiplied : cost_alone HEFT (multiplied a b W) ≡ a * b * cost_alone HEFT W
  unfolding cost_alone multiplied
  HEFT_cost_multiplied =
      ap (λ X. spent (place HEFT X W.tasks)) unbound_multiplied
      ∙ ap spent (place_multiplied a b pa (unbound W) pb HEFT HEFT_keeps_choices W.tasks)
      ∙ spent_multiplied a b (place HEFT (unbound W) W.tasks)

  budget_multiplied : {share : Share} → ExactShare share → budget_of share (multiplied a b W) ≡ a * b * budget_of share W
  unfolding budget_of multiplied
  budget_multiplied no_K = refl
  budget_multiplied lowest = at_0 _ _ ∙ cheapest_total_multiplied a b W ∙ ap (λ x. a * b * x) (sym (at_0 _ _))
  budget_multiplied highest =
      at_1000 _ _
      ∙ ap₂ (λ low high. low + (high - low)) (cheapest_total_multiplied a b W) HEFT_cost_multiplied
      ∙ ap (λ x. a * b * cheapest_total W + x) (sym (mul-sub (a * b) (cost_alone HEFT W) (cheapest_total W)))
      ∙ sym (mul-add (a * b) (cheapest_total W) (cost_alone HEFT W - cheapest_total W))
      ∙ ap (λ x. a * b * x) (sym (at_1000 (cheapest_total W) (cost_alone HEFT W)))

  -- What HBCS is held to is multiplied where nothing is rounded; the two others are held to nothing.
  abbrev pub ExactBy : Name → Share → Type 0
  ExactBy by_HBCS share = ExactShare share
  ExactBy by_cheapest share = Unit {0}
  ExactBy by_HEFT share = Unit {0}

  pub held_to_multiplied : (M : Name) (share : Share) → ExactBy M share → held_to M share (multiplied a b W) ≡ multiplied a b (held_to M share W)
  unfolding held_to in_force multiplied
  held_to_multiplied by_HBCS share exact =
      λ t. record {
        tasks = W.tasks;
        processors = W.processors;
        budget = budget_multiplied exact t;
        deadline = (multiplied a b W).deadline;
        price = (multiplied a b W).price;
        minimum = (multiplied a b W).minimum;
        busy_at_first = (multiplied a b W).busy_at_first;
        clock = (multiplied a b W).clock;
        minutes = (multiplied a b W).minutes;
        edges = W.edges;
        from = W.from;
        to = W.to;
        transfer = (multiplied a b W).transfer;
      }
  held_to_multiplied by_cheapest share exact = unbound_multiplied
  held_to_multiplied by_HEFT share exact = unbound_multiplied
