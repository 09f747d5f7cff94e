-- The contracts settle the figures and the weights: two that a contract allows are one.
use Rattle.std.specs.Prelude.{ℕ, ◌≡◌}
use Rattle.std.proofs.Common.{sym, ◌∙◌}
use Rattle.rules.specs.Method.{Question}
use Rattle.choosing.specs.declared.figures.Figures.{Figures}
use Rattle.choosing.specs.declared.figures.Weights.{Weights}
use Rattle.choosing.specs.Figured.{FiguresOf, Weighed}

pub figures_settled : {q : Question} {k : ℕ} {a b : Figures} → FiguresOf q k a → FiguresOf q k b → a ≡ b
figures_settled one other =
    λ t. record {
      rb = (one.RB ∙ sym other.RB) t;
      rcb = (one.RCB ∙ sym other.RCB) t;
      best = (one.best ∙ sym other.best) t;
      earliest = (one.earliest ∙ sym other.earliest) t;
      latest = (one.latest ∙ sym other.latest) t;
      lowest = (one.lowest ∙ sym other.lowest) t;
      highest = (one.highest ∙ sym other.highest) t;
    }

pub weights_settled : {g : Figures} {a b : Weights} → Weighed g a → Weighed g b → a ≡ b
weights_settled one other =
    λ t. record { saved = (one.saved ∙ sym other.saved) t; early = (one.early ∙ sym other.early) t }
