-- What the figures, the weights and the standing are, in the rules' words.
use Rattle.std.specs.Prelude.{ℕ, ◌+◌, ◌*◌, ◌-◌, ◌≤◌, ◌<◌, max, min, ◌≡◌, Bool, cond, ◌&&◌, leb}
use Rattle.rules.specs.Folds.{largest, lowest}
use Rattle.rules.specs.Orders.{Order, tie, lower, first}
use Rattle.rules.specs.Method.{Question, or_one, may_be_taken, score}
use Rattle.laws.specs.Bounds as bounds
use Rattle.laws.specs.Bounds.{asked_finish_most, cost_most, total_most, budget_most}
use Rattle.choosing.specs.declared.figures.Figures.{Figures}
use Rattle.choosing.specs.declared.figures.Weights.{Weights}

-- The order by which `best` is the first.
abbrev pub sooner : Question → Order
sooner q = lower q.finish (lower q.cost tie)

-- The figures of the first k processors.
pub record FiguresOf (q : Question) (k : ℕ) (g : Figures) : Type 0 where
  pub RB : g.rb ≡ q.RB
  pub RCB : g.rcb ≡ q.RCB
  pub best : g.best ≡ q.cost (first k (sooner q))
  pub earliest : g.earliest ≡ lowest k q.finish
  pub latest : g.latest ≡ largest k q.finish
  pub lowest : g.lowest ≡ lowest k q.cost
  pub highest : g.highest ≡ largest k q.cost

-- The cost of the best, with one more: that of the one that finishes earlier, and the lower where they finish together.
pub record BestCost (g : Figures) (cost finish r : ℕ) : Type 0 where
  pub earlier : finish < g.earliest → r ≡ cost
  pub later : g.earliest < finish → r ≡ g.best
  pub together : finish ≡ g.earliest → r ≡ min g.best cost

-- The figures, with one processor more.
pub record Passed (g : Figures) (cost finish : ℕ) (r : Figures) : Type 0 where
  pub rb : r.rb ≡ g.rb
  pub rcb : r.rcb ≡ g.rcb
  pub best : BestCost g cost finish r.best
  pub earliest : r.earliest ≡ min g.earliest finish
  pub latest : r.latest ≡ max g.latest finish
  pub lowest : r.lowest ≡ min g.lowest cost
  pub highest : r.highest ≡ max g.highest cost

-- So that no score wraps.
pub record FiguresInRange (g : Figures) : Type 0 where
  pub best : g.best ≤ cost_most
  pub latest : g.latest ≤ asked_finish_most
  pub highest : g.highest ≤ cost_most
  pub rb : g.rb ≤ budget_most
  pub rcb : g.rcb ≤ total_most

pub record Weighed (g : Figures) (w : Weights) : Type 0 where
  pub saved : w.saved ≡ g.rcb * or_one (g.latest - g.earliest)
  pub early : w.early ≡ or_one (g.highest - g.lowest) * or_one g.rb
  pub saved_most : w.saved ≤ bounds.saved_most
  pub early_most : w.early ≤ bounds.early_most

-- `may_be_taken` and `score` of the rules, by the figures.
unfoldable pub may_by : Figures → ℕ → Bool
may_by g cost = leb cost g.best && leb (cost + g.rcb) g.rb

unfoldable pub score_by : Figures → ℕ → ℕ → ℕ
score_by g cost finish =
    (g.best - cost) * g.rcb * or_one (g.latest - g.earliest)
    + (g.latest - finish) * or_one (g.highest - g.lowest) * or_one g.rb

unfoldable pub standing_by : Figures → ℕ → ℕ → ℕ
standing_by g cost finish = cond (may_by g cost) (score_by g cost finish + 1) 0

-- The standing of a processor: 1 more than its score where it may be taken, else 0.
unfoldable pub standing : Question → ℕ → ℕ
standing q j = cond (may_be_taken q j) (score q j + 1) 0
