-- What it means for a question that F, B or RB is 0.
use Rattle.std.specs.Prelude.{ℕ, ◌-◌, ◌<◌, ◌≡◌}
use Rattle.std.proofs.Common.{arith}
use Rattle.rules.specs.Method.{Question, best, latest_finish, B, F}
use Rattle.laws.specs.Folds.{at_most_largest, lowest_at_most}
use Rattle.demands.specs.Ground.Best.{best_is_best}

module _ (q : Question) where
  -- Where F is 0 no finish is before the latest; where B is 0 no cost is above another.
  pub none_earlier : (j : ℕ) → j < q.processors → F q ≡ 0 → latest_finish q - q.finish j ≡ 0
  unfolding F latest_finish
  none_earlier j l h =
      omega (arith, at_most_largest q.processors q.finish j l, lowest_at_most q.processors q.finish j l)

  pub none_dearer : (i j : ℕ) → i < q.processors → j < q.processors → B q ≡ 0 → q.cost i - q.cost j ≡ 0
  unfolding B
  none_dearer i j k l h = omega (arith, at_most_largest q.processors q.cost i k, lowest_at_most q.processors q.cost j l)

  -- Where F is 0 best is the cheapest.
  pub best_cheapest : (j : ℕ) → j < q.processors → F q ≡ 0 → q.cost (best q) - q.cost j ≡ 0
  unfolding F latest_finish
  best_cheapest j l none =
      let b = best_is_best q (omega arith) in
      let most = at_most_largest q.processors q.finish j l in
      let least = lowest_at_most q.processors q.finish (best q) b.processor in
      omega (arith, b.lowest j l, b.then_lower j l (omega (arith, b.lowest j l)))
