-- Placing the tasks of a multiplied workflow, by any method that keeps choices: step by step the rows so far are the multiplied rows.
use Prim.Native.Nat.{ℕ, zero, suc, ◌+◌, ◌*◌, ◌≤◌}
use Rattle.std.specs.Prelude.{◌≡◌, ◌||◌, List, map, eqb}
use Rattle.std.proofs.Math.Path.{refl, ap, fun_ext}
use Rattle.std.proofs.Common.{sym, ◌∙◌, mul-pos}
use Rattle.std.proofs.Math.Bool.{cond}
use Rattle.std.proofs.Math.Nat.{mul-add, mul-sub}
use Rattle.rules.specs.Folds.{sum, largest}
use Rattle.rules.specs.Workflow.{Workflow}
use Rattle.rules.specs.Ranks.{lowest_cost, next_task}
use Rattle.rules.specs.Start.{arrival, arrived, ready}
use Rattle.rules.specs.Rows.{Placed, row_of, is_placed, busy, spent}
use Rattle.rules.specs.Method.{Method}
use Rattle.rules.specs.Placing.{ready_for, start_of, finish_of, RB, RCB, question, row_on, place_task, place_next, place}
use Rattle.rules.specs.Multiplied.{multiplied, multiplied_row}
use Rattle.laws.specs.Numbers.{max_multiplied, or_zero_multiplied, zero_or_multiplied}
use Rattle.laws.specs.Folds.{sum_multiplied, largest_multiplied}
use Rattle.laws.specs.StartLaws.{start_on_multiplied}
use Rattle.demands.specs.Ground.MethodLaws.{multiplied_question, KeepsChoices}
use Rattle.demands.specs.Demand3.CostsMultiplied.{cost_multiplied, lowest_cost_multiplied, next_task_multiplied}
use Rattle.demands.specs.Demand3.RowsMultiplied.{multiplied_placed, is_placed_multiplied, row_of_multiplied, spent_multiplied}
use Rattle.demands.specs.Demand3.RowsMultiplied.{busy_multiplied}

module _ (a b : ℕ) (pa : 1 ≤ a) (W : Workflow) where
  abbrev W' : Workflow
  W' = multiplied a b W

  module _ (rows : List Placed) where
    abbrev rows' : List Placed
    rows' = map (multiplied_placed a b) rows

    arrived_multiplied :
        (i j : ℕ)
        → arrived W' (λ p. (row_of rows' p).processor) (λ p. (row_of rows' p).finish) i j
        ≡ a * arrived W (λ p. (row_of rows p).processor) (λ p. (row_of rows p).finish) i j
    unfolding arrived arrival multiplied multiplied_row
    arrived_multiplied i j =
        ap (largest W.edges) (fun_ext (λ e.
        let r = row_of rows (W.from e) in
        rw (row_of_multiplied a b rows (W.from e), zero_or_multiplied a (eqb r.processor j) (W.transfer e), ← mul-add a)
        (or_zero_multiplied a (eqb (W.to e) i) (r.finish + cond (eqb r.processor j) 0 (W.transfer e)))))
        ∙ largest_multiplied a W.edges _

    ready_for_multiplied : (i j : ℕ) → ready_for W' rows' i j ≡ a * ready_for W rows i j
    unfolding ready_for ready multiplied
    ready_for_multiplied i j =
        rw (arrived_multiplied i j) (max_multiplied a W.clock (arrived W (λ p. (row_of rows p).processor) (λ p. (row_of rows p).finish) i j))

    pub start_of_multiplied : (i j : ℕ) → start_of W' rows' i j ≡ a * start_of W rows i j
    unfolding start_of multiplied
    start_of_multiplied i j =
        rw (busy_multiplied a b W rows j, ready_for_multiplied i j)
        (start_on_multiplied (busy W rows j) (ready_for W rows i j) (W.minutes i j) a pa)

    pub finish_of_multiplied : (i j : ℕ) → finish_of W' rows' i j ≡ a * finish_of W rows i j
    unfolding finish_of multiplied
    finish_of_multiplied i j = rw (start_of_multiplied i j) (sym (mul-add a (start_of W rows i j) (W.minutes i j)))

    pub RB_multiplied : RB W' rows' ≡ a * b * RB W rows
    unfolding RB multiplied
    RB_multiplied = rw (spent_multiplied a b rows) (sym (mul-sub (a * b) W.budget (spent rows)))

    pub RCB_multiplied : (i : ℕ) → RCB W' rows' i ≡ a * b * RCB W rows i
    unfolding RCB multiplied
    RCB_multiplied i =
        ap (sum W.tasks) (fun_ext (λ k.
        rw (is_placed_multiplied a b rows k, lowest_cost_multiplied a b W k)
        (zero_or_multiplied (a * b) (eqb i k || is_placed rows k) (lowest_cost W k))))
        ∙ sum_multiplied (a * b) W.tasks _

    question_multiplied : (i : ℕ) → question W' rows' i ≡ multiplied_question a (a * b) (question W rows i)
    unfolding question multiplied_question multiplied
    question_multiplied i =
        λ t. record {
          processors = W.processors;
          cost = λ j. cost_multiplied a b W i j t;
          finish = λ j. finish_of_multiplied i j t;
          RB = RB_multiplied t;
          RCB = RCB_multiplied i t;
        }

    row_on_multiplied : (i j : ℕ) → row_on W' rows' i j ≡ multiplied_row a b (row_on W rows i j)
    unfolding row_on multiplied_row
    row_on_multiplied i j =
        λ t. record {
          processor = j;
          start = start_of_multiplied i j t;
          finish = finish_of_multiplied i j t;
          cost = cost_multiplied a b W i j t;
        }

  module _ (pb : 1 ≤ b) (M : Method) (keeps : KeepsChoices M) where
    place_task_multiplied : (rows : List Placed) (i : ℕ) → place_task M W' (rows' rows) i ≡ rows' (place_task M W rows i)
    unfolding place_task multiplied_placed
    place_task_multiplied rows i =
        rw (question_multiplied rows i, keeps a (a * b) pa (mul-pos pa pb) (question W rows i), row_on_multiplied rows i (M (question W rows i)))

    place_next_multiplied : (rows : List Placed) → place_next M W' (rows' rows) ≡ rows' (place_next M W rows)
    unfolding place_next
    place_next_multiplied rows =
        ap (place_task M W' (rows' rows))
        (ap (next_task W') (fun_ext (is_placed_multiplied a b rows)) ∙ next_task_multiplied a b W pa (is_placed rows))
        ∙ place_task_multiplied rows (next_task W (is_placed rows))

    pub place_multiplied : (k : ℕ) → place M W' k ≡ rows' (place M W k)
    unfolding place
    place_multiplied zero = refl
    place_multiplied (suc k) = rw (place_multiplied k) (place_next_multiplied (place M W k))
