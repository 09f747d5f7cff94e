-- The text in the parts in which it is written: the answer's line, and then a line for each task, its row read off four columns.
use Rattle.std.specs.Prelude.{ℕ, ◌+◌, ◌≤◌, ◌≡◌, length}
use Rattle.std.proofs.Math.Path.{refl, sym, ap, fun_ext}
use Rattle.std.proofs.Common.{ap₂, ◌∙◌, arith, length-append}
use mathlib.Core.List.{List, ◌++◌, append-nil}
use Rattle.rules.specs.Records.{stopped}
use Rattle.rules.specs.Reading.{read_request}
use Rattle.rules.specs.Labels.{label}
use Rattle.rules.specs.Rows.{Placed, row_of}
use Rattle.rules.specs.Method.{Name}
use Rattle.rules.specs.Answer.{Outcome, plan, refusal, answer_of, answer_asked, outcome_by, outcome_asked, refused}
use Rattle.rules.specs.Text.{first_line, row_line, lines, row_lines, text_asked}
use Rattle.demands.specs.Ground.GoodRequest.{outcome_of_good, outcome_of_stopped}
use Rattle.reader.specs.declared.View.{View}
use Rattle.reader.specs.Meaning.{ViewOf}
use Rattle.placing.specs.Placed.{Columns}
use Rattle.planner.specs.declared.Planning.{Planning}
use Rattle.planner.specs.Planned.{meant_answer, rows_in, rows_told, workflow_by, PlanOf}
use Rattle.planner.specs.Reach.{rows_due, told_due}
use Rattle.lines.specs.Lines.{column_line}

-- The line of a task, of what the planner gives.
abbrev pub planning_line : List ℕ → Planning → ℕ → List ℕ
planning_line s p = column_line s p.rows.processors p.rows.starts p.rows.finishes p.rows.costs

module _ (s : List ℕ) {processors starts finishes costs : List ℕ} where
  row_there : {rows : List Placed} → Columns rows processors starts finishes costs
      → (i : ℕ) → column_line s processors starts finishes costs i ≡ row_line (label s i) (row_of rows i)
  unfolding column_line
  row_there columns i =
      λ t. row_line (label s i)
      (record {
        processor = columns.processors_hold.holds i t;
        start = columns.starts_hold.holds i t;
        finish = columns.finishes_hold.holds i t;
        cost = columns.costs_hold.holds i t;
      })

  due_lines : (o : Outcome) → Columns (rows_in o) processors starts finishes costs
      → lines (rows_due (answer_of o)) (column_line s processors starts finishes costs) ≡ row_lines s o
  unfolding rows_in answer_of rows_due lines row_lines
  due_lines (plan W rows) columns = ap (lines W.tasks) (fun_ext (row_there columns))
  due_lines (refusal number place) columns = refl

module _ (M : Name) (s : List ℕ) where
  -- The text is the answer's line, and as many rows as the answer has.
  pub planned_text : (p : Planning) → PlanOf (outcome_asked M s 64) p
      → text_asked M s ≡ first_line (meant_answer p.answer) ++ lines (rows_told p.answer) (planning_line s p)
  unfolding text_asked answer_asked
  planned_text p is =
      let o = outcome_asked M s 64 in
      sym
      (ap₂ ◌++◌ (ap first_line is.answer_is)
      (ap (λ n. lines n (planning_line s p)) (told_due o p.answer is.answer_is) ∙ due_lines s o is.columns))

  -- Of a good request the planner's plan is one.
  pub good_text : (v : View) (p : Planning) → ViewOf s v → PlanOf (outcome_by M (workflow_by M s v) 64) p
      → text_asked M s ≡ first_line (meant_answer p.answer) ++ lines (rows_told p.answer) (planning_line s p)
  good_text v p good is = planned_text p (rw (outcome_of_good M s good 64) is)

  -- So where there is room for the text there is room for its parts.
  pub good_room : (v : View) (p : Planning) (before N : ℕ) → ViewOf s v → PlanOf (outcome_by M (workflow_by M s v) 64) p → before + length (text_asked M s) ≤ N
      → before + length (first_line (meant_answer p.answer)) + length (lines (rows_told p.answer) (planning_line s p)) ≤ N
  good_room v p before N good is room =
      omega (
        arith,
        ap length (good_text v p good is),
        length-append (first_line (meant_answer p.answer)) (lines (rows_told p.answer) (planning_line s p)),
      )

  -- Of a request that is refused in reading there is only the answer's line.
  pub refused_text : {number place : ℕ} → read_request s ≡ stopped number place → text_asked M s ≡ first_line (refused number place)
  unfolding text_asked answer_asked answer_of row_lines
  refused_text e = rw (outcome_of_stopped M s e 64) (append-nil _)
