-- The outcome behind a plan's answer: the request passed reading, nothing before the plan was due, and its rows are the method's.
use Rattle.std.specs.Prelude.{ℕ, ◌≡◌, refl, List}
use Rattle.std.proofs.Common.{sym, ap, ◌∙◌, arith}
use Rattle.rules.specs.Records.{Read, read, stopped}
use Rattle.rules.specs.Reading.{Request, read_request}
use Rattle.rules.specs.Rows.{Placed}
use Rattle.rules.specs.Method.{Name}
use Rattle.rules.specs.Budget.{workflow_for}
use Rattle.rules.specs.Answer.{Outcome, plan, refusal, outcome_asked, planned, answer_of, answer_asked}
use Rattle.demands.specs.Ground.GoodRequest.{outcome_of_stopped}
use Rattle.demands.specs.Demand2.WhatIsDue as due
use Rattle.demands.specs.Demand2.WhatIsDue.{MethodsPlan, Placeable, KeepsTo, Due, requests_get_their_due}

pub record PlanBehind (M : Name) (s : List ℕ) (lent n l c left : ℕ) : Type 0 where
  pub request : Request
  pub read_to : ℕ
  pub is_read : read_request s ≡ read read_to request
  pub rows : List Placed
  pub outcome_is : outcome_asked M s lent ≡ plan (workflow_for M s request) rows
  pub answer_is : planned n l c left ≡ answer_of (plan (workflow_for M s request) rows)
  pub placeable : Placeable (workflow_for M s request) lent
  pub methods_plan : MethodsPlan M (workflow_for M s request) rows
  pub keeps_to : KeepsTo M (workflow_for M s request) rows

pub tasks_told : {M : Name} {s : List ℕ} {lent n l c left : ℕ} → (b : PlanBehind M s lent n l c left) → n ≡ (workflow_for M s b.request).tasks
unfolding answer_of
tasks_told b = cc b.answer_is

by_due :
    {M : Name} (s : List ℕ) (lent : ℕ) {n l c left end : ℕ} {r : Request} {o : Outcome} → read_request s ≡ read end r → Due (workflow_for M s r) lent M o
    → outcome_asked M s lent ≡ o → answer_of o ≡ planned n l c left → PlanBehind M s lent n l c left
unfolding answer_of
by_due s lent is (due.seven few) given told = let z : ◌≡◌ {A = ℕ} 0 1 = cc in absurd (omega arith)
by_due s lent is (due.eight enough lowest) given told = let z : ◌≡◌ {A = ℕ} 0 1 = cc in absurd (omega arith)
by_due s lent is (due.nine placeable dear) given told = let z : ◌≡◌ {A = ℕ} 0 1 = cc in absurd (omega arith)
by_due s lent is (due.eleven placeable p within late) given told = let z : ◌≡◌ {A = ℕ} 0 1 = cc in absurd (omega arith)
by_due s lent {end = end} {r} is (due.planned {rows = rows} placeable p keeps) given told =
    record {
      request = r;
      read_to = end;
      is_read = is;
      rows = rows;
      outcome_is = given;
      answer_is = sym told;
      placeable = placeable;
      methods_plan = p;
      keeps_to = keeps;
    }

pub plan_behind : (M : Name) (s : List ℕ) (lent : ℕ) {n l c left : ℕ} → answer_asked M s lent ≡ planned n l c left → PlanBehind M s lent n l c left
unfolding answer_asked answer_of
plan_behind M s lent {n} {l} {c} {left} e = go (read_request s) refl
  where
    go : (x : Read Request) → read_request s ≡ x → PlanBehind M s lent n l c left
    go (read end r) is = by_due s lent is (requests_get_their_due M s is lent) refl e
    go (stopped number place) is =
        let told : answer_of (refusal number place) ≡ planned n l c left = ap answer_of (sym (outcome_of_stopped M s is lent)) ∙ e in
        let z : ◌≡◌ {A = ℕ} 0 1 = cc in
        absurd (omega arith)
