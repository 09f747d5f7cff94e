-- The range that the caller is told: what the two plans cost, the first at most the second; or the refusal that both get.
use Rattle.std.specs.Prelude.{ℕ, ◌≤◌, ◌≡◌, refl, List, ◌⊎◌, replicate}
use Rattle.std.proofs.Common.{sym, subst, ◌∙◌, inl, inr, ⊎_elim, arith}
use Rattle.rules.specs.Reading.{Request}
use Rattle.rules.specs.Workflow.{Workflow, workflow}
use Rattle.rules.specs.Ranks.{cheapest_total}
use Rattle.rules.specs.Rows.{no_row}
use Rattle.rules.specs.Method.{HEFT, Name, by_HBCS, by_cheapest, by_HEFT}
use Rattle.rules.specs.Budget.{unbound, cost_alone, held_to, workflow_for}
use Rattle.rules.specs.Answer.{Outcome, refusal, Answer, planned, refused, answer_asked}
use Rattle.rules.specs.Range.{between, no_range, range_of, range}
use Rattle.demands.specs.Demand1.Stands.{PassesReading}
use Rattle.demands.specs.Demand1.{Answered, refused_in_reading, passed_reading, refused_iff_answered}
use Rattle.demands.specs.Demand2.{plan_in_rows}
use Rattle.demands.specs.Demand2.WhatIsDue as due
use Rattle.demands.specs.Demand2.WhatIsDue.{Due}
use Rattle.demands.specs.Demand2.TwoPlans.{same_request, cheapest_plan, HEFT_plan}

-- Two answers with these costs.
record CostsTold (x y : Answer) (c h : ℕ) : Type 0 where
  n : ℕ
  l : ℕ
  left : ℕ
  cheapest : x ≡ planned n l c left
  n' : ℕ
  l' : ℕ
  left' : ℕ
  best : y ≡ planned n' l' h left'

costs_told : (x y : Answer) {c h : ℕ} → range_of x y ≡ between c h → CostsTold x y c h
unfolding range_of
costs_told (planned n l low left) (planned n' l' high left') {c} {h} e =
    let one : low ≡ c = cc in
    let other : high ≡ h = cc in
    record { n = n; l = l; left = left; cheapest = rw one refl; n' = n'; l' = l'; left' = left'; best = rw other refl }
costs_told (planned n l c left) (refused number place) e = let z : ◌≡◌ {A = ℕ} 0 1 = cc in absurd (omega arith)
costs_told (refused number place) y e = let z : ◌≡◌ {A = ℕ} 0 1 = cc in absurd (omega arith)

-- The request passes reading; the cheapest plan costs the cheapest total, and the HEFT plan at least that.
pub record BudgetRange (s : List ℕ) (c h : ℕ) : Type 0 where
  pub request : Request
  pub passes : PassesReading s request
  pub cheapest : c ≡ cheapest_total (workflow s request)
  pub best : h ≡ cost_alone HEFT (workflow s request)
  pub rising : c ≤ h

pub range_told : (s : List ℕ) {c h : ℕ} → range s ≡ between c h → BudgetRange s c h
unfolding range
range_told s {c} {h} e =
    let told = costs_told (answer_asked by_cheapest s 64) (answer_asked by_HEFT s 64) e in
    let one = plan_in_rows by_cheapest s (replicate 64 no_row) told.cheapest in
    let other = plan_in_rows by_HEFT s (replicate 64 no_row) told.best in
    let same = same_request other.passes one.passes in
    let r = one.request in
    let best : h ≡ cost_alone HEFT (workflow s r) = subst (λ x. h ≡ cost_alone HEFT (workflow s x)) same (HEFT_plan other).costs in
    let least : cheapest_total (workflow s r) ≤ h = subst (λ x. cheapest_total (workflow s x) ≤ h) same (HEFT_plan other).at_least in
    record {
      request = r;
      passes = one.passes;
      cheapest = (cheapest_plan one).costs;
      best = best;
      rising = omega (arith, (cheapest_plan one).costs, least);
    }

-- Asked for alone: the two methods that are held to nothing.
abbrev Alone : Name → Type 0
Alone by_HBCS = ⊥
Alone by_cheapest = Unit {0}
Alone by_HEFT = Unit {0}

nothing_held : (M : Name) → Alone M → (s : List ℕ) (r : Request) → workflow_for M s r ≡ unbound (workflow s r)
unfolding held_to
nothing_held by_HBCS alone s r = absurd alone
nothing_held by_cheapest alone s r = refl
nothing_held by_HEFT alone s r = refl

-- A refusal of the one is that of the other: neither looks at the budget or the deadline.
due_alike :
    {W : Workflow} {lent number place : ℕ} {M : Name} {o : Outcome} (N : Name) → Alone M → Due W lent M o → o ≡ refusal number place
    → Due W lent N (refusal number place)
due_alike N alone (due.seven few) e = rw (sym e) (due.seven few)
due_alike N alone (due.eight enough lowest) e = rw (sym e) (due.eight enough lowest)
due_alike N alone (due.nine placeable dear) e = absurd alone
due_alike N alone (due.eleven placeable p within late) e = absurd alone
due_alike N alone (due.planned placeable p keeps) e = let z : ◌≡◌ {A = ℕ} 0 1 = cc in absurd (omega arith)

answered_alike :
    {s : List ℕ} {lent number place : ℕ} {o : Outcome} (M N : Name) → Alone M → Alone N → Answered M s lent o → o ≡ refusal number place
    → Answered N s lent (refusal number place)
answered_alike {s} {lent} M N alone alone' (refused_in_reading stop) e = subst (Answered N s lent) e (refused_in_reading stop)
answered_alike {s} {lent} {number} {place} M N alone alone' (passed_reading {r = r} passes its_due) e =
    let same = nothing_held M alone s r ∙ sym (nothing_held N alone' s r) in
    passed_reading passes (subst (λ W. Due W lent N (refusal number place)) same (due_alike N alone its_due e))

refused_alike :
    (M N : Name) → Alone M → Alone N → (s : List ℕ) (lent : ℕ) {number place : ℕ} → answer_asked M s lent ≡ refused number place
    → answer_asked N s lent ≡ refused number place
refused_alike M N alone alone' s lent {number} {place} e =
    (refused_iff_answered N s lent number place).1 (answered_alike M N alone alone' ((refused_iff_answered M s lent number place).0 e) refl)

refusal_told : (x y : Answer) {number place : ℕ} → range_of x y ≡ no_range number place → (x ≡ refused number place) ⊎ (y ≡ refused number place)
unfolding range_of
refusal_told (planned n l c left) (planned n' l' h left') e = let z : ◌≡◌ {A = ℕ} 0 1 = cc in absurd (omega arith)
refusal_told (planned n l c left) (refused number' place') e = inr cc
refusal_told (refused number' place') y e = inl cc

-- So where no range is told, both plans are refused so; and their refusals are 1 to 8 (`refusal_numbers`).
pub no_range_told :
    (s : List ℕ) {number place : ℕ} → range s ≡ no_range number place
    → (answer_asked by_cheapest s 64 ≡ refused number place) × (answer_asked by_HEFT s 64 ≡ refused number place)
unfolding range
no_range_told s {number} {place} e =
    ⊎_elim (λ (one : answer_asked by_cheapest s 64 ≡ refused number place). (one, refused_alike by_cheapest by_HEFT tt tt s 64 one))
    (λ (other : answer_asked by_HEFT s 64 ≡ refused number place). (refused_alike by_HEFT by_cheapest tt tt s 64 other, other))
    (refusal_told (answer_asked by_cheapest s 64) (answer_asked by_HEFT s 64) e)
