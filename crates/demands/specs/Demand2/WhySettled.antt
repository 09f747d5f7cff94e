-- What is true of a start settles what is said of it: no two answers are.
use Rattle.std.specs.Prelude.{ℕ, zero, suc, ◌+◌, ◌-◌, ◌≤◌, ◌<◌, ◌≡◌, refl, List}
use Rattle.std.proofs.Common.{sym, ap, ap₂, subst, ◌∙◌, ⊎_elim, arith}
use Rattle.rules.specs.Fields.{M_processor, M_begin, M_end}
use Rattle.rules.specs.Reading.{Request}
use Rattle.rules.specs.Workflow.{Workflow, window_place}
use Rattle.rules.specs.Rows.{Row}
use Rattle.rules.specs.Why.{Why, late_data, in_window, beside_row}
use Rattle.rules.specs.Method.{Name}
use Rattle.good.specs.Good.{Good}
use Rattle.good.specs.ReadIsGood.{read_is_good}
use Rattle.laws.specs.Numbers.{below_or_on}
use Rattle.demands.specs.Demand1.Reading.{read_iff_passes}
use Rattle.demands.specs.Demand2.WhyNot.{arrives, WhyTrue, own, late, window, another_row}
use Rattle.demands.specs.Demand2.{PlanGot}

-- Windows of one processor rise by begin, so that two with one begin are one.
module _ (s : List ℕ) (r : Request) (good : Good s r) where
  abbrev on : ℕ → ℕ
  on e = M_processor s (window_place r e)

  abbrev begins : ℕ → ℕ
  begins e = M_begin s (window_place r e)

  later_begins : (e more : ℕ) → e + (more + 1) < r.windows → (on e ≤ on (e + (more + 1))) × (on e ≡ on (e + (more + 1)) → begins e < begins (e + (more + 1)))
  later_begins e zero l =
      let rises = good.windows_rise e (omega arith) in
      let q : e + (0 + 1) ≡ e + 1 = omega arith in
      rw q (rises.by_first, rises.then_second)
  later_begins e (suc more) l =
      let q : e + (suc more + 1) ≡ e + (more + 1) + 1 = omega arith in
      let (before, before_begins) = later_begins e more (omega arith) in
      let rises = good.windows_rise (e + (more + 1)) (omega arith) in
      rw q (
        omega (arith, before, rises.by_first),
        λ same.
            omega (arith, before_begins (omega (arith, same, before, rises.by_first)), rises.then_second (omega (arith, same, before, rises.by_first))),
      )

  one_begin_one_window : (e e' : ℕ) → e < r.windows → e' < r.windows → on e ≡ on e' → begins e ≡ begins e' → e ≡ e'
  one_begin_one_window e e' l l' same_on same_begin =
      ⊎_elim
      (λ (h : e ≤ e'). ⊎_elim (λ (h' : e' ≤ e). omega arith) (λ (h' : e + 1 ≤ e'). absurd (apart e e' l' h' same_on same_begin)) (below_or_on e' e))
      (λ (h : e' + 1 ≤ e). absurd (apart e' e l h (sym same_on) (sym same_begin)))
      (below_or_on e e')
    where
      apart : (e e' : ℕ) → e' < r.windows → e + 1 ≤ e' → on e ≡ on e' → begins e ≡ begins e' → ⊥
      apart e e' l less same_on same_begin =
          let q : e + (e' - e - 1 + 1) ≡ e' = omega arith in
          let rises = subst (λ x. on e ≡ on x → begins e < begins x) q (later_begins e (e' - e - 1) (omega arith)).1 in
          omega (arith, rises same_on)

  module _ (W : Workflow) (n : ℕ) (row : ℕ → Row) (i t : ℕ) where
    settled : {a b : Why} → WhyTrue s r W n row i t a → WhyTrue s r W n row i t b → a ≡ b
    settled (own h) (own h') = refl
    settled (own h) (late early e is last lowest) = absurd (omega arith)
    settled (own h) (window early in_time e is earliest) = absurd (omega arith)
    settled (own h) (another_row early in_time up k is lowest) = absurd (omega arith)
    settled (late early e is last lowest) (own h) = absurd (omega arith)
    settled (late early e is last lowest) (late early' e' is' last' lowest') =
        let same : arrives s r W n row i t e ≡ arrives s r W n row i t e' = omega (arith, last e' is'.0 is'.1, last' e is.0 is.1) in
        let from : W.from e ≡ W.from e' =
        omega (arith, lowest e' is'.0 is'.1 (sym same), lowest' e is.0 is.1 same) in
        ap₂ late_data from same
    settled (late early e is last lowest) (window early' in_time e' is' earliest) = absurd (in_time e is)
    settled (late early e is last lowest) (another_row early' in_time up k is' lowest') = absurd (in_time e is)
    settled (window early in_time e is earliest) (own h) = absurd (omega arith)
    settled (window early in_time e is earliest) (late early' e' is' last lowest) = absurd (in_time e' is')
    settled (window early in_time e is earliest) (window early' in_time' e' is' earliest') =
        let one = one_begin_one_window e e' is.0 is'.0 (is.1 ∙ sym is'.1) (omega (arith, earliest e' is', earliest' e is)) in
        ap (λ x. in_window (M_begin s (window_place r x)) (M_end s (window_place r x))) one
    settled (window early in_time e is earliest) (another_row early' in_time' up k is' lowest) = absurd (up e is)
    settled (another_row early in_time up k is lowest) (own h) = absurd (omega arith)
    settled (another_row early in_time up k is lowest) (late early' e' is' last lowest') = absurd (in_time e' is')
    settled (another_row early in_time up k is lowest) (window early' in_time' e' is' earliest) = absurd (up e' is')
    settled (another_row early in_time up k is lowest) (another_row early' in_time' up' k' is' lowest') =
        let one : k ≡ k' = omega (arith, lowest k' is', lowest' k is) in
        ap (λ x. beside_row x (row x).start (row x).finish) one

-- So of a plan that the caller got there is one thing to say of each start.
pub why_true_settled :
    {M : Name} {s : List ℕ} {lent n l c left : ℕ} {row : ℕ → Row} (got : PlanGot M s lent n l c left row) (W : Workflow) (i t : ℕ) {a b : Why}
    → WhyTrue s got.request W n row i t a → WhyTrue s got.request W n row i t b → a ≡ b
why_true_settled {s = s} {n = n} {row = row} got W =
    settled s got.request (read_is_good s ((read_iff_passes s got.request).1 got.passes).1) W n row
