-- A processor's fifth window has four of its processor right before it: windows rise by processor, so they stand between two of one.
use Rattle.std.specs.Prelude.{ℕ, zero, suc, ◌+◌, ◌*◌, ◌-◌, ◌≤◌, ◌≡◌, refl, List}
use Rattle.std.proofs.Common.{ap, ◌∙◌, subst, inl, inr, arith}
use Rattle.rules.specs.Fields.{M, size, body, M_processor, M_begin}
use Rattle.demands.specs.Demand1.Wanted.{Wanted, header, single, processor, task, minutes, window, edge, end, kind_of, After, IsAbove, NumbersDue, IsFifth}
use Rattle.demands.specs.Demand1.Wanted.{Passes}
use Rattle.demands.specs.Demand1.Reads.{DueHere, only, at_most_one, either_processor, window_or_task, edge_or_end, nothing, IsDue, that_one, or_later}
use Rattle.demands.specs.Demand1.Reads.{a_window, Follows, after_header, after_deadline, after_share, next_processor, first_window, next_window}
use Rattle.demands.specs.Demand1.Reads.{first_minutes, next_minutes, next_task, first_edge, next_edge, after_end, Comes, at_the_front, past}

-- What is due with windows before it: how many; else none.
abbrev windows_before : DueHere → ℕ
windows_before (window_or_task before) = before
windows_before (only w) = 0
windows_before (at_most_one o later) = windows_before later
windows_before (either_processor j) = 0
windows_before (edge_or_end before) = 0
windows_before nothing = 0

-- What stands right before, where this is due with some windows before it.
pub record WindowBefore (s : List ℕ) (at before : ℕ) : Type 0 where
  pub place : ℕ
  pub ends : at ≡ place + size M
  pub passes : Passes s place (window before)
  pub due : DueHere
  pub comes : Comes s due place
  pub as_many : windows_before due ≡ before

-- A window is due alone nowhere: with it the first task is.
abbrev NotAlone : DueHere → Type 0
NotAlone (only (window before)) = ⊥
NotAlone (only header) = Unit {0}
NotAlone (only (single o)) = Unit {0}
NotAlone (only (processor k j)) = Unit {0}
NotAlone (only (task i)) = Unit {0}
NotAlone (only (minutes i j)) = Unit {0}
NotAlone (only (edge before)) = Unit {0}
NotAlone (only end) = Unit {0}
NotAlone (at_most_one o later) = NotAlone later
NotAlone (either_processor j) = Unit {0}
NotAlone (window_or_task before) = Unit {0}
NotAlone (edge_or_end before) = Unit {0}
NotAlone nothing = Unit {0}

follows_not_alone : {s : List ℕ} {at : ℕ} {w : Wanted} {due : DueHere} → Follows s at w due → NotAlone due
follows_not_alone after_header = tt
follows_not_alone after_deadline = tt
follows_not_alone after_share = tt
follows_not_alone (next_processor l) = tt
follows_not_alone (first_window e) = tt
follows_not_alone next_window = tt
follows_not_alone first_minutes = tt
follows_not_alone (next_minutes l) = tt
follows_not_alone (next_task e k) = tt
follows_not_alone (first_edge e k) = tt
follows_not_alone next_edge = tt
follows_not_alone after_end = tt

comes_not_alone : {s : List ℕ} {due : DueHere} {at : ℕ} → Comes s due at → NotAlone due
comes_not_alone at_the_front = tt
comes_not_alone (past before d passes follows) = follows_not_alone follows

as_many_due : {due : DueHere} {before : ℕ} → IsDue due (window before) → NotAlone due → windows_before due ≡ before
as_many_due that_one with_another = absurd with_another
as_many_due (or_later d) with_another = as_many_due d with_another
as_many_due a_window with_another = refl

-- One window back.
one_back : {s : List ℕ} {due : DueHere} {at before : ℕ} → Comes s due at → windows_before due ≡ suc before → WindowBefore s at before
one_back at_the_front e = absurd (omega arith)
one_back {s} {before = before} (past {due = due} {at = at} {w = w} comes d passes follows) e = go comes d passes follows e
  where
    go :
        {due next : DueHere} {at : ℕ} {w : Wanted} → Comes s due at → IsDue due w → Passes s at w → Follows s at w next
        → windows_before next ≡ suc before → WindowBefore s (at + size (kind_of w)) before
    go comes d passes after_header e = absurd (omega arith)
    go comes d passes after_deadline e = absurd (omega arith)
    go comes d passes after_share e = absurd (omega arith)
    go comes d passes (next_processor l) e = absurd (omega arith)
    go comes d passes (first_window q) e = absurd (omega arith)
    go {due} {at = at} comes d passes (next_window {before = k}) e =
        let same : k ≡ before = omega arith in
        record {
          place = at;
          ends = refl;
          passes = subst (λ x. Passes s at (window x)) same passes;
          due = due;
          comes = comes;
          as_many = as_many_due d (comes_not_alone comes) ∙ same;
        }
    go comes d passes first_minutes e = absurd (omega arith)
    go comes d passes (next_minutes l) e = absurd (omega arith)
    go comes d passes (next_task q k) e = absurd (omega arith)
    go comes d passes (first_edge q k) e = absurd (omega arith)
    go comes d passes next_edge e = absurd (omega arith)
    go comes d passes after_end e = absurd (omega arith)

-- A window that is not the first is of no earlier processor than the one before it.
not_earlier :
    (s : List ℕ) (at before : ℕ) → After M (IsAbove (M_processor s) (M_begin s)) at (suc before) → M_processor s (at - size M) ≤ M_processor s at
not_earlier s at before (inl none) = absurd (omega arith)
not_earlier s at before (inr (inl less)) = omega arith
not_earlier s at before (inr (inr (same, less))) = omega arith

-- Of the window in hand, whose place in the order is tested before: it is its processor's fifth just where the four right before it are of its processor.
pub fifth_after_four :
    (s : List ℕ) {at before : ℕ} → Comes s (window_or_task before) at → NumbersDue s at (window before) → IsFifth s at before
    → (i : ℕ) → i ≤ 4 → M_processor s (at - i * size M) ≡ M_processor s at
unfolding size body
fifth_after_four s {at} {before} comes due (four, same) = between (before - 4) (omega arith)
  where
    between : (b : ℕ) → before ≡ suc (suc (suc (suc b))) → (i : ℕ) → i ≤ 4 → M_processor s (at - i * 10) ≡ M_processor s at
    between b e =
        let first = one_back comes e in
        let second = one_back first.comes first.as_many in
        let third = one_back second.comes second.as_many in
        let in_hand = not_earlier s at _ (subst (After M (IsAbove (M_processor s) (M_begin s)) at) e due.0) in
        let at_first = not_earlier s first.place _ first.passes.numbers.0 in
        let at_second = not_earlier s second.place _ second.passes.numbers.0 in
        let at_third = not_earlier s third.place _ third.passes.numbers.0 in
        let one : first.place ≡ at - 1 * 10 = omega (arith, first.ends) in
        let two : second.place ≡ at - 2 * 10 = omega (arith, first.ends, second.ends) in
        let three : third.place ≡ at - 3 * 10 = omega (arith, first.ends, second.ends, third.ends) in
        squeezed in_hand
        (rw (one, one_further 1) at at_first)
        (rw (two, one_further 2) at at_second)
        (rw (three, one_further 3) at at_third)
      where
        one_further : (i : ℕ) → at - i * 10 - 10 ≡ at - (i + 1) * 10
        one_further i = omega arith

        squeezed :
            M_processor s (at - 10) ≤ M_processor s at → M_processor s (at - 2 * 10) ≤ M_processor s (at - 1 * 10)
            → M_processor s (at - 3 * 10) ≤ M_processor s (at - 2 * 10) → M_processor s (at - 4 * 10) ≤ M_processor s (at - 3 * 10)
            → (i : ℕ) → i ≤ 4 → M_processor s (at - i * 10) ≡ M_processor s at
        squeezed a b c d zero l = let here : at - 0 * 10 ≡ at = omega arith in ap (M_processor s) here
        squeezed a b c d (suc zero) l = omega arith
        squeezed a b c d (suc (suc zero)) l = omega arith
        squeezed a b c d (suc (suc (suc zero))) l = omega arith
        squeezed a b c d (suc (suc (suc (suc zero)))) l = same
        squeezed a b c d (suc (suc (suc (suc (suc i))))) l = absurd (omega arith)
