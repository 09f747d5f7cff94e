-- A record that is due either passes, and reading goes on past it, or has a fault: kind by kind.
use Rattle.std.specs.Prelude.{ℕ, ◌+◌, ◌*◌, ◌-◌, ◌≤◌, ◌≡◌, refl, Bool, ◌⊎◌, List, leb}
use Rattle.std.proofs.Math.Bool.{not}
use Rattle.std.proofs.Common.{inl, inr, arith}
use Rattle.label.specs.Label.{Label}
use Rattle.label.specs.Length.{label_length}
use Rattle.label.specs.Laws.{label_length_is_length, told_by_length}
use Rattle.rules.specs.Fields.{Kind, M, E, size, H_tasks, H_processors, H_budget, D_deadline, K_share, P_processor, P_price, Q_minimum, M_processor}
use Rattle.rules.specs.Fields.{M_begin, M_end, T_task, T_label, W_task, W_processor, W_minutes, E_from, E_to, E_transfer}
use Rattle.rules.specs.Records.{Record, header_at, deadline_at, share_at, price_checks, price_at, minimum_at, follows, above, apart, fifth}
use Rattle.rules.specs.Records.{window_ranges, window_at, task_at, minutes_at, edge_ranges, edge_at, end_at}
use Rattle.good.specs.Good.{Between, GoodEdge, GoodWindow, Apart}
use Rattle.demands.specs.Demand1.Wanted.{deadline, share, ProcessorKind, as_P, as_Q, Wanted, header, single, processor, window, task, minutes, edge}
use Rattle.demands.specs.Demand1.Wanted.{end, kind_of, After, IsAbove, IsFifth, NumbersDue, FieldsInRange, Whole, Passes}
use Rattle.demands.specs.Demand1.Reads.{DueHere, not_the_one_due, out_of_range, no_room, bad_label}
use Rattle.demands.specs.Demand1.Tells.{Tells, holds, fails, told, leb_tells, ltb_tells, eqb_tells, not_tells, and_tells, or_tells, within_tells}
use Rattle.demands.specs.Demand1.Goes.{Goes, goes_check, goes_checked}
use Rattle.demands.specs.Demand1.DueAt.{DueAt, Past, Faulty, stop, Own, opened_goes}

past : {s : List ℕ} {at : ℕ} {w : Wanted} {r : Record} → Passes s at w → Past s at w (at + size (kind_of w)) r
past passes = record { ends = refl; passes = passes }

module _ (s : List ℕ) (at : ℕ) where
  pub header_goes : {due : DueHere} → DueAt s due at header → Goes (Past s at header) (Faulty s due at) (header_at s at)
  unfolding header_at
  header_goes {due} a =
      opened_goes s at header a _ _ (λ whole.
      let out : (FieldsInRange s at header → ⊥) → Faulty s due at 4 at = λ not.
      stop s at header a (out_of_range a.is_due whole tt tt not) in
      goes_check (within_tells 1 (H_tasks s at) 64) 3
      (λ n.
      goes_check (within_tells 1 (H_processors s at) 16) 3
      (λ m.
      goes_check (within_tells 0 (H_budget s at) 20_000_000) 3
      (λ budget. goes_checked (past (record { whole = whole; room = tt; numbers = tt; in_range = (n, m, budget); label = tt })))
      (λ not. out (λ in_range. not in_range.2)))
      (λ not. out (λ in_range. not in_range.1)))
      (λ not. out (λ in_range. not in_range.0)))

  pub deadline_goes : {due : DueHere} → DueAt s due at (single deadline) → Goes (Past s at (single deadline)) (Faulty s due at) (deadline_at s at)
  unfolding deadline_at
  deadline_goes {due} a =
      opened_goes s at (single deadline) a _ _ (λ whole.
      goes_check (within_tells 1 (D_deadline s at) 200_000) 3
      (λ in_range. goes_checked (past (record { whole = whole; room = tt; numbers = tt; in_range = in_range; label = tt })))
      (λ not. stop s at (single deadline) a (out_of_range a.is_due whole tt tt not)))

  -- Beside the budget of the header.
  pub share_goes : {due : DueHere} → DueAt s due at (single share) → Goes (Past s at (single share)) (Faulty s due at) (share_at s (H_budget s 0) at)
  unfolding share_at
  share_goes {due} a =
      opened_goes s at (single share) a _ _ (λ whole.
      let out : (FieldsInRange s at (single share) → ⊥) → Faulty s due at 4 at = λ not.
      stop s at (single share) a (out_of_range a.is_due whole tt tt not) in
      goes_check (within_tells 0 (K_share s at) 1_000) 3
      (λ thousandths.
      goes_check (eqb_tells (H_budget s 0) 0) 3
      (λ none. goes_checked (past (record { whole = whole; room = tt; numbers = tt; in_range = (thousandths, none); label = tt })))
      (λ not. out (λ in_range. not in_range.1)))
      (λ not. out (λ in_range. not in_range.0)))

  -- What both kinds of processor records check; then the others.
  price_checked :
      {due : DueHere} (k : ProcessorKind) (j : ℕ) (a : DueAt s due at (processor k j)) {more : List ℕ} {r : Record} → Whole s at (processor k j)
      → (FieldsInRange s at (processor k j) → Between 0 (P_price s at) 100)
      → (P_processor s at ≡ j → Between 0 (P_price s at) 100 → Own s at (processor k j) a more r)
      → Own s at (processor k j) a (price_checks s at j more) r
  unfolding price_checks
  price_checked k j a whole of_Fields rest =
      goes_check (eqb_tells (P_processor s at) j) 2
      (λ number.
      goes_check (within_tells 0 (P_price s at) 100) 3 (rest number)
      (λ not. stop s at (processor k j) a (out_of_range a.is_due whole tt number (λ fields. not (of_Fields fields)))))
      (λ not. stop s at (processor k j) a (not_the_one_due a.is_due whole tt not))

  pub price_goes :
      {due : DueHere} (j : ℕ) → DueAt s due at (processor as_P j) → Goes (Past s at (processor as_P j)) (Faulty s due at) (price_at s at j)
  unfolding price_at
  price_goes {due} j a =
      opened_goes s at (processor as_P j) a _ _ (λ whole.
      price_checked as_P j a whole (λ fields. fields) (λ number price.
      goes_checked (past (record { whole = whole; room = tt; numbers = number; in_range = price; label = tt }))))

  pub minimum_goes :
      {due : DueHere} (j : ℕ) → DueAt s due at (processor as_Q j) → Goes (Past s at (processor as_Q j)) (Faulty s due at) (minimum_at s at j)
  unfolding minimum_at
  minimum_goes {due} j a =
      opened_goes s at (processor as_Q j) a _ _ (λ whole.
      price_checked as_Q j a whole (λ fields. fields.0) (λ number price.
      goes_check (within_tells 0 (Q_minimum s at) 10_000) 3
      (λ least. goes_checked (past (record { whole = whole; room = tt; numbers = number; in_range = (price, least); label = tt })))
      (λ not. stop s at (processor as_Q j) a (out_of_range a.is_due whole tt number (λ fields. not fields.1)))))

  label_tells : (place : ℕ) → Tells ((len : ℕ) × Label s place len) (leb 1 (label_length s place))
  label_tells place =
      let l = told_by_length (label_length_is_length s place) in
      told _ l.passes (λ e found. l.fails e found.0 found.1)

  pub task_goes : {due : DueHere} (i : ℕ) → DueAt s due at (task i) → Goes (Past s at (task i)) (Faulty s due at) (task_at s at i)
  unfolding task_at
  task_goes {due} i a =
      opened_goes s at (task i) a _ _ (λ whole.
      goes_check (eqb_tells (T_task s at) i) 2
      (λ number.
      goes_check (label_tells (T_label at)) 4
      (λ label. goes_checked (past (record { whole = whole; room = tt; numbers = number; in_range = tt; label = label })))
      (λ not. stop s at (task i) a (bad_label a.is_due whole tt number tt not)))
      (λ not. stop s at (task i) a (not_the_one_due a.is_due whole tt not)))

  pub minutes_goes : {due : DueHere} (i j : ℕ) → DueAt s due at (minutes i j) → Goes (Past s at (minutes i j)) (Faulty s due at) (minutes_at s at i j)
  unfolding minutes_at
  minutes_goes {due} i j a =
      opened_goes s at (minutes i j) a _ _ (λ whole.
      let other : (NumbersDue s at (minutes i j) → ⊥) → Faulty s due at 3 at = λ not.
      stop s at (minutes i j) a (not_the_one_due a.is_due whole tt not) in
      goes_check (eqb_tells (W_task s at) i) 2
      (λ number.
      goes_check (eqb_tells (W_processor s at) j) 2
      (λ processor.
      goes_check (within_tells 0 (W_minutes s at) 2_000) 3
      (λ in_range. goes_checked (past (record { whole = whole; room = tt; numbers = (number, processor); in_range = in_range; label = tt })))
      (λ not. stop s at (minutes i j) a (out_of_range a.is_due whole tt (number, processor) not)))
      (λ not. other (λ numbers. not numbers.1)))
      (λ not. other (λ numbers. not numbers.0)))

  after_tells : (kind : Kind) (so : ℕ → ℕ → Type 0) (test : ℕ → ℕ → Bool) (before : ℕ) → ((last : ℕ) → Tells (so last at) (test last at))
      → Tells (After kind so at before) (follows kind test at before)
  unfolding follows
  after_tells kind so test before tells = or_tells (eqb_tells before 0) (tells (at - size kind))

  above_tells : (first second : ℕ → ℕ) (last : ℕ) → Tells (IsAbove first second last at) (above first second last at)
  unfolding above
  above_tells first second last =
      or_tells (ltb_tells (first last) (first at)) (and_tells (eqb_tells (first last) (first at)) (ltb_tells (second last) (second at)))

  apart_tells : (last : ℕ) → Tells (Apart s last at) (apart s last at)
  unfolding apart
  apart_tells last = go (or_tells (not_tells (eqb_tells (M_processor s last) (M_processor s at))) (leb_tells (M_end s last) (M_begin s at)))
    where
      go : {t : Bool} → Tells ((M_processor s last ≡ M_processor s at → ⊥) ⊎ (M_end s last ≤ M_begin s at)) t → Tells (Apart s last at) t
      go (holds (inl other)) = holds (λ same. absurd (other same))
      go (holds (inr ended)) = holds (λ same. ended)
      go (fails n) = fails (λ apart. n (inl (λ same. n (inr (apart same)))))

  fifth_tells : (before : ℕ) → Tells (IsFifth s at before → ⊥) (not (fifth s at before))
  unfolding fifth
  fifth_tells before = not_tells (and_tells (leb_tells 4 before) (eqb_tells (M_processor s (at - 4 * size M)) (M_processor s at)))

  pub window_goes :
      {due : DueHere} (before : ℕ) → DueAt s due at (window before)
      → Goes (Past s at (window before)) (Faulty s due at) (window_at s (H_processors s 0) at before)
  unfolding window_at window_ranges
  window_goes {due} before a =
      opened_goes s at (window before) a _ _ (λ whole.
      let misplaced : (NumbersDue s at (window before) → ⊥) → Faulty s due at 3 at = λ not.
      stop s at (window before) a (not_the_one_due a.is_due whole tt not) in
      goes_check (after_tells M (IsAbove (M_processor s) (M_begin s)) _ before (above_tells (M_processor s) (M_begin s))) 2
      (λ rises.
      goes_check (after_tells M (Apart s) _ before apart_tells) 2
      (λ apart.
      let out : (FieldsInRange s at (window before) → ⊥) → Faulty s due at 4 at = λ not.
      stop s at (window before) a (out_of_range a.is_due whole tt (rises, apart) not) in
      goes_check (ltb_tells (M_processor s at) (H_processors s 0)) 3
      (λ processor.
      goes_check (ltb_tells (M_begin s at) (M_end s at)) 3
      (λ minutes.
      goes_check (leb_tells (M_end s at) 20_000) 3
      (λ end.
      goes_check (fifth_tells before) 3
      (λ few.
      let good : GoodWindow s (H_processors s 0) at = record { processor_below = processor; has_minutes = minutes; end_in = end } in
      goes_checked (past (record { whole = whole; room = tt; numbers = (rises, apart); in_range = (good, few); label = tt })))
      (λ not. out (λ fields. not fields.1)))
      (λ not. out (λ fields. not fields.0.end_in)))
      (λ not. out (λ fields. not fields.0.has_minutes)))
      (λ not. out (λ fields. not fields.0.processor_below)))
      (λ not. misplaced (λ numbers. not numbers.1)))
      (λ not. misplaced (λ numbers. not numbers.0)))

  pub edge_goes :
      {due : DueHere} (before : ℕ) → DueAt s due at (edge before)
      → Goes (Past s at (edge before)) (Faulty s due at) (edge_at s (H_tasks s 0) at before)
  unfolding edge_at edge_ranges
  edge_goes {due} before a =
      opened_goes s at (edge before) a _ _ (λ whole.
      goes_check (ltb_tells before 512) 3
      (λ room.
      goes_check (after_tells E (IsAbove (E_from s) (E_to s)) _ before (above_tells (E_from s) (E_to s))) 2
      (λ rises.
      let out : (GoodEdge s (H_tasks s 0) at → ⊥) → Faulty s due at 4 at = λ not.
      stop s at (edge before) a (out_of_range a.is_due whole room rises not) in
      goes_check (ltb_tells (E_from s at) (H_tasks s 0)) 3
      (λ from.
      goes_check (and_tells (ltb_tells (E_to s at) (H_tasks s 0)) (not_tells (eqb_tells (E_from s at) (E_to s at)))) 3
      (λ to.
      goes_check (within_tells 0 (E_transfer s at) 1_000) 3
      (λ transfer.
      let good : GoodEdge s (H_tasks s 0) at = record { from_below = from; to_below = to.0; unequal = to.1; transfer_in = transfer.to_high } in
      goes_checked (past (record { whole = whole; room = room; numbers = rises; in_range = good; label = tt })))
      (λ not. out (λ good. not (record { from_low = omega arith; to_high = good.transfer_in }))))
      (λ not. out (λ good. not (good.to_below, good.unequal))))
      (λ not. out (λ good. not good.from_below)))
      (λ not. stop s at (edge before) a (not_the_one_due a.is_due whole room not)))
      (λ not. stop s at (edge before) a (no_room a.is_due whole not)))

  pub end_goes : {due : DueHere} → DueAt s due at end → Goes (Past s at end) (Faulty s due at) (end_at s at)
  unfolding end_at
  end_goes {due} a =
      opened_goes s at end a _ _ (λ whole. goes_checked (past (record { whole = whole; room = tt; numbers = tt; in_range = tt; label = tt })))
