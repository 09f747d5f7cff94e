-- Two inputs that agree up to N bytes have the same record wherever it ends within N: the same bytes are looked at, and the same
-- comparisons with the length made.
use Rattle.std.specs.Prelude.{◌≡◌, ℕ, suc, ◌+◌, ◌-◌, ◌<◌, ◌≤◌, length, leb}
use Rattle.std.proofs.Common.{sym, arith, leb-true, le-leb}
use mathlib.Core.List.{List, []}
use Rattle.label.specs.Label.{Label}
use Rattle.label.specs.Length.{label_length}
use Rattle.label.specs.Laws.{label_length_is_length, length_is_label_length}
use Rattle.rules.specs.Fields.{Kind, H, D, K, P, Q, M, T, W, E, Z, body, size, byte, two_bytes, four_bytes, H_tasks, H_processors, H_budget, D_deadline}
use Rattle.rules.specs.Fields.{K_share, P_processor, P_price, Q_minimum, M_processor, M_begin, M_end, T_task, T_label, W_task, W_processor, W_minutes, E_from, E_to}
use Rattle.rules.specs.Fields.{E_transfer}
use Rattle.rules.specs.Records.{Record, end, opening_by, opening, record_at, header_at, deadline_at, share_at, price_checks, price_at, minimum_at}
use Rattle.rules.specs.Records.{processor_at, follows, above, apart, fifth, window_ranges, window_at, task_at, minutes_at, edge_at, end_at}

pub record Agree (N : ℕ) (s t : List ℕ) : Type 0 where
  pub same_byte : (at : ℕ) → at < N → byte s at ≡ byte t at
  pub same_reach : (past : ℕ) → past ≤ N → leb past (length s) ≡ leb past (length t)

agree_sym : {N : ℕ} {s t : List ℕ} → Agree N s t → Agree N t s
agree_sym a = record { same_byte = λ at h. sym (a.same_byte at h); same_reach = λ past h. sym (a.same_reach past h) }

label_agrees : {N : ℕ} {s t : List ℕ} {at len : ℕ} → Agree N s t → at + 8 ≤ N → Label s at len → Label t at len
unfolding byte
label_agrees {at} a h l =
    record {
      whole = leb-true _ _ (rw (← a.same_reach (at + 8) h) (le-leb _ _ l.whole));
      one_or_more = l.one_or_more;
      eight_or_fewer = l.eight_or_fewer;
      of_the_list = λ k below. rw (a.same_byte (at + k) (omega arith)) at (l.of_the_list k below);
      then_spaces = λ k past below. rw (a.same_byte (at + k) (omega arith)) at (l.then_spaces k past below);
    }

module _ {N : ℕ} {s t : List ℕ} (a : Agree N s t) where
  label_length_agrees : (at : ℕ) → at + 8 ≤ N → label_length s at ≡ label_length t at
  label_length_agrees at h =
      let found = label_length_is_length s at in
      length_is_label_length
      (record {
        label = λ some. label_agrees a h (found.label some);
        none = λ none len l. found.none none len (label_agrees (agree_sym a) h l);
      })

  pub two_agree : (at : ℕ) → at + 2 ≤ N → two_bytes s at ≡ two_bytes t at
  unfolding two_bytes
  two_agree at h = rw (a.same_byte at (omega arith), a.same_byte (at + 1) (omega arith))

  pub four_agree : (at : ℕ) → at + 4 ≤ N → four_bytes s at ≡ four_bytes t at
  unfolding four_bytes
  four_agree at h = rw (two_agree at (omega arith), two_agree (at + 2) (omega arith))

  record_agrees : (at : ℕ) (k : Kind) (checks : List ℕ) (r : Record) →
      at + size k ≤ N → record_at s at k checks r ≡ record_at t at k checks r
  unfolding record_at opening opening_by size
  record_agrees at k checks r h =
      rw (a.same_reach (suc at) (omega arith), a.same_byte at (omega arith), a.same_reach (at + (1 + body k)) h)

  pub header_agrees : (at : ℕ) → at + size H ≤ N → header_at s at ≡ header_at t at
  unfolding header_at size body H_tasks H_processors H_budget
  header_agrees at h =
      rw (a.same_byte (at + 1) (omega arith), a.same_byte (at + 2) (omega arith), four_agree (at + 3) (omega arith)) (record_agrees at H _ _ h)

  pub deadline_agrees : (at : ℕ) → at + size D ≤ N → deadline_at s at ≡ deadline_at t at
  unfolding deadline_at size body D_deadline
  deadline_agrees at h = rw (four_agree (at + 1) (omega arith)) (record_agrees at D _ _ h)

  pub share_agrees : (budget at : ℕ) → at + size K ≤ N → share_at s budget at ≡ share_at t budget at
  unfolding share_at size body K_share
  share_agrees budget at h = rw (two_agree (at + 1) (omega arith)) (record_agrees at K _ _ h)

  price_agrees : (at j : ℕ) → at + size P ≤ N → price_at s at j ≡ price_at t at j
  unfolding price_at price_checks size body P_processor P_price
  price_agrees at j h = rw (a.same_byte (at + 1) (omega arith), a.same_byte (at + 2) (omega arith)) (record_agrees at P _ _ h)

  minimum_agrees : (at j : ℕ) → at + size Q ≤ N → minimum_at s at j ≡ minimum_at t at j
  unfolding minimum_at price_checks size body P_processor P_price Q_minimum
  minimum_agrees at j h =
      rw (a.same_byte (at + 1) (omega arith), a.same_byte (at + 2) (omega arith), two_agree (at + 3) (omega arith)) (record_agrees at Q _ _ h)

  -- A `P` or a `Q`, of which a `Q` is the longer.
  pub processor_agrees : (at j : ℕ) → at + size Q ≤ N → processor_at s at j ≡ processor_at t at j
  unfolding processor_at size body
  processor_agrees at j h =
      rw (a.same_byte at (omega arith), minimum_agrees at j h, price_agrees at j (omega arith))

  pub task_agrees : (at i : ℕ) → at + size T ≤ N → task_at s at i ≡ task_at t at i
  unfolding task_at size body T_task T_label
  task_agrees at i h = rw (a.same_byte (at + 1) (omega arith), label_length_agrees (at + 2) (omega arith)) (record_agrees at T _ _ h)

  pub minutes_agrees : (at i j : ℕ) → at + size W ≤ N → minutes_at s at i j ≡ minutes_at t at i j
  unfolding minutes_at size body W_task W_processor W_minutes
  minutes_agrees at i j h =
      rw (a.same_byte (at + 1) (omega arith), a.same_byte (at + 2) (omega arith), two_agree (at + 3) (omega arith)) (record_agrees at W _ _ h)

  -- A record's own bytes, and those of the one before it.
  pub edge_agrees : (n at k : ℕ) → at + size E ≤ N → edge_at s n at k ≡ edge_at t n at k
  unfolding edge_at follows above size body E_from E_to E_transfer
  edge_agrees n at k h =
      rw (
        a.same_byte (at + 1) (omega arith),
        a.same_byte (at + 2) (omega arith),
        two_agree (at + 3) (omega arith),
        a.same_byte (at - 5 + 1) (omega arith),
        a.same_byte (at - 5 + 2) (omega arith),
      )
      (record_agrees at E _ _ h)

  pub window_agrees : (m at k : ℕ) → at + size M ≤ N → window_at s m at k ≡ window_at t m at k
  unfolding window_at window_ranges follows above apart fifth size body M_processor M_begin M_end
  window_agrees m at k h =
      rw (
        a.same_byte (at + 1) (omega arith),
        four_agree (at + 2) (omega arith),
        four_agree (at + 6) (omega arith),
        a.same_byte (at - 10 + 1) (omega arith),
        four_agree (at - 10 + 2) (omega arith),
        four_agree (at - 10 + 6) (omega arith),
        a.same_byte (at - 40 + 1) (omega arith),
      )
      (record_agrees at M _ _ h)

  pub end_agrees : (at : ℕ) → at + size Z ≤ N → end_at s at ≡ end_at t at
  unfolding end_at
  end_agrees at h = record_agrees at Z [] end h
