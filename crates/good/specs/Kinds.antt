-- What a record of each kind says when it was read: where the next one begins, and its numbers in their ranges.
use Rattle.std.specs.Prelude.{◌≡◌, refl, ℕ, ◌+◌, ◌*◌, ◌-◌, ◌<◌, ◌≤◌, Bool, true, false, cond, not, ◌&&◌, ◌||◌, List, length, leb, ltb, eqb}
use Rattle.std.proofs.Math.Bool.{and-eq-true_iff}
use Rattle.std.proofs.lemmas.Bool.{false≢true, eqb-false, not-true}
use Rattle.std.proofs.Common.{arith, leb-true, ltb-true, eqb-true, le-leb, eq-eqb}
use Rattle.label.specs.Label.{Label}
use Rattle.label.specs.Length.{label_length}
use Rattle.label.specs.Laws.{label_of_label_length}
use Rattle.rules.specs.Fields.{Kind, H, D, K, P, Q, M, T, W, E, Z, kind_byte, size, byte, H_tasks, H_processors, H_budget, D_deadline, K_share, P_price}
use Rattle.rules.specs.Fields.{Q_minimum, T_label, M_processor, M_begin, M_end, W_minutes, E_from, E_to}
use Rattle.rules.specs.Records.{Record, read, within, header_at, deadline_at, share_at, price_checks, price_at, minimum_at, processor_at, task_at}
use Rattle.rules.specs.Records.{minutes_at, follows, above, apart, fifth, window_ranges, window_at, edge_ranges, edge_at, end_at}
use Rattle.rules.specs.Workflow.{processor_kind, processor_minimum}
use Rattle.good.specs.Good.{Between, GoodEdge, GoodWindow, Above, Apart}
use Rattle.good.specs.Records.{passed, record_read}

between : (low x high : ℕ) → within low x high ≡ true → Between low x high
unfolding within
between low x high e =
    let (least, most) = (and-eq-true_iff _ _).0 e in
    record { from_low = leb-true _ _ least; to_high = leb-true _ _ most }

pub record HeaderRead (s : List ℕ) (at next : ℕ) : Type 0 where
  pub ends : next ≡ at + size H
  pub tasks_in : Between 1 (H_tasks s at) 64
  pub processors_in : Between 1 (H_processors s at) 16
  pub budget_in : H_budget s at ≤ 20_000_000

pub header_read : (s : List ℕ) (at : ℕ) {next : ℕ} {was : Record} → header_at s at ≡ read next was → HeaderRead s at next
unfolding header_at
header_read s at e =
    let found = record_read s at H _ _ e in
    let (n, more) = passed _ 3 _ found.no_fault in
    let (m, more) = passed _ 3 _ more in
    let (budget, more) = passed _ 3 _ more in
    record {
      ends = found.ends;
      tasks_in = between _ _ _ n;
      processors_in = between _ _ _ m;
      budget_in = (between _ _ _ budget).to_high;
    }

pub deadline_read : (s : List ℕ) (at : ℕ) {next : ℕ} {was : Record} →
    deadline_at s at ≡ read next was → (next ≡ at + size D) × Between 1 (D_deadline s at) 200_000
unfolding deadline_at
deadline_read s at e =
    let found = record_read s at D _ _ e in
    (found.ends, between _ _ _ (passed _ 3 _ found.no_fault).0)

pub share_read : (s : List ℕ) (budget at : ℕ) {next : ℕ} {was : Record} →
    share_at s budget at ≡ read next was → (next ≡ at + size K) × (K_share s at ≤ 1_000) × (budget ≡ 0)
unfolding share_at
share_read s budget at e =
    let found = record_read s at K _ _ e in
    let (share, more) = passed _ 3 _ found.no_fault in
    (found.ends, (between _ _ _ share).to_high, eqb-true _ _ (passed _ 3 _ more).0)

-- A processor record, `P` or `Q`.
pub record ProcessorRead (s : List ℕ) (at next : ℕ) : Type 0 where
  pub ends : next ≡ at + size (processor_kind s at)
  pub price_in : P_price s at ≤ 100
  pub minimum_in : processor_minimum s at ≤ 10_000

pub processor_read : (s : List ℕ) (at j : ℕ) {next : ℕ} {was : Record} → processor_at s at j ≡ read next was → ProcessorRead s at next
unfolding processor_at price_at minimum_at price_checks processor_kind processor_minimum
processor_read s at j {next} {was} e =
    let (ends, price_in, minimum_in) = go (eqb (byte s at) (kind_byte Q)) e in
    record { ends = ends; price_in = price_in; minimum_in = minimum_in }
  where
    go : (t : Bool) → cond t (minimum_at s at j) (price_at s at j) ≡ read next was →
        (next ≡ at + size (cond t Q P)) × (P_price s at ≤ 100) × (cond t (Q_minimum s at) 0 ≤ 10_000)
    go true p =
        let found = record_read s at Q _ _ p in
        let (number, more) = passed _ 2 _ found.no_fault in
        let (price, more) = passed _ 3 _ more in
        (found.ends, (between _ _ _ price).to_high, (between _ _ _ (passed _ 3 _ more).0).to_high)
    go false p =
        let found = record_read s at P _ _ p in
        let (number, more) = passed _ 2 _ found.no_fault in
        (found.ends, (between _ _ _ (passed _ 3 _ more).0).to_high, omega arith)

pub task_read : (s : List ℕ) (at i : ℕ) {next : ℕ} {was : Record} →
    task_at s at i ≡ read next was → (next ≡ at + size T) × Label s (T_label at) (label_length s (T_label at))
unfolding task_at
task_read s at i e =
    let found = record_read s at T _ _ e in
    let (number, more) = passed _ 2 _ found.no_fault in
    (found.ends, label_of_label_length s _ (leb-true _ _ (passed _ 4 _ more).0))

pub minutes_read : (s : List ℕ) (at i j : ℕ) {next : ℕ} {was : Record} →
    minutes_at s at i j ≡ read next was → (next ≡ at + size W) × (W_minutes s at ≤ 2_000)
unfolding minutes_at
minutes_read s at i j e =
    let found = record_read s at W _ _ e in
    let (number, more) = passed _ 2 _ found.no_fault in
    let (processor, more) = passed _ 2 _ more in
    (found.ends, (between _ _ _ (passed _ 3 _ more).0).to_high)

-- A record that is not the first of its kind follows the one before it.
follows_one : (kind : Kind) (after : ℕ → ℕ → Bool) (at k : ℕ) → follows kind after at k ≡ true → 0 < k → after (at - size kind) at ≡ true
unfolding follows
follows_one kind after at k e some = go (eqb k 0) refl e
  where
    go : (t : Bool) → eqb k 0 ≡ t → (t || after (at - size kind) at) ≡ true → after (at - size kind) at ≡ true
    go true none p = absurd (omega (arith, eqb-true k 0 none))
    go false more p = p

is_above : (first second : ℕ → ℕ) (before at : ℕ) → above first second before at ≡ true → Above first second before at
unfolding above
is_above first second before at e = go (ltb (first before) (first at)) (eqb (first before) (first at)) refl refl e
  where
    go : (more same : Bool) → ltb (first before) (first at) ≡ more → eqb (first before) (first at) ≡ same →
        (more || (same && ltb (second before) (second at))) ≡ true → Above first second before at
    go true same p q t =
        let less : first before < first at = ltb-true _ _ p in
        record { by_first = omega arith; then_second = λ equal. absurd (omega arith) }
    go false true p q t =
        let equal : first before ≡ first at = eqb-true _ _ q in
        record { by_first = omega arith; then_second = λ _. ltb-true _ _ t }
    go false false p q t = absurd (false≢true t)

is_apart : (s : List ℕ) (before at : ℕ) → apart s before at ≡ true → Apart s before at
unfolding apart
is_apart s before at e same = go (leb (M_end s before) (M_begin s at)) refl (rw (eq-eqb _ _ same) at e)
  where
    go : (t : Bool) → leb (M_end s before) (M_begin s at) ≡ t → (not true || t) ≡ true → M_end s before ≤ M_begin s at
    go true p t = leb-true _ _ p
    go false p t = absurd (false≢true t)

-- A window with k before it.
pub record WindowRead (s : List ℕ) (m at k next : ℕ) : Type 0 where
  pub ends : next ≡ at + size M
  pub rises : 0 < k → Above (M_processor s) (M_begin s) (at - size M) at
  pub apart : 0 < k → Apart s (at - size M) at
  pub window_in : GoodWindow s m at
  pub no_fifth : 4 ≤ k → M_processor s (at - 4 * size M) ≡ M_processor s at → ⊥

pub window_read : (s : List ℕ) (m at k : ℕ) {next : ℕ} {was : Record} → window_at s m at k ≡ read next was → WindowRead s m at k next
unfolding window_at window_ranges fifth
window_read s m at k e =
    let found = record_read s at M _ _ e in
    let (rises, more) = passed _ 2 _ found.no_fault in
    let (apart_there, more) = passed _ 2 _ more in
    let (processor, more) = passed _ 3 _ more in
    let (minutes, more) = passed _ 3 _ more in
    let (end, more) = passed _ 3 _ more in
    let (few, more) = passed _ 3 _ more in
    record {
      ends = found.ends;
      rises = λ some. is_above _ _ _ _ (follows_one M _ at k rises some);
      apart = λ some. is_apart s _ at (follows_one M _ at k apart_there some);
      window_in = record { processor_below = ltb-true _ _ processor; has_minutes = ltb-true _ _ minutes; end_in = leb-true _ _ end };
      no_fifth = λ four same. false≢true (rw (le-leb 4 k four, eq-eqb _ _ same) at few);
    }

-- An edge with k before it.
pub record EdgeRead (s : List ℕ) (n at k next : ℕ) : Type 0 where
  pub ends : next ≡ at + size E
  pub room : k < 512
  pub rises : 0 < k → Above (E_from s) (E_to s) (at - size E) at
  pub edge_in : GoodEdge s n at

pub edge_read : (s : List ℕ) (n at k : ℕ) {next : ℕ} {was : Record} → edge_at s n at k ≡ read next was → EdgeRead s n at k next
unfolding edge_at edge_ranges
edge_read s n at k e =
    let found = record_read s at E _ _ e in
    let (room, more) = passed _ 3 _ found.no_fault in
    let (rises, more) = passed _ 2 _ more in
    let (from, more) = passed _ 3 _ more in
    let (to, more) = passed _ 3 _ more in
    let (below, unequal) = (and-eq-true_iff _ _).0 to in
    record {
      ends = found.ends;
      room = ltb-true _ _ room;
      rises = λ some. is_above _ _ _ _ (follows_one E _ at k rises some);
      edge_in =
          record {
            from_below = ltb-true _ _ from;
            to_below = ltb-true _ _ below;
            unequal = eqb-false _ _ (not-true _ unequal);
            transfer_in = (between _ _ _ (passed _ 3 _ more).0).to_high;
          };
    }

pub end_read : (s : List ℕ) (at : ℕ) {next : ℕ} {was : Record} →
    end_at s at ≡ read next was → (next ≡ at + size Z) × (at + size Z ≤ length s)
unfolding end_at
end_read s at e =
    let found = record_read s at Z _ _ e in
    (found.ends, found.whole)
