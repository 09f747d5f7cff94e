-- What stands against a start, by what is found of data, windows and rows.
use Rattle.std.specs.Prelude.{ℕ, ◌≤◌, ◌<◌, ◌≡◌}
use borrow.Author.Tests.{lt-ltb, le-ltb, le-leb, lt-leb}
use Rattle.rules.specs.Workflow.{Interval, Workflow}
use Rattle.rules.specs.Start.{arrived}
use Rattle.rules.specs.Why.{late_data, in_window, beside_row, own_start, none, met, window_or, last_to_arrive, earliest_met, lowest_met, why_placed}

module _ (W : Workflow) (sits begins ends : ℕ → ℕ) (i t : ℕ) where
  pub not_sooner : begins i ≤ t → own_start (begins i) ≡ why_placed W sits begins ends i t
  unfolding why_placed
  not_sooner own = rw (le-leb (begins i) t own)

  module _ (sooner : t < begins i) {minute : ℕ} (at_minute : minute ≡ arrived W sits ends i (sits i)) where
    pub by_data : {e p : ℕ} → e ≡ last_to_arrive W sits ends i (sits i) → p ≡ W.from e → t < minute → late_data p minute ≡ why_placed W sits begins ends i t
    unfolding why_placed
    by_data edge from late = rw (from, edge, lt-leb (begins i) t sooner, ← at_minute, lt-ltb t minute late)

    module _ (in_time : minute ≤ t) {minutes : ℕ} (of_minutes : minutes ≡ W.minutes i (sits i)) where
      pub by_window : {v : Interval} → met v ≡ earliest_met (W.busy_at_first (sits i)) minutes t → in_window v.begin v.end ≡ why_placed W sits begins ends i t
      unfolding why_placed window_or
      by_window found = rw (lt-leb (begins i) t sooner, ← at_minute, le-ltb t minute in_time, ← of_minutes, ← found)

      pub by_row :
          {k : ℕ} → none ≡ earliest_met (W.busy_at_first (sits i)) minutes t → k ≡ lowest_met W.tasks sits begins ends minutes i t
          → beside_row k (begins k) (ends k) ≡ why_placed W sits begins ends i t
      unfolding why_placed window_or
      by_row found is = rw (lt-leb (begins i) t sooner, ← at_minute, le-ltb t minute in_time, ← of_minutes, ← found, ← is)
