-- Bounds of what is computed for a request that passes reading, each from the ranges of the rules: 1 to 64 tasks, 1 to 16 processors, 0 to 2,000 minutes,
-- transfers of 0 to 1,000 minutes, windows that end by 20,000, prices of 0 to 100, minimums of 0 to 10,000, a budget of 0 to 20,000,000.
use Rattle.std.specs.Prelude.{ℕ, ◌+◌, ◌*◌, ◌^◌, ◌<◌}
use Rattle.std.proofs.Common.{arith}

-- Minutes that a task adds to a plan's length: the wait for its data, and its own minutes.
abbrev pub added_most : ℕ
added_most = 1_000 + 2_000

-- The clock, and the end of what a processor is busy with at first: of a window.
abbrev pub first_most : ℕ
first_most = 20_000

-- A finish, and so a plan's length: 64 tasks, where the first may wait for the last window to end.
abbrev pub finish_most : ℕ
finish_most = first_most + 64 * added_most

-- A ready minute: a transfer after a finish.
abbrev pub ready_most : ℕ
ready_most = finish_most + 1_000

-- A finish that the choice is asked about: that of a task that is ready last, rounded up.
abbrev pub asked_finish_most : ℕ
asked_finish_most = 220_000

-- A task's cost: 2,000 minutes at a price of 100, which is more than any minimum.
abbrev pub cost_most : ℕ
cost_most = 2_000 * 100

-- A plan's cost, a cheapest total, RCB: 64 tasks.
abbrev pub total_most : ℕ
total_most = 64 * cost_most

-- What a share of the range is taken of: a thousand times a plan's cost. 12,800,000,000, which fits 64 bits.
abbrev pub share_most : ℕ
share_most = 1_000 * total_most

pub share_fits : share_most < 2 ^ 64
share_fits = omega arith

-- RB, and what is left of the budget: the whole budget.
abbrev pub budget_most : ℕ
budget_most = 20_000_000

-- What a score multiplies a saved cost by, RCB x F', and what it multiplies minutes by, B' x RB'.
abbrev pub saved_most : ℕ
saved_most = total_most * asked_finish_most

abbrev pub early_most : ℕ
early_most = cost_most * budget_most

-- A score: 1,443,200,000,000,000,000, which fits 64 bits.
abbrev pub score_most : ℕ
score_most = cost_most * saved_most + asked_finish_most * early_most

pub score_fits : score_most < 2 ^ 64
score_fits = omega arith

-- What a task adds to the rank of those before it: its minutes on 16 processors, and 16 times a transfer.
abbrev pub rank_added_most : ℕ
rank_added_most = 16 * 2_000 + 16 * 1_000

-- A rank: 64 tasks.
abbrev pub rank_most : ℕ
rank_most = 64 * rank_added_most
