-- The checks before the one that answers are passed, and the last is that the window is not the fifth.
use Rattle.std.proofs.Common.{rules}
use Rattle.rules.specs.Records.{window_ranges}
use Rattle.records.proofs.Laws.{checked_first, checked_later, checked_last}
use Rattle.windows.proofs.ranges.Goals as goal

pub returns-in_err-check : goal.returns-in_err-check
unfolding window_ranges
returns-in_err-check c =
    let check = rw c.window_at-window.ensures at c.in_err-check.ensures in
    search (rules, checked_first, check)

pub returns-in_err-check-2 : goal.returns-in_err-check-2
unfolding window_ranges
returns-in_err-check-2 c =
    let passed = rw c.window_at-window.ensures at c.in_ok-check.ensures in
    let check = rw c.window_at-window.ensures at c.in_err-check-2.ensures in
    search (rules, checked_first, checked_later, passed, check)

pub returns-in_err-check-3 : goal.returns-in_err-check-3
unfolding window_ranges
returns-in_err-check-3 c =
    let passed = rw c.window_at-window.ensures at c.in_ok-check.ensures in
    let passed_2 = rw c.window_at-window.ensures at c.in_ok-check-2.ensures in
    let check = rw c.window_at-window.ensures at c.in_err-check-3.ensures in
    search (rules, checked_first, checked_later, passed, passed_2, check)

pub returns : goal.returns
unfolding window_ranges
returns c =
    let passed = rw c.window_at-window.ensures at c.in_ok-check.ensures in
    let passed_2 = rw c.window_at-window.ensures at c.in_ok-check-2.ensures in
    let passed_3 = rw c.window_at-window.ensures at c.in_ok-check-3.ensures in
    let last = rw c.fifth.ensures at c.check-4.ensures in
    search (rules, checked_later, checked_last, passed, passed_2, passed_3, last)
