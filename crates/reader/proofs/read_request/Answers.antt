-- Each step's answer is that of the rules; the first that refuses is the answer, and where none does the view is the rules' request.
use Rattle.std.proofs.Common.{refl}
use Rattle.rules.specs.Reading.{then, read_request}
use Rattle.reader.proofs.RequestLaws.{reading_refused, header_numbers, bytes_after, good_request}
use Rattle.reader.proofs.read_request.Goals as goal

pub returns-in_err-header : goal.returns-in_err-header
unfolding read_request then
returns-in_err-header c =
    reading_refused _ _ _ c.from_residual.ensures.1
    (rw (← c.in_err-header.ensures) refl)

pub returns-in_err-deadline : goal.returns-in_err-deadline
unfolding read_request then
returns-in_err-deadline c =
    let (tasks, processors, budget) = header_numbers _ c.in_ok-header.ensures in
    reading_refused _ _ _ c.from_residual-in_err-deadline.ensures.1
    (rw (← c.in_ok-header.ensures, tasks, processors, budget, ← c.in_err-deadline.ensures) refl)

pub returns-in_err-share : goal.returns-in_err-share
unfolding read_request then
returns-in_err-share c =
    let (tasks, processors, budget) = header_numbers _ c.in_ok-header.ensures in
    reading_refused _ _ _ c.from_residual-in_err-share.ensures.1
    (rw (← c.in_ok-header.ensures, tasks, processors, budget, ← c.in_ok-deadline.ensures, ← c.in_err-share.ensures) refl)

pub returns-in_err-windows : goal.returns-in_err-windows
unfolding read_request then
returns-in_err-windows c =
    let (tasks, processors, budget) = header_numbers _ c.in_ok-header.ensures in
    reading_refused _ _ _ c.from_residual-in_err-windows.ensures.1
    (rw (← c.in_ok-header.ensures, tasks, processors, budget, ← c.in_ok-deadline.ensures, ← c.in_ok-share.ensures, ← c.in_err-windows.ensures) refl)

pub returns-in_err-windows_read : goal.returns-in_err-windows_read
unfolding read_request then
returns-in_err-windows_read c =
    let (tasks, processors, budget) = header_numbers _ c.in_ok-header.ensures in
    reading_refused _ _ _ c.from_residual-in_err-windows_read.ensures.1
    (rw (← c.in_ok-header.ensures, tasks, processors, budget, ← c.in_ok-deadline.ensures, ← c.in_ok-share.ensures, ← c.in_ok-windows.ensures, ← c.in_err-windows_read.ensures) refl)

pub returns-in_err-edges : goal.returns-in_err-edges
unfolding read_request then
returns-in_err-edges c =
    let (tasks, processors, budget) = header_numbers _ c.in_ok-header.ensures in
    reading_refused _ _ _ c.from_residual-in_err-edges.ensures.1
    (rw (← c.in_ok-header.ensures, tasks, processors, budget, ← c.in_ok-deadline.ensures, ← c.in_ok-share.ensures, ← c.in_ok-windows.ensures, ← c.in_ok-windows_read.ensures, ← c.in_err-edges.ensures) refl)

pub returns-in_err-edges_read : goal.returns-in_err-edges_read
unfolding read_request then
returns-in_err-edges_read c =
    let (tasks, processors, budget) = header_numbers _ c.in_ok-header.ensures in
    reading_refused _ _ _ c.from_residual-in_err-edges_read.ensures.1
    (rw (← c.in_ok-header.ensures, tasks, processors, budget, ← c.in_ok-deadline.ensures, ← c.in_ok-share.ensures, ← c.in_ok-windows.ensures, ← c.in_ok-windows_read.ensures, ← c.in_ok-edges.ensures, ← c.in_err-edges_read.ensures) refl)

pub returns-in_err-end : goal.returns-in_err-end
unfolding read_request then
returns-in_err-end c =
    let (tasks, processors, budget) = header_numbers _ c.in_ok-header.ensures in
    reading_refused _ _ _ c.from_residual-in_err-end.ensures.1
    (rw (← c.in_ok-header.ensures, tasks, processors, budget, ← c.in_ok-deadline.ensures, ← c.in_ok-share.ensures, ← c.in_ok-windows.ensures, ← c.in_ok-windows_read.ensures, ← c.in_ok-edges.ensures, ← c.in_ok-edges_read.ensures, ← c.in_err-end.ensures) refl)

pub returns-in_err-check : goal.returns-in_err-check
unfolding read_request then
returns-in_err-check c =
    let (tasks, processors, budget) = header_numbers _ c.in_ok-header.ensures in
    let (check, place) = c.in_err-check.ensures in
    reading_refused _ _ _ c.from_residual-in_err-check.ensures.1
    (rw (← c.in_ok-header.ensures, tasks, processors, budget, ← c.in_ok-deadline.ensures, ← c.in_ok-share.ensures, ← c.in_ok-windows.ensures, ← c.in_ok-windows_read.ensures, ← c.in_ok-edges.ensures, ← c.in_ok-edges_read.ensures, ← c.in_ok-end.ensures) (bytes_after _ _ _ _ check place))

pub returns : goal.returns
unfolding read_request then
returns c =
    let (tasks, processors, budget) = header_numbers _ c.in_ok-header.ensures in
    good_request _ _ _ c.in_ok-check.ensures
    (rw (← c.in_ok-header.ensures, tasks, processors, budget, ← c.in_ok-deadline.ensures, ← c.in_ok-share.ensures, ← c.in_ok-windows.ensures, ← c.in_ok-windows_read.ensures, ← c.in_ok-edges.ensures, ← c.in_ok-edges_read.ensures, ← c.in_ok-end.ensures) refl)
