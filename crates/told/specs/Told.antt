-- What the structs of numbers tell: the rules' answers, costs and reasons, deadlines and shares.
use Rattle.std.specs.Prelude.{ℕ}
use Rattle.rules.specs.Reading.{Deadline, no_deadline, by, Share, no_share, thousandths}
use Rattle.rules.specs.Answer.{Answer, planned, refused}
use Rattle.rules.specs.Range.{Range, between, no_range}
use Rattle.rules.specs.Why.{Why, late_data, in_window, beside_row, own_start, no_task, no_plan}
use Rattle.told.specs.declared.ZabgurinAnswer.{ZabgurinAnswer}
use Rattle.told.specs.declared.ZabgurinCosts.{ZabgurinCosts}
use Rattle.told.specs.declared.ZabgurinWhy.{ZabgurinWhy}

-- No deadline is told as 0, which no deadline is.
abbrev pub told_deadline : Deadline → ℕ
told_deadline no_deadline = 0
told_deadline (by minutes) = minutes

-- Whether there is a share, and its thousandths: a share of 0 is one.
abbrev pub told_given : Share → ℕ
told_given no_share = 0
told_given (thousandths k) = 1

abbrev pub told_share : Share → ℕ
told_share no_share = 0
told_share (thousandths k) = k

-- A plan is told with number 0, which no refusal has, and a refusal with 0 for all but number and place.
abbrev pub told_answer : Answer → ZabgurinAnswer
told_answer (planned n length cost left) = record { number = 0; place = 0; tasks = n; length = length; cost = cost; left = left }
told_answer (refused number place) = record { number = number; place = place; tasks = 0; length = 0; cost = 0; left = 0 }

-- Two costs are told with number 0, which no refusal has, and a refusal with 0 for both.
abbrev pub told_costs : Range → ZabgurinCosts
told_costs (between cheapest HEFT) = record { number = 0; place = 0; cheapest = cheapest; heft = HEFT }
told_costs (no_range number place) = record { number = number; place = place; cheapest = 0; heft = 0 }

-- A reason is told by a number, with number 0, which no refusal has, and 0 for what it does not name.
abbrev pub told_reason : (reason task begin end : ℕ) → ZabgurinWhy
told_reason reason task begin end = record { number = 0; place = 0; reason = reason; task = task; begin = begin; end = end }

abbrev pub told_why : Why → ZabgurinWhy
told_why (late_data from minute) = told_reason 1 from minute 0
told_why (in_window begin end) = told_reason 2 0 begin end
told_why (beside_row task begin end) = told_reason 3 task begin end
told_why (own_start start) = told_reason 4 0 start 0
told_why (no_task tasks) = told_reason 5 tasks 0 0
told_why (no_plan number place) = record { number = number; place = place; reason = 0; task = 0; begin = 0; end = 0 }
