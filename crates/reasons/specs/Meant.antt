-- What the code's reasons mean.
use Rattle.std.specs.Prelude.{Option, None, Some}
use Rattle.rules.specs.Workflow as workflow
use Rattle.rules.specs.Why as rules
use Rattle.reasons.specs.declared.Why.{Why}
use Rattle.reasons.specs.declared.Why.TheVariants as why
use Rattle.reasons.specs.declared.Interval.{Interval}

unfoldable pub meant_why : Why → rules.Why
meant_why (why.LateData from minute) = rules.late_data from minute
meant_why (why.InWindow begin end) = rules.in_window begin end
meant_why (why.BesideRow task begin end) = rules.beside_row task begin end
meant_why (why.OwnStart start) = rules.own_start start
meant_why (why.NoTask tasks) = rules.no_task tasks
meant_why (why.NoPlan number place) = rules.no_plan number place

abbrev pub meant_interval : Interval → workflow.Interval
meant_interval i = record { begin = i.begin; end = i.end }

abbrev pub meant_met : Option Interval → rules.Met
meant_met None = rules.none
meant_met (Some i) = rules.met (meant_interval i)
