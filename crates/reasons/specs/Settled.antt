-- Two reasons with one meaning are one reason: the contracts settle it.
use Rattle.std.specs.Prelude.{◌≡◌, refl}
use Rattle.std.proofs.Common.{sym, ap, ◌∙◌}
use Rattle.rules.specs.Why as rules
use Rattle.reasons.specs.declared.Why.{Why}
use Rattle.reasons.specs.declared.Why.TheVariants as why
use Rattle.reasons.specs.Meant.{meant_why}

-- The reason that means this.
why_for : rules.Why → Why
why_for (rules.late_data from minute) = why.LateData from minute
why_for (rules.in_window begin end) = why.InWindow begin end
why_for (rules.beside_row task begin end) = why.BesideRow task begin end
why_for (rules.own_start start) = why.OwnStart start
why_for (rules.no_task tasks) = why.NoTask tasks
why_for (rules.no_plan number place) = why.NoPlan number place

why_again : (a : Why) → why_for (meant_why a) ≡ a
unfolding meant_why why_for
why_again (why.LateData from minute) = refl
why_again (why.InWindow begin end) = refl
why_again (why.BesideRow task begin end) = refl
why_again (why.OwnStart start) = refl
why_again (why.NoTask tasks) = refl
why_again (why.NoPlan number place) = refl

pub why_settled : (a b : Why) → meant_why a ≡ meant_why b → a ≡ b
why_settled a b same = sym (why_again a) ∙ ap why_for same ∙ why_again b
