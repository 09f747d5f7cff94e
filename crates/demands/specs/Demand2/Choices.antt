-- What each of the three methods chooses, in the rules' words; that placing by it chooses so at each step, and that this leaves no choice.
use Rattle.std.specs.Prelude.{ℕ, ◌≤◌, ◌<◌, ◌≡◌, false, List}
use Rattle.std.proofs.Common.{sym, arith}
use Rattle.rules.specs.Workflow.{Workflow}
use Rattle.rules.specs.Ranks.{cheapest_total}
use Rattle.rules.specs.Rows.{Placed, is_placed}
use Rattle.rules.specs.Method.{Question, score, HEFT, Name, by_HBCS, by_cheapest, by_HEFT, method}
use Rattle.rules.specs.Placing.{question}
use Rattle.demands.specs.Ground.Best.{IsBest, IsCheapest, lowest_by_settled, best_is_best, cheapest_is_cheapest}
use Rattle.demands.specs.Demand2.HBCSChoice.{Wins, HBCS_wins}
use Rattle.demands.specs.Demand2.Built.{Built}
use Rattle.demands.specs.Demand2.Affordable.{HBCS_enough_left}

-- j is what the method takes where it is asked q.
abbrev pub ChosenBy : Name → Question → ℕ → Type 0
ChosenBy by_HBCS q j = Wins q j
ChosenBy by_cheapest q j = IsCheapest q j
ChosenBy by_HEFT q j = IsBest q j

-- What the method needs to be able to choose so: HBCS that the cheapest total fits, the others nothing.
abbrev pub FitsBy : Name → Workflow → Type 0
FitsBy by_HBCS W = cheapest_total W ≤ W.budget
FitsBy by_cheapest W = Unit {0}
FitsBy by_HEFT W = Unit {0}

pub chosen_so :
    (M : Name) (W : Workflow) → 1 ≤ W.processors → FitsBy M W → {before : List Placed} → Built (method M) W before
    → (i : ℕ) → i < W.tasks → is_placed before i ≡ false → ChosenBy M (question W before i) (method M (question W before i))
unfolding method HEFT question
chosen_so by_HBCS W some within {before} built i task free =
    HBCS_wins (question W before i) some (HBCS_enough_left W some within built i task free)
chosen_so by_cheapest W some fits {before} built i task free = cheapest_is_cheapest (question W before i) some
chosen_so by_HEFT W some fits {before} built i task free = best_is_best (question W before i) some

wins_settled : (q : Question) (j j' : ℕ) → Wins q j → Wins q j' → j ≡ j'
wins_settled q j j' w w' =
    let highest = w.highest j' w'.processor w'.may in
    let highest' = w'.highest j w.processor w.may in
    let score_same : score q j ≡ score q j' = omega arith in
    let earliest = w.then_earliest j' w'.processor w'.may (sym score_same) in
    let earliest' = w'.then_earliest j w.processor w.may score_same in
    let finish_same : q.finish j ≡ q.finish j' = omega arith in
    let lowest = w.then_lowest j' w'.processor w'.may (sym score_same) (sym finish_same) in
    let lowest' = w'.then_lowest j w.processor w.may score_same finish_same in
    omega arith

pub chosen_settled : (M : Name) (q : Question) (j j' : ℕ) → ChosenBy M q j → ChosenBy M q j' → j ≡ j'
chosen_settled by_HBCS q = wins_settled q
chosen_settled by_cheapest q = lowest_by_settled q.processors q.cost q.finish
chosen_settled by_HEFT q = lowest_by_settled q.processors q.finish q.cost
