-- Two plans that a contract allows are one plan: the contracts settle the answer, and every number of the four arrays; and two ranges are one.
use Rattle.std.specs.Prelude.{◌≡◌, Ok, Err}
use Rattle.std.proofs.Common.{sym, ap, ◌∙◌}
use Rattle.rules.specs.Answer as rules
use Rattle.refusals.specs.Numbers.{number}
use Rattle.refusals.specs.Settled.{refusal_settled}
use Rattle.placing.specs.Settled.{columns_settled}
use Rattle.planner.specs.declared.Planning.{Planning}
use Rattle.planner.specs.Planned.{Answer, Costs, meant_answer, meant_costs, PlanOf}

pub answer_settled : (a b : Answer) → meant_answer a ≡ meant_answer b → a ≡ b
answer_settled (Ok a) (Ok b) same =
    let n : a.n ≡ b.n = cc in
    let length : a.length ≡ b.length = cc in
    let cost : a.cost ≡ b.cost = cc in
    let left : a.left ≡ b.left = cc in
    λ t. Ok (record { n = n t; length = length t; cost = cost t; left = left t })
answer_settled (Ok a) (Err b) same = cc
answer_settled (Err a) (Ok b) same = cc
answer_settled (Err a) (Err b) same =
    let number_is : number a.fault ≡ number b.fault = cc in
    let place_is : a.place ≡ b.place = cc in
    ap Err (refusal_settled a b number_is place_is)

pub plan_settled : (o : rules.Outcome) (a b : Planning) → PlanOf o a → PlanOf o b → a ≡ b
plan_settled o a b one other =
    let answers = answer_settled a.answer b.answer (one.answer_is ∙ sym other.answer_is) in
    let (processors, starts, finishes, costs) = columns_settled one.columns other.columns in
    λ t. record {
      answer = answers t;
      rows = record { processors = processors t; starts = starts t; finishes = finishes t; costs = costs t };
    }

pub costs_settled : (a b : Costs) → meant_costs a ≡ meant_costs b → a ≡ b
costs_settled (Ok a) (Ok b) same =
    let cheapest : a.cheapest ≡ b.cheapest = cc in
    let heft : a.heft ≡ b.heft = cc in
    λ t. Ok (record { cheapest = cheapest t; heft = heft t })
costs_settled (Ok a) (Err b) same = cc
costs_settled (Err a) (Ok b) same = cc
costs_settled (Err a) (Err b) same =
    let number_is : number a.fault ≡ number b.fault = cc in
    let place_is : a.place ≡ b.place = cc in
    ap Err (refusal_settled a b number_is place_is)
