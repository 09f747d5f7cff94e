-- Choosing a processor for the task in hand: HBCS, and the two methods between whose plans a budget is set.
use Rattle.std.specs.Prelude.{ℕ, zero, suc, ◌+◌, ◌*◌, ◌-◌, Bool, ◌&&◌, leb}
use Rattle.rules.specs.Folds.{largest, lowest}
use Rattle.rules.specs.Orders.{Order, tie, lower, higher, among, first}

-- What a method is asked: how many processors there are, the cost and the finish on each, RB and RCB.
pub record Question : Type 0 where
  pub processors : ℕ
  pub cost : ℕ → ℕ
  pub finish : ℕ → ℕ
  pub RB : ℕ
  pub RCB : ℕ

-- A method takes a processor, whatever it is asked.
abbrev pub Method : Type 0
Method = Question → ℕ

-- "Best: earliest finish; ties to lower cost, then lower number."
unfoldable pub best : Question → ℕ
best q = first q.processors (lower q.finish (lower q.cost tie))

-- "j may be taken when cost(j) <= cost(best) and cost(j) <= RB - RCB." RCB stands on the left: where it is above RB, RB - RCB is
-- below 0 and no cost fits, while a difference of natural numbers would stop at 0 and let a free processor through.
unfoldable pub may_be_taken : Question → ℕ → Bool
may_be_taken q j = leb (q.cost j) (q.cost (best q)) && leb (q.cost j + q.RCB) q.RB

unfoldable pub latest_finish : Question → ℕ
latest_finish q = largest q.processors q.finish

-- "B: highest less lowest cost over all m processors. F: latest less earliest finish over all m."
unfoldable pub B : Question → ℕ
B q = largest q.processors q.cost - lowest q.processors q.cost

unfoldable pub F : Question → ℕ
F q = latest_finish q - lowest q.processors q.finish

-- "Where B, F or RB is 0, use 1 as B', F' or RB'."
unfoldable pub or_one : ℕ → ℕ
or_one zero = 1
or_one (suc k) = suc k

-- "Score of j = (cost(best) - cost(j)) x RCB x F' + (latest finish - finish(j)) x B' x RB'." Asked only of a j that may be taken, so
-- neither difference is below 0.
unfoldable pub score : Question → ℕ → ℕ
score q j =
    (q.cost (best q) - q.cost j) * q.RCB * or_one (F q)
    + (latest_finish q - q.finish j) * or_one (B q) * or_one q.RB

-- "The highest score among those that may be taken wins; ties to earlier finish, then lower number." Where none may be taken no processor is
-- preferred to another; once the cheapest total fits, one always may (`cheapest_can_always_be_taken` in the demands).
unfoldable pub preferred : Question → Order
preferred q = among (may_be_taken q) (higher (score q) (lower q.finish tie))

unfoldable pub HBCS : Method
HBCS q = first q.processors (preferred q)

-- "the cheapest plan (each task to its lowest cost, ties to earliest finish, then lower number)"
unfoldable pub Cheapest : Method
Cheapest q = first q.processors (lower q.cost (lower q.finish tie))

-- "the plain HEFT plan (each task to best)"
unfoldable pub HEFT : Method
HEFT q = best q

-- The three by name, as they are asked for.
pub data Name : Type 0 where
  by_HBCS by_cheapest by_HEFT : Name

unfoldable pub method : Name → Method
method by_HBCS = HBCS
method by_cheapest = Cheapest
method by_HEFT = HEFT
