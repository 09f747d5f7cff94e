-- Each method looks at nothing but the processors there are, and takes one of them; the best finishes earliest.
use Rattle.std.specs.Prelude.{ℕ, zero, suc, ◌≤◌, ◌<◌, min, ◌≡◌, refl, true}
use Rattle.std.proofs.Common.{ap, ◌∙◌, ⊎_elim, arith}
use Rattle.rules.specs.Folds.{lowest}
use Rattle.rules.specs.Orders.{Order, lower, first}
use Rattle.rules.specs.Method.{Question, Method, best, may_be_taken, latest_finish, B, F, or_one, score, preferred, HBCS, Cheapest, HEFT, Name, by_HBCS, by_cheapest, by_HEFT, method}
use Rattle.laws.specs.Tests.{cond_either}
use Rattle.laws.specs.Folds.{largest_same, lowest_same}
use Rattle.laws.specs.Orders.{lower_true, lower_false, lower_same, higher_same, among_same}
use Rattle.laws.specs.First.{first_below, first_same}

-- 1 stands for 0 alone.
pub or_one_of_positive : (x : ℕ) → 1 ≤ x → or_one x ≡ x
unfolding or_one
or_one_of_positive zero pos = absurd (omega arith)
or_one_of_positive (suc x) pos = refl

-- The first by a lowest figure has the lowest figure.
pub first_is_lowest : (f : ℕ → ℕ) (next : Order) (k : ℕ) → f (first k (lower f next)) ≡ lowest k f
unfolding first lowest
first_is_lowest f next zero = refl
first_is_lowest f next (suc k) =
    let b = first k (lower f next) in
    let so_far : f b ≡ lowest k f = first_is_lowest f next k in
    cond_either (λ n. f n ≡ min (lowest k f) (f k)) (lower f next k b) k b
    (λ e. ⊎_elim (λ (l : f k < f b). omega arith) (λ (w : (f k ≡ f b) × (next k b ≡ true)). omega arith) (lower_true f next k b e))
    (λ e. let not_lower = ((lower_false f next k b).0 e).0 in omega arith)

-- Two questions of as many processors with the same costs and finishes on them, RB and RCB.
pub record Same (q r : Question) : Type 0 where
  pub processors : q.processors ≡ r.processors
  pub cost : (j : ℕ) → j < q.processors → q.cost j ≡ r.cost j
  pub finish : (j : ℕ) → j < q.processors → q.finish j ≡ r.finish j
  pub RB : q.RB ≡ r.RB
  pub RCB : q.RCB ≡ r.RCB

module _ (m : ℕ) (some : 1 ≤ m) (c d f g : ℕ → ℕ) (b k : ℕ)
    (costs : (j : ℕ) → j < m → c j ≡ d j)
    (finishes : (j : ℕ) → j < m → f j ≡ g j) where
  abbrev one : Question
  one = record { processors = m; cost = c; finish = f; RB = b; RCB = k }

  abbrev other : Question
  other = record { processors = m; cost = d; finish = g; RB = b; RCB = k }

  best_same : best one ≡ best other
  unfolding best
  best_same =
      first_same m _ _ (λ i j l n.
      lower_same f g _ _ i j (finishes i l) (finishes j n) (lower_same c d _ _ i j (costs i l) (costs j n) refl))

  cheapest_same : Cheapest one ≡ Cheapest other
  unfolding Cheapest
  cheapest_same =
      first_same m _ _ (λ i j l n.
      lower_same c d _ _ i j (costs i l) (costs j n) (lower_same f g _ _ i j (finishes i l) (finishes j n) refl))

  best_cost_same : c (best one) ≡ d (best other)
  best_cost_same = ap c best_same ∙ costs (best other) (unfold best in first_below m _ some)

  may_same : (j : ℕ) → j < m → may_be_taken one j ≡ may_be_taken other j
  unfolding may_be_taken
  may_same j l = rw (best_cost_same, costs j l)

  score_same : (j : ℕ) → j < m → score one j ≡ score other j
  unfolding score latest_finish B F
  score_same j l =
      rw (
        best_cost_same,
        costs j l,
        finishes j l,
        largest_same m f g finishes,
        lowest_same m f g finishes some,
        largest_same m c d costs,
        lowest_same m c d costs some,
      )

  choice_same : HBCS one ≡ HBCS other
  unfolding HBCS preferred
  choice_same =
      first_same m _ _ (λ i j l n.
      among_same _ _ _ _ i j (may_same i l) (may_same j n)
      (higher_same (score one) (score other) _ _ i j (score_same i l) (score_same j n)
      (lower_same f g _ _ i j (finishes i l) (finishes j n) refl)))

-- What placing asks of a method: it takes one of the processors, and where two questions are the same for these it chooses the same.
pub record ChoosesAmong (M : Method) : Type 0 where
  pub takes_processor : (q : Question) → 1 ≤ q.processors → M q < q.processors
  pub alike : (q r : Question) → 1 ≤ q.processors → Same q r → M q ≡ M r

-- Where it chooses the same whenever costs and finishes are the same on each processor, it does so for two such questions.
alike_by :
    (M : Method)
    → ((m : ℕ) → 1 ≤ m → (c d f g : ℕ → ℕ) (b k : ℕ) → ((j : ℕ) → j < m → c j ≡ d j) → ((j : ℕ) → j < m → f j ≡ g j)
    → M (record { processors = m; cost = c; finish = f; RB = b; RCB = k }) ≡ M (record { processors = m; cost = d; finish = g; RB = b; RCB = k }))
    → (q r : Question) → 1 ≤ q.processors → Same q r → M q ≡ M r
alike_by M chooses q r some same =
    chooses q.processors some q.cost r.cost q.finish r.finish q.RB q.RCB same.cost same.finish
    ∙ (λ t. M (record { processors = same.processors t; cost = r.cost; finish = r.finish; RB = same.RB t; RCB = same.RCB t }))

pub HBCS_chooses_among : ChoosesAmong HBCS
HBCS_chooses_among =
    record { takes_processor = λ q some. unfold HBCS in first_below q.processors (preferred q) some; alike = alike_by HBCS choice_same }

pub Cheapest_chooses_among : ChoosesAmong Cheapest
Cheapest_chooses_among =
    record { takes_processor = λ q some. unfold Cheapest in first_below q.processors _ some; alike = alike_by Cheapest cheapest_same }

pub HEFT_chooses_among : ChoosesAmong HEFT
unfolding HEFT
HEFT_chooses_among =
    record { takes_processor = λ q some. unfold best in first_below q.processors _ some; alike = alike_by HEFT best_same }

pub method_chooses_among : (M : Name) → ChoosesAmong (method M)
unfolding method
method_chooses_among by_HBCS = HBCS_chooses_among
method_chooses_among by_cheapest = Cheapest_chooses_among
method_chooses_among by_HEFT = HEFT_chooses_among
