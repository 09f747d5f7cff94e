-- Ranks as far as they are known. A rank may be 0, so the array has 1 more than a task's rank where that is known, and 0 where it is not known yet.
use Rattle.std.specs.Prelude.{ℕ, suc, ◌+◌, ◌*◌, ◌-◌, ◌≤◌, ◌<◌, ◌≡◌, Bool, true, false, not, List, ltb, length}
use Rattle.laws.specs.Stores.{at}
use Rattle.rules.specs.Workflow.{Workflow}
use Rattle.rules.specs.Cycle.{Leads, cyclic}
use Rattle.rules.specs.Ranks.{rank_by, R}
use Rattle.laws.specs.Bounds.{rank_added_most, rank_most}
use Rattle.laws.specs.Unmarked.{count_unmarked}
use Rattle.laws.specs.Onward.{HasNext}

-- Task i has its rank.
abbrev pub has_rank : List ℕ → ℕ → Bool
has_rank ranks i = ltb 0 (at ranks i)

-- The rank that is known of task i, where it is; 0 where it is not.
abbrev pub rank_in : List ℕ → ℕ → ℕ
rank_in ranks i = at ranks i - 1

-- The ranks that are known are right by the equation, those of a ranked task's successors are known, no ranked task leads back to itself, and `left`
-- tasks are not ranked. Past the last task there is nothing but 0.
pub record RankedSoFar (W : Workflow) (ranks : List ℕ) (left : ℕ) : Type 0 where
  pub size : length ranks ≡ 64
  pub count : left ≡ count_unmarked W.tasks (has_rank ranks)
  pub equation : (i : ℕ) → i < W.tasks → 1 ≤ at ranks i → at ranks i ≡ suc (rank_by W (rank_in ranks) i)
  pub successors : (e : ℕ) → e < W.edges → 1 ≤ at ranks (W.from e) → 1 ≤ at ranks (W.to e)
  pub none_back : (i : ℕ) → 1 ≤ at ranks i → Leads W i i → ⊥
  pub past : (i : ℕ) → W.tasks ≤ i → at ranks i ≡ 0
  pub at_most : (i : ℕ) → rank_in ranks i + rank_added_most * left ≤ rank_added_most * W.tasks

-- A rank that is not known.
abbrev pub Unknown : List ℕ → ℕ → Type 0
Unknown ranks i = at ranks i ≡ 0

-- r is 1 more than the rank of i where its successors' ranks are known, and else 0.
pub record NextRank (W : Workflow) (ranks : List ℕ) (i r : ℕ) : Type 0 where
  pub due : 1 ≤ r → (r ≡ suc (rank_by W (rank_in ranks) i)) × ((e : ℕ) → e < W.edges → W.from e ≡ i → 1 ≤ at ranks (W.to e))
  pub not_due : r ≡ 0 → HasNext W (Unknown ranks) i

-- Where i is not ranked, a successor is not.
abbrev pub HeldUp : Workflow → List ℕ → ℕ → Type 0
HeldUp W ranks i = Unknown ranks i → HasNext W (Unknown ranks) i

-- That holds of every task from `first` on.
abbrev pub AllHeldUp : Workflow → ℕ → List ℕ → Type 0
AllHeldUp W first ranks = (i : ℕ) → first ≤ i → i < W.tasks → HeldUp W ranks i

-- "R(i) = ..", for all tasks unless the edges have a cycle: the array has 1 more than each. It is 0 past the last task, and throughout where there is
-- a cycle.
pub record RankedAs (W : Workflow) (ranks : List ℕ) (all : Bool) : Type 0 where
  pub all_unless_cyclic : all ≡ not (cyclic W)
  pub size : length ranks ≡ 64
  pub ranks_are : all ≡ true → (i : ℕ) → i < W.tasks → at ranks i ≡ suc (R W i)
  pub past : (i : ℕ) → W.tasks ≤ i → at ranks i ≡ 0
  pub none_with_cycle : all ≡ false → (i : ℕ) → at ranks i ≡ 0
  pub at_most : (i : ℕ) → at ranks i ≤ 1 + rank_most
