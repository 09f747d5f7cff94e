-- Who is chosen among the processors passed.
use Rattle.std.specs.Prelude.{ℕ, ◌+◌, ◌<◌, ◌≡◌, Bool, true, false, cond, ◌&&◌, ◌||◌, ltb, eqb}
use Rattle.rules.specs.Orders.{first}
use Rattle.rules.specs.Method.{Question, may_be_taken, score, preferred}
use Rattle.choosing.specs.declared.Leader.{Leader}

-- One of a standing and a finish goes before the leader.
unfoldable pub ahead_by : Leader → ℕ → ℕ → Bool
ahead_by l standing finish = ltb l.standing standing || (eqb standing l.standing && ltb finish l.finish)

unfoldable pub led_by : Leader → ℕ → ℕ → ℕ → Leader
led_by l j standing finish =
    cond (ahead_by l standing finish) (record { processor = j; standing = standing; finish = finish }) l

-- Of the first k processors none may be taken, or l stands as its processor does, which may be.
pub data Stands (q : Question) (k : ℕ) (l : Leader) : Type 0 where
  nobody : l.standing ≡ 0 → l.finish ≡ 0 → ((i : ℕ) → i < k → may_be_taken q i ≡ false) → Stands q k l
  somebody : may_be_taken q l.processor ≡ true → l.standing ≡ score q l.processor + 1 → l.finish ≡ q.finish l.processor → Stands q k l

-- And it is the first of them in the rules' order: processor 0 where none may be taken.
pub record Leads (q : Question) (k : ℕ) (l : Leader) : Type 0 where
  pub is_first : l.processor ≡ first k (preferred q)
  pub stands : Stands q k l
