-- What is kept of what the processors are busy with, windows and rows alike, in three arrays.
use Rattle.std.specs.Prelude.{ℕ, ◌+◌, ◌-◌, ◌≤◌, ◌<◌, ◌≡◌, length}
use mathlib.Core.List.{List, Memᴰ}
use Rattle.rules.specs.Folds.{listing}
use Rattle.rules.specs.Workflow.{Interval}
use Rattle.laws.specs.SameStart.{SameStart}
use Rattle.laws.specs.Stores.{at}
use Rattle.busy.specs.declared.Processors.{Processors}

-- What the processors may be busy with at the outset: 64 windows.
abbrev pub outset_most : ℕ
outset_most = 64

-- How much is kept: these, and 64 rows.
abbrev pub room_most : ℕ
room_most = outset_most + 64

-- The interval that is kept at k.
abbrev pub span : (begins ends : List ℕ) → ℕ → Interval
span begins ends k = record { begin = at begins k; end = at ends k }

-- Those of processor j stand from `first j` on, up to `first (j + 1)`.
unfoldable pub kept_busy : (begins ends first : List ℕ) → ℕ → List Interval
kept_busy begins ends first j = listing (at first (j + 1) - at first j) (λ k. span begins ends (at first j + k))

-- The same of the struct that holds the arrays.
abbrev pub kept_by : Processors → ℕ → List Interval
kept_by p = kept_busy p.begins p.ends p.first

-- The intervals of 16 processors, at most `room_most` in all: processor after processor, on each rising by begin, and each has minutes.
pub record InOrder (begins ends first : List ℕ) : Type 0 where
  pub begins_size : length begins ≡ room_most
  pub ends_size : length ends ≡ room_most
  pub first_size : length first ≡ 17
  pub few : at first 16 ≤ room_most
  pub first_rises : (j : ℕ) → j < 16 → at first j ≤ at first (j + 1)
  pub begins_rise : (j k l : ℕ) → j < 16 → at first j ≤ k → k ≤ l → l < at first (j + 1) → at begins k ≤ at begins l
  pub have_minutes : (k : ℕ) → k < at first 16 → at begins k < at ends k

-- All of them end by c.
abbrev pub EndBy : ℕ → (begins ends first : List ℕ) → Type 0
EndBy c begins ends first = (j : ℕ) → j < 16 → (v : Interval) → Memᴰ v (kept_busy begins ends first j) → v.end ≤ c

-- What is kept of the processors: so many intervals in order, which give the same starts as what each is busy with.
pub record Keeps (busy : ℕ → List Interval) (count : ℕ) (p : Processors) : Type 0 where
  pub in_order : InOrder p.begins p.ends p.first
  pub in_all : at p.first 16 ≡ count
  pub holds : (j : ℕ) → j < 16 → SameStart (kept_by p j) (busy j)
