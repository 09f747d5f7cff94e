-- Of document 01's ranges one has changed: a `W` of 0 minutes was refused with 4, at the record. Every other `W` is read as by document 01, and every other
-- refusal of one is the same.
use Rattle.std.specs.Prelude.{ℕ, zero, suc, ◌≤◌, ◌≡◌, refl, List, [], ◌∷◌, ◌++◌, ◌⊎◌, eqb}
use Rattle.std.proofs.Common.{inl, inr, ⊎_elim, eq-zero-or-pos, arith, le-leb}
use Rattle.rules.specs.Fields.{W, W_task, W_processor, W_minutes}
use Rattle.rules.specs.Records.{Record, minutes, Read, stopped, unless, first_fault, opening_by, opening, answered, record_at, within, minutes_at}

-- The minutes of task i on processor j, from 1 to 2,000, as document 01 has it.
unfoldable pub minutes_at_01 : List ℕ → (at i j : ℕ) → Read Record
minutes_at_01 s at i j =
    record_at s at W
    (unless (eqb (W_task s at) i) 3 ∷ unless (eqb (W_processor s at) j) 3 ∷ unless (within 1 (W_minutes s at) 2_000) 4 ∷ [])
    (minutes (W_task s at) (W_processor s at) (W_minutes s at))

-- Where a last check fails that did not fail, what is read is the same, or it is that check's refusal.
last_check_fails :
    (before : List ℕ) (number at next : ℕ) (r : Record)
    → (answered (first_fault (before ++ (0 ∷ []))) at next r ≡ answered (first_fault (before ++ (suc number ∷ []))) at next r)
    ⊎ (answered (first_fault (before ++ (suc number ∷ []))) at next r ≡ stopped (suc number) at)
unfolding answered first_fault
last_check_fails [] number at next r = inr refl
last_check_fails (zero ∷ before) number at next r = last_check_fails before number at next r
last_check_fails (suc fault ∷ before) number at next r = inl refl

pub only_no_minutes_changed :
    (s : List ℕ) (at i j : ℕ)
    → (minutes_at s at i j ≡ minutes_at_01 s at i j) ⊎ ((W_minutes s at ≡ 0) × (minutes_at_01 s at i j ≡ stopped 4 at))
unfolding minutes_at minutes_at_01 record_at opening opening_by within unless
only_no_minutes_changed s at i j = ⊎_elim none some (eq-zero-or-pos (W_minutes s at))
  where
    some : 1 ≤ W_minutes s at → (minutes_at s at i j ≡ minutes_at_01 s at i j) ⊎ ((W_minutes s at ≡ 0) × (minutes_at_01 s at i j ≡ stopped 4 at))
    some h = inl (rw (le-leb 0 (W_minutes s at) (omega arith), le-leb 1 (W_minutes s at) h))

    none : W_minutes s at ≡ 0 → (minutes_at s at i j ≡ minutes_at_01 s at i j) ⊎ ((W_minutes s at ≡ 0) × (minutes_at_01 s at i j ≡ stopped 4 at))
    none h = ⊎_elim (λ same. inl (rw h same)) (λ stops. inr (h, rw h stops)) (last_check_fails (_ ∷ _ ∷ _ ∷ _ ∷ _ ∷ []) 3 at _ _)
