-- A part that is the lookup's lies inside the request, and the slice from its begin to its end is what the lookup gives.
use Rattle.std.specs.Prelude.{◌≡◌, ℕ, ◌+◌, ◌-◌, ◌≤◌, List, length, take, drop}
use Rattle.std.proofs.Common.{sym, subst}
use Rattle.std.proofs.Math.Nat.{add-sub_cancel_left}
use Rattle.rules.specs.Labels as rules
use Rattle.rules.specs.Labels.{part_of, label_lookup}
use Rattle.good.specs.Labels.{label_inside}
use Rattle.lookup.specs.declared.Part.{Part}
use Rattle.lookup.specs.Lookup.{meant_part}

module _ (s : List ℕ) (task : ℕ) (p : Part) (is : meant_part p ≡ label_lookup s task) where
  pub part_inside : p.begin + p.length ≤ length s
  part_inside = subst (λ (q : rules.Part). q.begin + q.length ≤ length s) (sym is) (label_inside s task)

  pub part_slice : take (p.begin + p.length - p.begin) (drop p.begin s) ≡ part_of s (label_lookup s task)
  unfolding part_of
  part_slice = rw (← is, add-sub_cancel_left p.begin p.length)
