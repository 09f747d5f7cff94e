-- The bytes that the label lookup gives, one by one: they stand in the request where the label does, so each is on the list.
use Rattle.std.specs.Prelude.{ℕ, suc, ◌+◌, ◌<◌, ◌≡◌, refl, Bool, true, false, length, get_or, ltb}
use Rattle.std.proofs.Common.{sym, subst, ◌∙◌, arith, ltb-true, ltb-false}
use mathlib.Core.List.{List, [], ◌∷◌, Memᴰ}
use Rattle.std.proofs.Math.ListN.{length-drop}
use Rattle.std.proofs.Math.Seq.{length-take-le, get_or-take, get_or-drop}
use Rattle.label.specs.Label.{Listed}
use Rattle.rules.specs.Fields.{byte}
use Rattle.rules.specs.Records.{Read, read, stopped}
use Rattle.rules.specs.Reading.{Request, read_request}
use Rattle.rules.specs.Labels.{part_of, label_lookup, label}
use Rattle.good.specs.Labels.{good_label, label_begins, no_label_refused, no_label_beyond, label_inside}

module _ (s : List ℕ) (i : ℕ) where
  pub label_bytes_length : length (label s i) ≡ (label_lookup s i).length
  unfolding label part_of
  label_bytes_length = length-take-le _ _ (rw length-drop (omega (arith, label_inside s i)))

  pub label_byte : (k : ℕ) → k < (label_lookup s i).length → get_or (label s i) k 0 ≡ byte s ((label_lookup s i).begin + k)
  unfolding label part_of byte
  label_byte k h = get_or-take (label_lookup s i).length _ k 0 h ∙ get_or-drop (label_lookup s i).begin s k 0

  -- Where the lookup gives a byte, the request was read and the task is one of its tasks.
  given_is_good :
      (k : ℕ) → k < (label_lookup s i).length → (end : ℕ) × (r : Request) × (read_request s ≡ read end r) × (i < r.tasks)
  given_is_good k h = go (read_request s) refl
    where
      go : (x : Read Request) → read_request s ≡ x → (end : ℕ) × (r : Request) × (read_request s ≡ read end r) × (i < r.tasks)
      go (stopped number place) e = absurd (omega (arith, rw (no_label_refused s i e) at h))
      go (read end r) e = below (ltb i r.tasks) refl
        where
          below : (t : Bool) → ltb i r.tasks ≡ t → (end : ℕ) × (r : Request) × (read_request s ≡ read end r) × (i < r.tasks)
          below true l = (end, r, e, ltb-true i r.tasks l)
          below false l = absurd (omega (arith, rw (no_label_beyond s i e (ltb-false i r.tasks l)) at h))

  pub label_byte_listed : (k : ℕ) → k < length (label s i) → Listed (get_or (label s i) k 0)
  unfolding byte
  label_byte_listed k h =
      let below : k < (label_lookup s i).length = omega (arith, label_bytes_length) in
      let (end, r, e, task) = given_is_good k below in
      rw (label_byte k below, label_begins s i e task) ((good_label s i e task).of_the_list k below)

-- What holds of each place of a list holds of each member.
pub each_member : (P : ℕ → Type 0) (xs : List ℕ) → ((k : ℕ) → k < length xs → P (get_or xs k 0)) → {b : ℕ} → Memᴰ b xs → P b
each_member P [] each m = elim m [ ]
each_member P (x ∷ xs) each (Memᴰ.head e) = subst P (sym e) (each 0 (omega arith))
each_member P (x ∷ xs) each (Memᴰ.tail m) = each_member P xs (λ k h. each (suc k) (omega arith)) m
