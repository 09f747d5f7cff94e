-- What the label lookup gives: in a good request the label of a task below n, where it stands; else the empty part at the start.
use Rattle.std.specs.Prelude.{◌≡◌, refl, ℕ, ◌+◌, ◌<◌, ◌≤◌, Bool, true, false, List, length, ltb}
use Rattle.std.proofs.Common.{arith, lt-ltb, le-ltb, ltb-true, ltb-false}
use Rattle.label.specs.Label.{Label}
use Rattle.rules.specs.Records.{Read, read, stopped}
use Rattle.rules.specs.Reading.{Request, read_request}
use Rattle.rules.specs.Labels.{empty_start, label_place, label_part, label_in, label_lookup}
use Rattle.good.specs.ReadIsGood.{read_is_good}

-- What the lookup gives for a task of a good request.
pub lookup_is_part : (s : List ℕ) (i : ℕ) {end : ℕ} {r : Request} →
    read_request s ≡ read end r → i < r.tasks → label_lookup s i ≡ label_part s r i
unfolding label_lookup label_in
lookup_is_part s i e h = rw (e, lt-ltb i _ h)

-- "It returns the label, without its spaces".
pub good_label : (s : List ℕ) (i : ℕ) {end : ℕ} {r : Request} →
    read_request s ≡ read end r → i < r.tasks → Label s (label_place r i) (label_lookup s i).length
unfolding label_part
good_label s i e h = rw (lookup_is_part s i e h) ((read_is_good s e).labelled i h)

-- "as a part of the caller's own bytes": where that label stands.
pub label_begins : (s : List ℕ) (i : ℕ) {end : ℕ} {r : Request} →
    read_request s ≡ read end r → i < r.tasks → (label_lookup s i).begin ≡ label_place r i
unfolding label_part
label_begins s i e h = rw (lookup_is_part s i e h)

-- "for a request refused in reading (1 to 6), [..] the empty part at the start"
pub no_label_refused : (s : List ℕ) (i : ℕ) {number place : ℕ} → read_request s ≡ stopped number place → label_lookup s i ≡ empty_start
unfolding label_lookup label_in
no_label_refused s i e = rw e

-- "or a task not below n"
pub no_label_beyond : (s : List ℕ) (i : ℕ) {end : ℕ} {r : Request} →
    read_request s ≡ read end r → r.tasks ≤ i → label_lookup s i ≡ empty_start
unfolding label_lookup label_in
no_label_beyond s i e h = rw (e, le-ltb i _ h)

-- "a part of the caller's own bytes": it lies inside them, whatever they are.
pub label_inside : (s : List ℕ) (i : ℕ) → (label_lookup s i).begin + (label_lookup s i).length ≤ length s
label_inside s i = go (read_request s) refl
  where
    go : (x : Read Request) → read_request s ≡ x → (label_lookup s i).begin + (label_lookup s i).length ≤ length s
    go (stopped number place) e = rw (no_label_refused s i e) (omega arith)
    go (read end r) e = below (ltb i r.tasks) refl
      where
        below : (t : Bool) → ltb i r.tasks ≡ t → (label_lookup s i).begin + (label_lookup s i).length ≤ length s
        below true h =
            let here = ltb-true _ _ h in
            let l = good_label s i e here in
            omega (arith, l.whole, l.eight_or_fewer, label_begins s i e here)
        below false h = rw (no_label_beyond s i e (ltb-false _ _ h)) (omega arith)
