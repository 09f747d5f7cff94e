-- Records of one kind in rising order that were read, edges and windows: how many, where they end, each in its range and after the one before it.
use Rattle.std.specs.Prelude.{◌≡◌, Bool, true, false, List, eqb}
use Rattle.std.proofs.Math.Path.{refl}
use Rattle.std.proofs.Common.{subst₂, suc-mul, add-mul, arith, eqb-true}
use Prim.Native.Nat.{ℕ, zero, suc, ◌+◌, ◌*◌, ◌-◌, ◌<◌, ◌≤◌, min}
use Rattle.std.proofs.Math.Decide.{dec_le, dec_lt}
use Rattle.std.proofs.lemmas.Bool.{eqb-false}
use Rattle.rules.specs.Fields.{Kind, M, E, size, kind_byte, byte, M_processor, M_begin, E_from, E_to}
use Rattle.rules.specs.Records.{Record, Read, read, stopped, window_at, edge_at}
use Rattle.rules.specs.Reading.{then, each, counted, how_many, run_part, windows_part, edges_part}
use Rattle.good.specs.Good.{GoodEdge, GoodWindow, Above, Apart}
use Rattle.good.specs.Reading.{then_read, Steps, Walks, by_stride, each_ends, each_part}
use Rattle.good.specs.Kinds.{WindowRead, window_read, EdgeRead, edge_read}

pub how_many_at_most : (s : List ℕ) (kind : Kind) (at most : ℕ) → how_many s kind at most ≤ most
unfolding counted how_many
how_many_at_most s kind at zero = omega arith
how_many_at_most s kind at (suc most) = go (eqb (byte s at) (kind_byte kind)) (how_many_at_most s kind (at + size kind) most)
  where
    go : (t : Bool) {k : ℕ} → k ≤ most → counted t (λ _. k) ≤ suc most
    go true few = omega arith
    go false few = omega arith

-- Those are of this kind, and the next is not.
pub of_that_kind : (s : List ℕ) (kind : Kind) (at most e : ℕ) → e < how_many s kind at most → byte s (at + e * size kind) ≡ kind_byte kind
unfolding counted how_many
of_that_kind s kind at zero e h = absurd (omega arith)
of_that_kind s kind at (suc most) e h = go (eqb (byte s at) (kind_byte kind)) refl (of_that_kind s kind (at + size kind) most) e h
  where
    go : (t : Bool) → eqb (byte s at) (kind_byte kind) ≡ t →
        ((e : ℕ) → e < how_many s kind (at + size kind) most → byte s (at + size kind + e * size kind) ≡ kind_byte kind) → (e : ℕ) → e < counted t (λ _. how_many s kind (at + size kind) most) →
        byte s (at + e * size kind) ≡ kind_byte kind
    go true is later zero h = let here : at + 0 * size kind ≡ at = omega arith in rw here (eqb-true _ _ is)
    go true is later (suc e) h =
        let there : at + suc e * size kind ≡ at + size kind + e * size kind = omega (arith, suc-mul e (size kind)) in
        rw there (later e (omega arith))
    go false is later e h = absurd (omega arith)

pub then_another : (s : List ℕ) (kind : Kind) (at most : ℕ) → how_many s kind at most < most →
    byte s (at + how_many s kind at most * size kind) ≡ kind_byte kind → ⊥
unfolding counted how_many
then_another s kind at zero h e = omega arith
then_another s kind at (suc most) h e = go (eqb (byte s at) (kind_byte kind)) refl (then_another s kind (at + size kind) most) h e
  where
    go : (t : Bool) → eqb (byte s at) (kind_byte kind) ≡ t →
        (how_many s kind (at + size kind) most < most → byte s (at + size kind + how_many s kind (at + size kind) most * size kind) ≡ kind_byte kind → ⊥) →
        counted t (λ _. how_many s kind (at + size kind) most) < suc most →
        byte s (at + counted t (λ _. how_many s kind (at + size kind) most) * size kind) ≡ kind_byte kind → ⊥
    go true is later h e =
        let k : ℕ = how_many s kind (at + size kind) most in
        let there : at + suc k * size kind ≡ at + size kind + k * size kind = omega (arith, suc-mul k (size kind)) in
        later (omega arith) (rw there at e)
    go false is later h e = let here : at + 0 * size kind ≡ at = omega arith in eqb-false _ _ is (rw here at e)

-- So many records from `at` on were read, one after the other.
pub run_each : (s : List ℕ) (kind : Kind) (part : ℕ → ℕ → Read Record) (at most : ℕ) {next count : ℕ} →
    run_part s kind part at most ≡ read next count → each part at count ≡ read next tt
unfolding run_part
run_each s kind part at most {next} {count} e =
    let (place, u, parts, done) = then_read (each part at (how_many s kind at most)) (λ next _. read next (how_many s kind at most)) e in
    let counted : how_many s kind at most ≡ count = cc in
    let there : place ≡ next = cc in
    subst₂ (λ k end. each part at k ≡ read end tt) counted there parts

-- The record before one that is not the first stands right before it.
one_back : (at e d : ℕ) → at + (e + 1) * d - d ≡ at + e * d
one_back at e d = omega (arith, suc-mul e d)

pub edge_steps : (s : List ℕ) (n : ℕ) → Steps (edge_at s n) (size E)
edge_steps s n at k next a e = (edge_read s n at k e).ends

pub window_steps : (s : List ℕ) (m : ℕ) → Steps (window_at s m) (size M)
window_steps s m at k next a e = (window_read s m at k e).ends

-- The edges that were read.
pub record EdgesRead (s : List ℕ) (n at next count : ℕ) : Type 0 where
  pub few : count ≤ 512
  pub ends : next ≡ at + count * size E
  pub edge_in : (e : ℕ) → e < count → GoodEdge s n (at + e * size E)
  pub rises : (e : ℕ) → e + 1 < count → Above (E_from s) (E_to s) (at + e * size E) (at + (e + 1) * size E)

pub edges_found : (s : List ℕ) (n at : ℕ) {next count : ℕ} → each (edge_at s n) at count ≡ read next tt → EdgesRead s n at next count
edges_found s n at {next} {count} parts =
    record {
      few = few (dec_le count 512);
      ends = each_ends walk count parts;
      edge_in = λ e h. (edge e h).edge_in;
      rises = λ e h. rw (one_back at e (size E)) at ((edge (e + 1) h).rises (omega arith));
    }
  where
    walk : Walks (edge_at s n) at (λ k. at + k * size E)
    walk = by_stride (size E) (edge_steps s n) at

    edge : (e : ℕ) → (h : e < count) → EdgeRead s n (at + e * size E) e (each_part walk count parts e h).0
    edge e h = edge_read s n _ e (each_part walk count parts e h).2

    few : Dec (count ≤ 512) → count ≤ 512
    few (yes h) = h
    few (no h) = absurd (omega (arith, (edge 512 (omega arith)).room))

pub edges_read : (s : List ℕ) (n at : ℕ) {next count : ℕ} → edges_part s n at ≡ read next count → EdgesRead s n at next count
unfolding edges_part
edges_read s n at e = edges_found s n at (run_each s E (edge_at s n) at 513 e)

-- The windows that were read.
pub record WindowsRead (s : List ℕ) (m at next count : ℕ) : Type 0 where
  pub ends : next ≡ at + count * size M
  pub window_in : (e : ℕ) → e < count → GoodWindow s m (at + e * size M)
  pub rise : (e : ℕ) → e + 1 < count → Above (M_processor s) (M_begin s) (at + e * size M) (at + (e + 1) * size M)
  pub apart : (e : ℕ) → e + 1 < count → Apart s (at + e * size M) (at + (e + 1) * size M)
  pub four : (e : ℕ) → e + 4 < count → M_processor s (at + e * size M) ≡ M_processor s (at + (e + 4) * size M) → ⊥

pub windows_found : (s : List ℕ) (m at : ℕ) {next count : ℕ} → each (window_at s m) at count ≡ read next tt → WindowsRead s m at next count
windows_found s m at {next} {count} parts =
    record {
      ends = each_ends walk count parts;
      window_in = λ e h. (window e h).window_in;
      rise = λ e h. rw (one_back at e (size M)) at ((window (e + 1) h).rises (omega arith));
      apart = λ e h. rw (one_back at e (size M)) at ((window (e + 1) h).apart (omega arith));
      four = λ e h. rw (four_back e) at ((window (e + 4) h).no_fifth (omega arith));
    }
  where
    walk : Walks (window_at s m) at (λ k. at + k * size M)
    walk = by_stride (size M) (window_steps s m) at

    window : (e : ℕ) → (h : e < count) → WindowRead s m (at + e * size M) e (each_part walk count parts e h).0
    window e h = window_read s m _ e (each_part walk count parts e h).2

    four_back : (e : ℕ) → at + (e + 4) * size M - 4 * size M ≡ at + e * size M
    four_back e = omega (arith, add-mul e 4 (size M))

pub windows_read : (s : List ℕ) (m at : ℕ) {next count : ℕ} → windows_part s m at ≡ read next count → WindowsRead s m at next count
unfolding windows_part
windows_read s m at e = windows_found s m at (run_each s M (window_at s m) at 65 e)

-- At most four of each processor, and so at most four times as many as there are processors: of every four the next is of a later one.
module _ {s : List ℕ} {m at next count : ℕ} (w : WindowsRead s m at next count) where
  abbrev processor : ℕ → ℕ
  processor e = M_processor s (at + e * size M)

  processors_rise : (e d : ℕ) → e + d < count → processor e ≤ processor (e + d)
  processors_rise e zero h = let same : e + 0 ≡ e = omega arith in rw same (omega arith)
  processors_rise e (suc d) h =
      let next : e + suc d ≡ e + d + 1 = omega arith in
      rw next (omega (arith, processors_rise e d (omega arith), (w.rise (e + d) (omega arith)).by_first))

  four_each : (q : ℕ) → q * 4 < count → q ≤ processor (q * 4)
  four_each zero h = omega arith
  four_each (suc q) h =
      let next : suc q * 4 ≡ q * 4 + 4 = omega arith in
      rw next (above (four_each q (omega arith)) (processors_rise (q * 4) 4 (omega arith)) (w.four (q * 4) (omega arith)))
    where
      above : {x y : ℕ} → q ≤ x → x ≤ y → (x ≡ y → ⊥) → suc q ≤ y
      above {x} {y} low rises other = go (dec_lt x y)
        where
          go : Dec (x < y) → suc q ≤ y
          go (yes h) = omega arith
          go (no h) = absurd (other (omega arith))

  pub windows_at_most : m ≤ 16 → count ≤ 64
  windows_at_most narrow = go (dec_le count 64)
    where
      go : Dec (count ≤ 64) → count ≤ 64
      go (yes h) = h
      go (no h) = absurd (omega (arith, four_each 16 (omega arith), (w.window_in 64 (omega arith)).processor_below))

-- To look for fewer records is to find no more than that of them.
how_many_of_more : (s : List ℕ) (kind : Kind) (at j more : ℕ) → how_many s kind at j ≡ min j (how_many s kind at (j + more))
unfolding counted how_many
how_many_of_more s kind at zero more = omega arith
how_many_of_more s kind at (suc j) more =
    let next : suc j + more ≡ suc (j + more) = omega arith in
    rw next (go (eqb (byte s at) (kind_byte kind)) _ (how_many_of_more s kind (at + size kind) j more))
  where
    go : (t : Bool) {few : ℕ} (all : ℕ) → few ≡ min j all → counted t (λ _. few) ≡ min (suc j) (counted t (λ _. all))
    go true all same = omega arith
    go false all same = omega arith

-- A refusal ends all that may come after it.
stays_stopped : {A : Type 0} (part : ℕ → ℕ → Read A) (at k more : ℕ) {number place : ℕ} →
    each part at k ≡ stopped number place → each part at (k + more) ≡ stopped number place
unfolding each then
stays_stopped part at k zero e = let same : k + 0 ≡ k = omega arith in rw same e
stays_stopped part at k (suc more) e =
    let next : k + suc more ≡ suc (k + more) = omega arith in
    rw (next, stays_stopped part at k more e)

-- Where one more than a limit is never read, it is enough to look for one more: to look for others besides changes nothing.
module _ (s : List ℕ) (kind : Kind) (part : ℕ → ℕ → Read Record) (at limit : ℕ) (never : (next : ℕ) → each part at (suc limit) ≡ read next tt → ⊥) where
  -- All numbers of records above the limit are refused alike.
  above_limit : (k : ℕ) → limit < k → each part at k ≡ each part at (suc limit)
  above_limit k past = go (each part at (suc limit)) refl
    where
      go : (x : Read (Unit {0})) → each part at (suc limit) ≡ x → each part at k ≡ x
      go (read next tt) e = absurd (never next e)
      go (stopped number place) e =
          let same : suc limit + (k - suc limit) ≡ k = omega arith in
          rw same at (stays_stopped part at (suc limit) (k - suc limit) e)

  run_above : (j k : ℕ) → limit < j → limit < k → then (each part at j) (λ next _. read next j) ≡ then (each part at k) (λ next _. read next k)
  unfolding then
  run_above j k l m = rw (above_limit j l, above_limit k m) (go (each part at (suc limit)) refl)
    where
      go : (x : Read (Unit {0})) → each part at (suc limit) ≡ x → then x (λ next _. read next j) ≡ then x (λ next _. read next k)
      go (read next tt) e = absurd (never next e)
      go (stopped number place) e = refl

  run_enough : (more : ℕ) → run_part s kind part at (suc limit) ≡ run_part s kind part at (suc limit + more)
  unfolding run_part
  run_enough more = go (dec_le all limit)
    where
      all : ℕ
      all = how_many s kind at (suc limit + more)

      few : ℕ
      few = how_many s kind at (suc limit)

      fewer : few ≡ min (suc limit) all
      fewer = how_many_of_more s kind at (suc limit) more

      go : Dec (all ≤ limit) → then (each part at few) (λ next _. read next few) ≡ then (each part at all) (λ next _. read next all)
      go (yes h) = let same : few ≡ all = omega (arith, fewer) in rw same
      go (no h) = run_above few all (omega (arith, fewer)) (omega arith)

pub edges_enough : (s : List ℕ) (n at more : ℕ) → edges_part s n at ≡ run_part s E (edge_at s n) at (513 + more)
unfolding edges_part
edges_enough s n at more = run_enough s E (edge_at s n) at 512 (λ next e. let few = (edges_found s n at e).few in omega arith) more

pub windows_enough : (s : List ℕ) (m at more : ℕ) → m ≤ 16 → windows_part s m at ≡ run_part s M (window_at s m) at (65 + more)
unfolding windows_part
windows_enough s m at more narrow =
    run_enough s M (window_at s m) at 64 (λ next e. let few = windows_at_most (windows_found s m at e) narrow in omega arith) more
