-- Records of one kind that stand one after the other, edges or windows, as the loop over them meets them.
use mathlib.Core.Path.{◌≡◌, sym, ◌∙◌, subst}
use Prim.Native.Nat.{ℕ, suc, ◌+◌, ◌*◌, ◌-◌, ◌<◌, ◌≤◌}
use native.Mathlib.Nat.{add-mul}
use native.Mathlib.Omega.{arith}
use mathlib.Core.List.{List}
use lib.Dec.{eqb}
use Rattle.std.specs.Prelude.{true, false}
use Rattle.rules.specs.Fields.{Kind, kind_byte, size, byte}
use Rattle.rules.specs.Records.{Record, Read, read, stopped}
use Rattle.rules.specs.Reading.{then, counted, how_many, run_part}
use Rattle.good.specs.Reading.{Steps}
use Rattle.parts.proofs.Laws.{Reached, none_reached, one_more_reached, refused_there}

-- Of the records that stand there k were read, up to `next`; the others are those that stand from `next` on.
pub record Run (s : List ℕ) (kind : Kind) (part : ℕ → ℕ → Read Record) (at most k next : ℕ) : Type 0 where
  pub reached : Reached part at (how_many s kind at most) k next
  pub others : k + how_many s kind next (most - k) ≡ how_many s kind at most
  pub few : k ≤ most
  pub place : next ≡ at + k * size kind

pub none_run : {s : List ℕ} {kind : Kind} {part : ℕ → ℕ → Read Record} {at most : ℕ} → Run s kind part at most 0 at
none_run {s} {kind} {part} {at} {most} =
    let whole : most - 0 ≡ most = omega arith in
    record { reached = none_reached; others = rw whole (omega arith); few = omega arith; place = omega arith }

module _ {s : List ℕ} {kind : Kind} {part : ℕ → ℕ → Read Record} {at most k next : ℕ} (run : Run s kind part at most k next) where
  -- With all of them read, the answer is the last place and how many.
  all_run : how_many s kind at most ≡ k → read next k ≡ run_part s kind part at most
  unfolding run_part then
  all_run all = rw (all, run.reached.so_far)

  -- As many as may stand there.
  pub full : most ≤ k → read next most ≡ run_part s kind part at most
  unfolding how_many
  full h =
      let none : most - k ≡ 0 = omega arith in
      let same : most ≡ k = omega (arith, run.few) in
      subst (λ j. read next j ≡ run_part s kind part at most) (sym same) (all_run (sym (rw none at run.others) ∙ omega arith))

  module _ (room : k < most) where
    -- What is counted from `next` on, by the record that stands there.
    in_all : how_many s kind at most ≡
        k + counted (eqb (byte s next) (kind_byte kind)) (λ _. how_many s kind (next + size kind) (most - (k + 1)))
    unfolding how_many
    in_all =
        let one : most - k ≡ suc (most - (k + 1)) = omega arith in
        sym (rw one at run.others)

    -- A record of another kind, or none.
    pub ended : eqb (byte s next) (kind_byte kind) ≡ false → read next k ≡ run_part s kind part at most
    unfolding counted
    ended other = all_run (rw other at in_all ∙ omega arith)

    -- One more of this kind was read, or refused.
    module _ (of_kind : eqb (byte s next) (kind_byte kind) ≡ true) {here : Read Record} (is : here ≡ part next k) where
      counted_one : how_many s kind at most ≡ k + suc (how_many s kind (next + size kind) (most - (k + 1)))
      unfolding counted
      counted_one = rw of_kind at in_all

      pub one_more_run : Steps part (size kind) → {after : ℕ} {r : Record} → here ≡ read after r → Run s kind part at most (k + 1) after
      one_more_run steps {after} {r} e =
          let ends = steps next k after r (sym is ∙ e) in
          record {
            reached = one_more_reached run.reached (omega (arith, counted_one)) is e;
            others = rw ends (omega (arith, counted_one));
            few = omega arith;
            place = omega (arith, ends, run.place, add-mul k 1 (size kind));
          }

      pub run_refused : {number place : ℕ} → here ≡ stopped number place → stopped number place ≡ run_part s kind part at most
      unfolding run_part then
      run_refused e = rw (← refused_there run.reached (omega (arith, counted_one)) is e)
