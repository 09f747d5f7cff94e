-- The leader of the processors passed, one processor after the other; the last is the choice.
use Rattle.std.specs.Prelude.{ℕ, suc, ◌+◌, ◌≤◌, ◌<◌, ◌≡◌, Bool, ltb}
use Rattle.std.proofs.Math.Path.{refl, sym}
use Rattle.std.proofs.Common.{◌∙◌, eq-or-lt_of_le, arith}
use Rattle.std.proofs.Math.Bool.{true, false, cond, or-false}
use Rattle.std.proofs.Math.Logic.{⊎_elim}
use Rattle.std.proofs.Math.Numerals.{add-one}
use Rattle.std.proofs.Math.Dec.{leb-suc-suc, eqb-suc-suc}
use borrow.Author.Tests.{lt-ltb, le-ltb, eq-eqb, ne_eqb}
use Rattle.rules.specs.Orders.{higher, among, first}
use Rattle.rules.specs.Method.{Question, may_be_taken, score, preferred, HBCS}
use Rattle.laws.specs.Tests.{cond_either}
use Rattle.laws.specs.Numbers.{below_next}
use Rattle.laws.specs.Orders.{lower_tie}
use Rattle.laws.specs.First.{first_at_most, first_next}
use Rattle.choosing.specs.Figured.{standing}
use Rattle.choosing.specs.Leading.{ahead_by, led_by, Stands, nobody, somebody, Leads}
use Rattle.choosing.specs.declared.Leader.{Leader}

-- A higher standing is ahead, and an even one with an earlier finish.
module _ (l : Leader) (s f : ℕ) where
  pub ahead_uneven : (s ≡ l.standing → ⊥) → ltb l.standing s ≡ ahead_by l s f
  unfolding ahead_by
  ahead_uneven h = rw (ne_eqb s l.standing h, or-false)

  pub ahead_even : s ≡ l.standing → ltb f l.finish ≡ ahead_by l s f
  unfolding ahead_by
  ahead_even h = rw (le-ltb l.standing s (omega arith), eq-eqb s l.standing h)

  -- One that is ahead leads; else the leader stays.
  module _ (j : ℕ) where
    leads : ahead_by l s f ≡ true → led_by l j s f ≡ record { processor = j; standing = s; finish = f }
    unfolding led_by
    leads h = rw h

    stays : ahead_by l s f ≡ false → led_by l j s f ≡ l
    unfolding led_by
    stays h = rw h

module _ (q : Question) where
  pub leads_first : (l : Leader) → l.processor ≡ 0 → l.standing ≡ 0 → l.finish ≡ 0 → Leads q 0 l
  unfolding first
  leads_first l p s f = record { is_first = p; stands = nobody s f (λ i h. absurd (omega arith)) }

  module _ (k : ℕ) where
    standing_none : may_be_taken q k ≡ false → standing q k ≡ 0
    unfolding standing
    standing_none h = rw h

    standing_some : may_be_taken q k ≡ true → standing q k ≡ score q k + 1
    unfolding standing
    standing_some h = rw h

    -- The only one that may be taken is the first.
    first_only : may_be_taken q k ≡ true → ((i : ℕ) → i < k → may_be_taken q i ≡ false) → k ≡ first (k + 1) (preferred q)
    unfolding preferred among
    first_only may none = first_next k (preferred q) refl (go (first k (preferred q)) (first_at_most k (preferred q)))
      where
        go : (b : ℕ) → b ≤ k → k ≡ cond (preferred q k b) k b
        go b h =
            ⊎_elim (λ (e : b ≡ k). cond_either (λ z. k ≡ z) (preferred q k b) k b (λ _. refl) (λ _. sym e))
            (λ (l : b < k). rw (may, none b l))
            (eq-or-lt_of_le h)

    module _ (l : Leader) where
      -- Where both may be taken, the tests are the same.
      ahead_is_preferred : may_be_taken q k ≡ true → may_be_taken q l.processor ≡ true → l.standing ≡ score q l.processor + 1
          → l.finish ≡ q.finish l.processor → ahead_by l (score q k + 1) (q.finish k) ≡ preferred q k l.processor
      unfolding ahead_by preferred among higher
      ahead_is_preferred at_k at_l s f =
          rw (
            at_k,
            at_l,
            s,
            f,
            lower_tie q.finish k l.processor,
            add-one (score q k),
            add-one (score q l.processor),
            leb-suc-suc (suc (score q l.processor)) (score q k),
            eqb-suc-suc (score q k) (score q l.processor),
          )

      -- One that may not be taken is not ahead of the leader.
      not_ahead : Stands q k l → ahead_by l 0 (q.finish k) ≡ false
      not_ahead (nobody s f none) = sym (ahead_even l 0 (q.finish k) (sym s)) ∙ le-ltb (q.finish k) l.finish (omega arith)
      not_ahead (somebody may s f) = sym (ahead_uneven l 0 (q.finish k) (λ e. omega arith)) ∙ le-ltb l.standing 0 (omega arith)

      stands_on : may_be_taken q k ≡ false → Stands q k l → Stands q (k + 1) l
      stands_on at_k (nobody s f none) = nobody s f (λ i h. below_next (λ n. may_be_taken q n ≡ false) k at_k none i (omega arith))
      stands_on at_k (somebody may s f) = somebody may s f

      module _ (p : l.processor ≡ first k (preferred q)) where
        -- Each may be taken or not.
        led_on : Stands q k l → (t : Bool) → may_be_taken q k ≡ t → Leads q (k + 1) (led_by l k (standing q k) (q.finish k))
        led_on stands false at_k =
            rw (standing_none at_k, stays l 0 (q.finish k) k (not_ahead stands))
            (record { is_first = first_next k (preferred q) p (unfold preferred among in rw at_k); stands = stands_on at_k stands })
        led_on (nobody s f none) true at_k =
            let higher_standing =
            sym (ahead_uneven l (score q k + 1) (q.finish k) (λ e. omega arith)) ∙ lt-ltb l.standing (score q k + 1) (omega arith) in
            rw (standing_some at_k, leads l (score q k + 1) (q.finish k) k higher_standing)
            (record { is_first = first_only at_k none; stands = somebody at_k refl refl })
        led_on (somebody may s f) true at_k = rw (standing_some at_k) (both (preferred q k l.processor) refl)
          where
            both : (t : Bool) → preferred q k l.processor ≡ t → Leads q (k + 1) (led_by l k (score q k + 1) (q.finish k))
            both true e =
                rw (leads l (score q k + 1) (q.finish k) k (ahead_is_preferred at_k may s f ∙ e))
                (record { is_first = first_next k (preferred q) p (rw e); stands = somebody at_k refl refl })
            both false e =
                rw (stays l (score q k + 1) (q.finish k) k (ahead_is_preferred at_k may s f ∙ e))
                (record { is_first = first_next k (preferred q) p (rw e); stands = somebody may s f })

      -- One turn of the pass.
      pub leads_next : Leads q k l → {s : ℕ} {r : Leader} → s ≡ standing q k → r ≡ led_by l k s (q.finish k) → Leads q (k + 1) r
      leads_next lead at_k e = rw (e, at_k) (led_on lead.is_first lead.stands (may_be_taken q k) refl)

  -- The last leader is the choice.
  pub leads_all : (l : Leader) → Leads q q.processors l → l.processor ≡ HBCS q
  unfolding HBCS
  leads_all l lead = lead.is_first
