-- One turn, or a pass of many: fewer are left, or nothing has changed and all is still as it should be in the end.
use Rattle.std.specs.Prelude.{ℕ, ◌<◌, ◌≡◌, refl, List, ◌⊎◌}
use Rattle.std.proofs.Common.{sym, ◌∙◌, subst, inl, inr, ⊎_elim, arith}

module _ {A : Type 0} where
  -- From `before` with `left` to do, to `after` with `r`.
  pub record Turned (Kept : List A → ℕ → Type 0) (Still : List A → Type 0) (before after : List A) (left r : ℕ) : Type 0 where
    pub kept : Kept after r
    pub fewer_or_still : (r < left) ⊎ ((after ≡ before) × (r ≡ left) × Still before)

  module _ {Kept : List A → ℕ → Type 0} where
    -- Nothing is done yet.
    pub turned_none : {Still : List A → Type 0} {xs : List A} {left : ℕ} → Kept xs left → Still xs → Turned Kept Still xs xs left left
    turned_none kept still = record { kept = kept; fewer_or_still = inr (refl, refl, still) }

    -- One turn more.
    pub turned_next :
        {Still More All : List A → Type 0} {before here after : List A} {left r next : ℕ}
        → ((xs : List A) → Still xs → More xs → All xs) → Turned Kept Still before here left r → Turned Kept More here after r next
        → Turned Kept All before after left next
    turned_next {Still} {More} {All} {before} {here} {after} {left} {r} {next} both so_far turn =
        record {
          kept = turn.kept;
          fewer_or_still =
              ⊎_elim
              (λ (fewer : r < left). inl (⊎_elim (λ (m : next < r). omega arith) (λ w. omega (arith, w.1)) turn.fewer_or_still))
              (λ still.
              ⊎_elim (λ (m : next < r). inl (omega (arith, still.1)))
              (λ w. inr (w.0 ∙ still.0, w.1 ∙ still.1, both before still.2 (subst More still.0 w.2)))
              turn.fewer_or_still)
              so_far.fewer_or_still;
        }

    -- As many are left as before.
    pub turned_still :
        {Still : List A → Type 0} {before after : List A} {left r : ℕ} → Turned Kept Still before after left r → r ≡ left → Still after
    turned_still {Still} turned same =
        ⊎_elim (λ fewer. absurd (omega arith)) (λ still. subst Still (sym still.0) still.2) turned.fewer_or_still

    -- A measure.
    pub turned_less :
        {Still : List A → Type 0} {before after : List A} {left r : ℕ} → Turned Kept Still before after left r → (r ≡ left → ⊥) → r < left
    turned_less turned other = ⊎_elim (λ fewer. fewer) (λ still. absurd (other still.1)) turned.fewer_or_still
