-- `leads_through` decides `Leads`: what it finds is a path, and a path whose edges all lead to tasks below `between` is found.
use Rattle.std.specs.Prelude.{ℕ, zero, suc, ◌<◌, ◌≡◌, refl, true, ◌⊎◌, ◌↔◌}
use Rattle.std.proofs.Common.{ap₂, arith, eqb-true, eq-eqb}
use Rattle.std.proofs.Math.Path.{subst₂}
use Rattle.std.proofs.Math.Bool.{◌&&◌}
use Rattle.std.proofs.Math.Logic.{inl, inr, ⊎_elim}
use Rattle.std.proofs.Math.Dec.{eqb}
use Rattle.rules.specs.Workflow.{Workflow}
use Rattle.rules.specs.Cycle.{Leads, edge, along, linked, leads_through}
use Rattle.laws.specs.Tests.{and_both, or_either, or_left, or_right}
use Rattle.laws.specs.Numbers.{below_next}
use Rattle.laws.specs.Any.{any_attained, any_holds}

module _ (W : Workflow) where
  pub leads_on : {i j k : ℕ} → Leads W i j → Leads W j k → Leads W i k
  leads_on (edge e l) onward = along e l onward
  leads_on (along e l p) onward = along e l (leads_on p onward)

  -- One task more to pass: a path does not pass it, or it goes there and on.
  module _ (b i k : ℕ) where
    through_either :
        leads_through W (suc b) i k ≡ true
        → (leads_through W b i k ≡ true) ⊎ ((leads_through W b i b ≡ true) × (leads_through W b b k ≡ true))
    unfolding leads_through
    through_either h =
        ⊎_elim inl (λ long. inr (and_both (leads_through W b i b) (leads_through W b b k) long))
        (or_either (leads_through W b i k) (leads_through W b i b && leads_through W b b k) h)

    through_without : leads_through W b i k ≡ true → leads_through W (suc b) i k ≡ true
    unfolding leads_through
    through_without = or_left (leads_through W b i k) (leads_through W b i b && leads_through W b b k)

    through_there : leads_through W b i b ≡ true → leads_through W b b k ≡ true → leads_through W (suc b) i k ≡ true
    unfolding leads_through
    through_there h g = or_right (leads_through W b i k) (leads_through W b i b && leads_through W b b k) (ap₂ ◌&&◌ h g)

  -- What is found is there.
  linked_leads : (i k : ℕ) → linked W i k ≡ true → Leads W i k
  unfolding linked
  linked_leads i k h =
      let w = any_attained W.edges (λ e. eqb (W.from e) i && eqb (W.to e) k) h in
      let e = w.0 in
      let both = and_both (eqb (W.from e) i) (eqb (W.to e) k) w.2 in
      subst₂ (Leads W) (eqb-true (W.from e) i both.0) (eqb-true (W.to e) k both.1) (edge e w.1)

  pub leads_if_through : (between i k : ℕ) → leads_through W between i k ≡ true → Leads W i k
  leads_if_through zero i k h = linked_leads i k (unfold leads_through in h)
  leads_if_through (suc b) i k h =
      ⊎_elim (λ short. leads_if_through b i k short)
      (λ long. leads_on (leads_if_through b i b long.0) (leads_if_through b b k long.1))
      (through_either b i k h)

  -- What is there is found.
  edge_linked : (e : ℕ) → e < W.edges → linked W (W.from e) (W.to e) ≡ true
  unfolding linked
  edge_linked e l =
      any_holds W.edges _ e l (ap₂ ◌&&◌ (eq-eqb (W.from e) (W.from e) refl) (eq-eqb (W.to e) (W.to e) refl))

  through_if_linked : (b i k : ℕ) → linked W i k ≡ true → leads_through W b i k ≡ true
  through_if_linked zero i k h = unfold leads_through in h
  through_if_linked (suc b) i k h = through_without b i k (through_if_linked b i k h)

  -- An edge to a task v that may be passed, and on from there.
  through_if_linked_then :
      (b i v k : ℕ) → v < b → linked W i v ≡ true → leads_through W b v k ≡ true → leads_through W b i k ≡ true
  through_if_linked_then zero i v k l h g = absurd (omega arith)
  through_if_linked_then (suc b) i v k l h g =
      below_next (λ u. linked W i u ≡ true → leads_through W (suc b) u k ≡ true → leads_through W (suc b) i k ≡ true) b
      (λ to_b on. through_there b i k (through_if_linked b i b to_b) (⊎_elim (λ short. short) (λ long. long.1) (through_either b b k on)))
      (λ u m to_u on.
      ⊎_elim (λ short. through_without b i k (through_if_linked_then b i u k m to_u short))
      (λ long. through_there b i k (through_if_linked_then b i u b m to_u long.0) long.1)
      (through_either b u k on))
      v l h g

  module _ (between : ℕ) (ends : (e : ℕ) → e < W.edges → W.to e < between) where
    pub through_if_leads : {i k : ℕ} → Leads W i k → leads_through W between i k ≡ true
    through_if_leads (edge e l) = through_if_linked between (W.from e) (W.to e) (edge_linked e l)
    through_if_leads (along e {k = k} l p) =
        through_if_linked_then between (W.from e) (W.to e) k (ends e l) (edge_linked e l) (through_if_leads p)

    pub through_iff_leads : (i k : ℕ) → (leads_through W between i k ≡ true) ↔ Leads W i k
    through_iff_leads i k = (leads_if_through between i k, through_if_leads)
