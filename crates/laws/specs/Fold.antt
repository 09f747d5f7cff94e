-- The laws of any definition that recurses on a count: `fold (suc k) f` joins `f k` to `fold k f`. `Folds` states them of each fold of the rules.
use Rattle.std.specs.Prelude.{ℕ, zero, suc, ◌+◌, ◌≤◌, ◌<◌, ◌≡◌, refl, cond, ◌⊎◌, eqb}
use Rattle.std.proofs.Common.{sym, ap, ap₂, ◌∙◌, ⊎_elim, add-one, arith, eq-eqb, ne_eqb}
use Rattle.laws.specs.Numbers.{below_next}

-- `fold` joins by `join`.
abbrev pub Joins {ℓ κ} : {A : Type ℓ} {B : Type κ} → (B → A → B) → (ℕ → (ℕ → A) → B) → Type (ℓ ⊔ κ)
Joins {A = A} join fold = (k : ℕ) (f : ℕ → A) → fold (suc k) f ≡ join (fold k f) (f k)

module _ {ℓ κ} {A : Type ℓ} {B : Type κ} (join : B → A → B) (fold : ℕ → (ℕ → A) → B) (joins : Joins join fold) where
  -- One turn of a loop.
  pub fold_next : (k : ℕ) (f : ℕ → A) {x r : B} → x ≡ fold k f → r ≡ join x (f k) → r ≡ fold (k + 1) f
  fold_next k f e h = h ∙ ap (λ y. join y (f k)) e ∙ sym (joins k f) ∙ ap (λ n. fold n f) (sym (add-one k))

  -- Functions that are equal below the count.
  pub fold_same : (k : ℕ) (f g : ℕ → A) → fold zero f ≡ fold zero g → ((i : ℕ) → i < k → f i ≡ g i) → fold k f ≡ fold k g
  fold_same zero f g start same = start
  fold_same (suc k) f g start same =
      joins k f ∙ ap₂ join (fold_same k f g start (λ i l. same i (omega arith))) (same k (omega arith)) ∙ sym (joins k g)

  -- What holds at the start and is kept by what is joined.
  pub fold_keeps {μ ν} : (P : B → Type μ) (Q : A → Type ν) (k : ℕ) (f : ℕ → A)
      → P (fold zero f) → ((b : B) (a : A) → P b → Q a → P (join b a)) → ((i : ℕ) → i < k → Q (f i)) → P (fold k f)
  fold_keeps P Q zero f start keeps each = start
  fold_keeps P Q (suc k) f start keeps each =
      rw (joins k f) (keeps (fold k f) (f k) (fold_keeps P Q k f start keeps (λ i l. each i (omega arith))) (each k (omega arith)))

  -- How the whole stands to each value: as what is joined does to the last, where joining more does not change that.
  pub fold_to_each {μ} : (To : B → A → Type μ) → ((b : B) (a : A) → To (join b a) a) → ((b : B) (a last : A) → To b a → To (join b last) a)
      → (k : ℕ) (f : ℕ → A) (i : ℕ) → i < k → To (fold k f) (f i)
  fold_to_each To last more zero f i l = absurd (omega arith)
  fold_to_each To last more (suc k) f i l =
      rw (joins k f)
      (below_next (λ n. To (join (fold k f) (f k)) (f n)) k (last (fold k f) (f k))
      (λ n m. more (fold k f) (f n) (f k) (fold_to_each To last more k f n m)) i l)

-- Where joining takes one of the two, the fold is one of the values.
pub fold_attained {ℓ} : {A : Type ℓ} (join : A → A → A) (fold : ℕ → (ℕ → A) → A) → Joins join fold
    → ((f : ℕ → A) → fold 1 f ≡ f 0) → ((x y : A) → (join x y ≡ x) ⊎ (join x y ≡ y))
    → (k : ℕ) (f : ℕ → A) → 1 ≤ k → (i : ℕ) × (i < k) × (f i ≡ fold k f)
fold_attained join fold joins one either zero f l = absurd (omega arith)
fold_attained join fold joins one either (suc zero) f l = (0, omega arith, sym (one f))
fold_attained {A = A} join fold joins one either (suc (suc k)) f l =
    go (fold_attained join fold joins one either (suc k) f (omega arith)) (either (fold (suc k) f) (f (suc k)))
  where
    go : (i : ℕ) × (i < suc k) × (f i ≡ fold (suc k) f)
        → (join (fold (suc k) f) (f (suc k)) ≡ fold (suc k) f) ⊎ (join (fold (suc k) f) (f (suc k)) ≡ f (suc k))
        → (i : ℕ) × (i < suc (suc k)) × (f i ≡ fold (suc (suc k)) f)
    go w =
        ⊎_elim (λ e. (w.0, omega arith, w.2 ∙ sym e ∙ sym (joins (suc k) f)))
        (λ e. (suc k, omega arith, sym e ∙ sym (joins (suc k) f)))

-- What is done to the whole is done to each value, where it is so of joining two.
pub fold_mapped {ℓ κ μ ν} : {A : Type ℓ} {B : Type κ} {C : Type μ} {D : Type ν}
    (join : B → A → B) (fold : ℕ → (ℕ → A) → B) (joins : Joins join fold)
    (joinᵗ : D → C → D) (foldᵗ : ℕ → (ℕ → C) → D) (joinsᵗ : Joins joinᵗ foldᵗ)
    (each : A → C) (whole : B → D) → ((b : B) (a : A) → joinᵗ (whole b) (each a) ≡ whole (join b a))
    → (k : ℕ) (f : ℕ → A) → foldᵗ zero (λ i. each (f i)) ≡ whole (fold zero f) → foldᵗ k (λ i. each (f i)) ≡ whole (fold k f)
fold_mapped join fold joins joinᵗ foldᵗ joinsᵗ each whole joined zero f start = start
fold_mapped join fold joins joinᵗ foldᵗ joinsᵗ each whole joined (suc k) f start =
    joinsᵗ k (λ i. each (f i))
    ∙ ap (λ y. joinᵗ y (each (f k))) (fold_mapped join fold joins joinᵗ foldᵗ joinsᵗ each whole joined k f start)
    ∙ joined (fold k f) (f k)
    ∙ ap whole (sym (joins k f))

-- Where joining goes in any order and `none` adds nothing, a value that was `none` joins on.
pub fold_changed {ℓ} : {A : Type ℓ} (join : A → A → A) (fold : ℕ → (ℕ → A) → A) (none : A) → Joins join fold
    → ((f g : ℕ → A) → fold zero f ≡ fold zero g) → ((x : A) → join x none ≡ x) → ((x y z : A) → join (join x y) z ≡ join (join x z) y)
    → (f : ℕ → A) (c : A) (k n : ℕ) → n < k → f n ≡ none → fold k (λ i. cond (eqb n i) c (f i)) ≡ join (fold k f) c
fold_changed join fold none joins start adds_nothing any_order f c zero n l e = absurd (omega arith)
fold_changed join fold none joins start adds_nothing any_order f c (suc k) n l e =
    joins k _
    ∙ below_next (λ i. f i ≡ none → join (fold k (λ x. cond (eqb i x) c (f x))) (cond (eqb i k) c (f k)) ≡ join (join (fold k f) (f k)) c) k
    (λ at_k.
    let before = fold_same join fold joins k (λ x. cond (eqb k x) c (f x)) f (start _ _) (λ i m. rw (ne_eqb k i (omega arith))) in
    rw (before, eq-eqb k k refl, at_k, adds_nothing))
    (λ i m at_i.
    rw (ne_eqb i k (omega arith), fold_changed join fold none joins start adds_nothing any_order f c k i m at_i) (any_order (fold k f) c (f k)))
    n l e
    ∙ ap (λ x. join x c) (sym (joins k f))
