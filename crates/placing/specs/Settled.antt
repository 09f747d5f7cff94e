-- Two placings that the contract of `place` allows are one: the rules settle the rows, and these the three numbers and the four arrays.
use Rattle.std.specs.Prelude.{ℕ, ◌≡◌, List}
use Rattle.std.proofs.Common.{sym, ◌∙◌, ext_get_or}
use Rattle.rules.specs.Workflow.{Workflow}
use Rattle.rules.specs.Rows.{Row, Placed}
use Rattle.rules.specs.Method.{Name}
use Rattle.placing.specs.declared.Placing.{Placing}
use Rattle.placing.specs.Placed.{Column, Columns, PlacedAs}

column_settled : {field : Row → ℕ} {rows : List Placed} {xs ys : List ℕ} → Column field rows xs → Column field rows ys → xs ≡ ys
column_settled {xs = xs} {ys = ys} a b =
    ext_get_or 0 xs ys (a.size ∙ sym b.size) (λ i l. a.holds i ∙ sym (b.holds i))

-- Four arrays that hold the same rows are the same.
pub columns_settled :
    {rows : List Placed} {p s f c p' s' f' c' : List ℕ} → Columns rows p s f c → Columns rows p' s' f' c'
    → (p ≡ p') × (s ≡ s') × (f ≡ f') × (c ≡ c')
columns_settled one other = (
  column_settled one.processors_hold other.processors_hold,
  column_settled one.starts_hold other.starts_hold,
  column_settled one.finishes_hold other.finishes_hold,
  column_settled one.costs_hold other.costs_hold,
)

pub placing_settled :
    (M : Name) (W : Workflow) {p s f c p' s' f' c' : List ℕ} (a b : Placing) → PlacedAs M W p s f c a → PlacedAs M W p' s' f' c' b
    → (a ≡ b) × ((p ≡ p') × (s ≡ s') × (f ≡ f') × (c ≡ c'))
placing_settled M W a b one other =
    let lengths = one.length_is ∙ sym other.length_is in
    let spent = one.cost_is ∙ sym other.cost_is in
    let left = one.left_is ∙ sym other.left_is in
    (λ t. record { length = lengths t; cost = spent t; left = left t }, columns_settled one.columns other.columns)
