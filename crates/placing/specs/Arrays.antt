-- The arrays at first, and with one more row: a store keeps what each holds.
use Rattle.std.specs.Prelude.{ℕ, ◌<◌, ◌≡◌, refl, List, [], ◌∷◌, eqb, set, replicate}
use Rattle.std.proofs.Math.Path.{sym}
use Rattle.std.proofs.Common.{◌∙◌, arith}
use Rattle.std.proofs.Math.ListN.{length-set}
use Rattle.rules.specs.Rows.{Row, Placed, row_of}
use Rattle.laws.specs.Tests.{cond_mapped}
use Rattle.laws.specs.Stores.{stored_holds, repeated}
use Rattle.placing.specs.Placed.{Column, Columns}

-- At first no task has a row.
column_first : (field : Row → ℕ) → ((i : ℕ) → field (row_of [] i) ≡ 0) → Column field [] (replicate 64 0)
column_first field none = record { size = refl; holds = λ i. repeated 64 0 i ∙ sym (none i) }

pub columns_first : Columns [] (replicate 64 0) (replicate 64 0) (replicate 64 0) (replicate 64 0)
unfolding row_of
columns_first =
    record {
      processors_hold = column_first (λ r. r.processor) (λ i. refl);
      starts_hold = column_first (λ r. r.start) (λ i. refl);
      finishes_hold = column_first (λ r. r.finish) (λ i. refl);
      costs_hold = column_first (λ r. r.cost) (λ i. refl);
    }

module _ (p : Placed) (rows : List Placed) where
  column_more : (field : Row → ℕ) {xs : List ℕ} → Column field rows xs → p.task < 64 → Column field (p ∷ rows) (set xs p.task (field p.row))
  unfolding row_of
  column_more field {xs} held l =
      record {
        size = length-set xs p.task (field p.row) ∙ held.size;
        holds =
            stored_holds xs _ _ p.task (field p.row) 0 (omega (arith, held.size)) held.holds
            (λ i. sym (cond_mapped field (eqb p.task i) p.row (row_of rows i)));
      }

  pub columns_more :
      {sits starts ends costs : List ℕ} → Columns rows sits starts ends costs → p.task < 64
      → Columns (p ∷ rows) (set sits p.task p.row.processor) (set starts p.task p.row.start) (set ends p.task p.row.finish)
      (set costs p.task p.row.cost)
  columns_more held l =
      record {
        processors_hold = column_more (λ r. r.processor) held.processors_hold l;
        starts_hold = column_more (λ r. r.start) held.starts_hold l;
        finishes_hold = column_more (λ r. r.finish) held.finishes_hold l;
        costs_hold = column_more (λ r. r.cost) held.costs_hold l;
      }
