-- The front of the column stands over the front of the buffer.
use Rattle.std.proofs.Common.{◌≡◌, ◌≤◌, ℕ, List, length, take, refl, ap, ◌∙◌, arith}
use Rattle.rules.specs.Folds.{listing}
use Rattle.laws.specs.Listing.{take_listing}
use Rattle.laws.specs.Overwritten.{overwritten_as_it_is}
use Rattle.laws.specs.Stores.{at}
use Rattle.buffers.proofs.store.Goals as goal

front : (n : ℕ) (xs : List ℕ) → n ≤ length xs → take n xs ≡ listing n (at xs)
front n xs l = ap (take n) (overwritten_as_it_is n (at xs) xs 0 l (λ i m. refl)) ∙ take_listing (at xs) n _

pub returns : goal.returns
returns c = rw (c.copy_from_slice.ensures.after, front c.args.n c.args.column.now (omega arith))
