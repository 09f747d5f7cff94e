-- Two parts with one meaning are one part, and two answers of reading these bytes tell one view, or one refusal. The numbers that crate `lookup` reads are the
-- workflow's own, and of a label its contract says where it stands as well as its bytes.
use Rattle.std.specs.Prelude.{ℕ, ◌≡◌, List, Result, Ok, Err}
use Rattle.std.proofs.Common.{sym, ◌∙◌}
use Rattle.refusals.specs.declared.Refusal.{Refusal}
use Rattle.rules.specs.Reading.{read_request}
use Rattle.reader.specs.declared.View.{View}
use Rattle.reader.specs.Meaning.{meant_reading}
use Rattle.reader.specs.Settled.{reading_settled}
use Rattle.lookup.specs.declared.Part.{Part}
use Rattle.lookup.specs.declared.request.Request.{Request}
use Rattle.lookup.specs.Lookup.{meant_part}
use Rattle.lookup.specs.Flow.{ReadAs}

pub part_settled : (a b : Part) → meant_part a ≡ meant_part b → a ≡ b
part_settled a b same = λ i. record { begin = (same i).begin; length = (same i).length }

-- What an answer of reading tells of these bytes, which a good request keeps: its view, or the refusal.
abbrev pub viewed : Result Request Refusal → Result View Refusal
viewed (Ok r) = Ok r.view
viewed (Err refusal) = Err refusal

view_read : (s : List ℕ) (a : Result Request Refusal) → ReadAs s a → read_request s ≡ meant_reading s (viewed a)
view_read s (Ok r) is = rw is at r.good
view_read s (Err refusal) is = is

pub read_as_settled : (s : List ℕ) (a b : Result Request Refusal) → ReadAs s a → ReadAs s b → viewed a ≡ viewed b
read_as_settled s a b one other = reading_settled s (viewed a) (viewed b) (sym (view_read s a one) ∙ view_read s b other)
