-- "reads at most 16,384 bytes from standard input; by the size limit its answer is that of the whole input": a good request is no longer
-- than that, and of a refused one everything here is decided by number and place.
use Rattle.std.specs.Prelude.{◌≡◌, refl, ℕ, List, take}
use Rattle.std.proofs.Math.Path.{ap}
use Rattle.std.proofs.Common.{◌∙◌, arith, take_all}
use Rattle.rules.specs.Records.{Read, read, stopped}
use Rattle.rules.specs.Reading.{Request, read_request}
use Rattle.rules.specs.Labels.{part_of, label_lookup, label}
use Rattle.rules.specs.Method.{Name, by_HBCS, by_cheapest, by_HEFT}
use Rattle.rules.specs.Rows.{Row}
use Rattle.rules.specs.Answer.{refusal, outcome_read, outcome_asked, answer_of, answer_asked, rows_asked}
use Rattle.rules.specs.Buffers.{Buffers, buffers_asked}
use Rattle.rules.specs.Text.{row_lines, text_asked, program_asked}
use Rattle.rules.specs.Range.{range, range_line, range_text, range_program}
use Rattle.rules.specs.Why.{why_of, why_not, why_text, why_program}
use Rattle.good.specs.ReadIsGood.{read_is_good}
use Rattle.good.specs.RangeLaws.{good_length}
use Rattle.good.specs.Labels.{no_label_refused}
use Rattle.good.specs.First.{read_first}

-- Of an input refused in reading, f depends on number and place alone.
abbrev ByRefusal : {A : Type 0} → (List ℕ → A) → Type 0
ByRefusal f =
    (s t : List ℕ) (number place : ℕ) → read_request s ≡ stopped number place → read_request t ≡ stopped number place → f s ≡ f t

first_alike : {A : Type 0} (f : List ℕ → A) → ByRefusal f → (s : List ℕ) → f (take 16_384 s) ≡ f s
first_alike f refused s = go (read_request s) refl
  where
    go : (x : Read Request) → read_request s ≡ x → f (take 16_384 s) ≡ f s
    go (read end r) e = ap f (take_all 16_384 s (omega (arith, good_length s r (read_is_good s e))))
    go (stopped number place) e = refused (take 16_384 s) s number place (read_first s ∙ e) e

module _ (M : Name) where
  refused_outcome : (s : List ℕ) (lent : ℕ) {number place : ℕ} →
      read_request s ≡ stopped number place → outcome_asked M s lent ≡ refusal number place
  unfolding outcome_asked outcome_read
  refused_outcome s lent e = rw e

  pub outcome_asked_first : (s : List ℕ) (lent : ℕ) → outcome_asked M (take 16_384 s) lent ≡ outcome_asked M s lent
  outcome_asked_first s lent =
      first_alike (λ x. outcome_asked M x lent) (λ s t number place e e'. rw (refused_outcome s lent e, refused_outcome t lent e')) s

  pub answer_asked_first : (s : List ℕ) (lent : ℕ) → answer_asked M (take 16_384 s) lent ≡ answer_asked M s lent
  unfolding answer_asked
  answer_asked_first s lent = ap answer_of (outcome_asked_first s lent)

  pub rows_asked_first : (s : List ℕ) (lent : List Row) → rows_asked M (take 16_384 s) lent ≡ rows_asked M s lent
  unfolding rows_asked
  rows_asked_first s lent = rw outcome_asked_first

  pub buffers_asked_first : (s : List ℕ) (lent : Buffers) → buffers_asked M (take 16_384 s) lent ≡ buffers_asked M s lent
  unfolding buffers_asked
  buffers_asked_first s lent = rw outcome_asked_first

  pub program_asked_is_text : (input : List ℕ) → program_asked M input ≡ text_asked M input
  unfolding program_asked text_asked answer_asked row_lines
  program_asked_is_text input =
      first_alike (text_asked M) (λ s t number place e e'. rw (refused_outcome s 64 e, refused_outcome t 64 e')) input

pub range_first : (s : List ℕ) → range (take 16_384 s) ≡ range s
unfolding range
range_first s = rw (answer_asked_first by_cheapest s 64, answer_asked_first by_HEFT s 64)

pub range_program_is_text : (input : List ℕ) → range_program input ≡ range_text input
unfolding range_program range_text
range_program_is_text input = ap range_line (range_first input)

pub why_not_first : (s : List ℕ) (i t : ℕ) → why_not (take 16_384 s) i t ≡ why_not s i t
unfolding why_not
why_not_first s i t = ap (λ o. why_of o i t) (outcome_asked_first by_HBCS s 64)

pub why_program_is_text : (input : List ℕ) (i t : ℕ) → why_program input i t ≡ why_text (why_not input i t)
unfolding why_program
why_program_is_text input i t = ap why_text (why_not_first input i t)

pub label_lookup_first : (s : List ℕ) (i : ℕ) → label_lookup (take 16_384 s) i ≡ label_lookup s i
label_lookup_first s i = first_alike (λ x. label_lookup x i) (λ s t number place e e'. rw (no_label_refused s i e, no_label_refused t i e')) s

pub label_first : (s : List ℕ) (i : ℕ) → label (take 16_384 s) i ≡ label s i
unfolding label part_of
label_first s i = first_alike (λ x. label x i) (λ s t number place e e'. rw (no_label_refused s i e, no_label_refused t i e')) s
