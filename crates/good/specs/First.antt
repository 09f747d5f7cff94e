-- Reading looks at no byte from `looked_at_most` on: past the header, deadline, share, processors, windows and tasks come at most 513 records of 5 bytes.
-- So inputs that agree so far are read alike, and the first 16,384 bytes of an input are read as the whole of it.
use Rattle.std.specs.Prelude.{◌≡◌, refl, ℕ, ◌≤◌, min, Bool, true, false, List, length, take, leb}
use Rattle.std.proofs.Common.{arith, length-take, get_or-take, leb-true, leb-false, le-leb}
use Rattle.std.proofs.lemmas.Bool.{lt-leb}
use Rattle.rules.specs.Fields.{size, body, byte, H_tasks, H_processors, H_budget}
use Rattle.rules.specs.Reading.{read_request}
use Rattle.good.specs.Ranges.{looked_at_most}
use Rattle.good.specs.Kinds.{header_read, end_read}
use Rattle.good.specs.Processors.{past_processors_most}
use Rattle.good.specs.Parts.{deadline_part_read, share_part_read, prices_read, tasks_read}
use Rattle.good.specs.Runs.{edges_read, windows_read, windows_at_most}
use Rattle.good.specs.RangeLaws.{tasks_at_most}
use Rattle.good.specs.Agree.{Agree, four_agree, header_agrees, end_agrees}
use Rattle.good.specs.AgreeParts.{then_agrees, deadline_part_agrees, share_part_agrees, prices_agree, windows_agree, tasks_agree, edges_agree}
use Rattle.good.specs.AgreeParts.{nothing_agrees}

-- Inputs that agree so far, or further, are read alike.
pub read_agrees : {N : ℕ} {s t : List ℕ} → Agree N s t → looked_at_most ≤ N → read_request s ≡ read_request t
unfolding read_request H_tasks H_processors H_budget size body
read_agrees {N} {s} {t} a far =
    rw (← a.same_byte 1 (omega arith), ← a.same_byte 2 (omega arith), ← four_agree a 3 (omega arith))
    (then_agrees (header_agrees a 0 (omega arith))
    (λ after_header _ e₁.
    let h = header_read s 0 e₁ in
    then_agrees (deadline_part_agrees a after_header (omega arith))
    (λ after_deadline deadline e₂.
    let d = deadline_part_read s after_header e₂ in
    then_agrees (share_part_agrees a _ after_deadline (omega arith))
    (λ prices_at share e₃.
    let k = share_part_read s _ after_deadline e₃ in
    then_agrees (prices_agree a _ prices_at (omega arith))
    (λ windows_at _ e₄.
    let (prices_end, processor_in) = prices_read s _ prices_at e₄ in
    let processors = past_processors_most s prices_at (H_processors s 0) in
    then_agrees (windows_agree a _ windows_at (omega arith))
    (λ tasks_at windows e₅.
    let w = windows_read s _ windows_at e₅ in
    let few_windows = windows_at_most w h.processors_in.to_high in
    let windows_end = w.ends in
    let tasks = tasks_at_most h.tasks_in.to_high h.processors_in.to_high in
    then_agrees (tasks_agree a _ _ tasks_at (omega arith))
    (λ edges_at _ e₆.
    let (tasks_end, task_in) = tasks_read s _ _ tasks_at e₆ in
    then_agrees (edges_agree a _ edges_at (omega arith))
    (λ after_edges edges e₇.
    let f = edges_read s _ edges_at e₇ in
    let few_edges = f.few in
    let edges_end = f.ends in
    then_agrees (end_agrees a after_edges (omega arith))
    (λ after_end _ e₈.
    let (ends, whole) = end_read s after_edges e₈ in
    nothing_agrees a after_end _ (omega arith))))))))))

reach_of_first : (N len past : ℕ) → past ≤ N → leb past (min N len) ≡ leb past len
reach_of_first N len past h = go (leb past len) refl
  where
    go : (t : Bool) → leb past len ≡ t → leb past (min N len) ≡ t
    go true e = le-leb past (min N len) (omega (arith, leb-true past len e))
    go false e = lt-leb past (min N len) (omega (arith, leb-false past len e))

-- The first N bytes agree with the whole up to N.
first_agrees : (N : ℕ) (s : List ℕ) → Agree N (take N s) s
unfolding byte
first_agrees N s =
    record {
      same_byte = λ at h. get_or-take N s at 0 h;
      same_reach = λ past h. rw length-take (reach_of_first N (length s) past h);
    }

-- The first 16,384 bytes are read as the whole.
pub read_first : (s : List ℕ) → read_request (take 16_384 s) ≡ read_request s
read_first s = read_agrees (first_agrees 16_384 s) (omega arith)
