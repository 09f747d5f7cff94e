-- A request that was read is good: its reading taken apart, step by step, and each part's facts at the places that the request gives.
use Rattle.std.specs.Prelude.{◌≡◌, refl, ℕ, ◌+◌, ◌≤◌, Bool, true, false, cond, List, length, ltb}
use Rattle.std.proofs.Common.{sym, ap, ◌∙◌, subst, arith, ltb-false}
use Rattle.rules.specs.Fields.{size, body}
use Rattle.rules.specs.Records.{read, stopped}
use Rattle.rules.specs.Reading.{Request, nothing_after, read_request}
use Rattle.rules.specs.Workflow.{processor_place, window_place, task_place, minutes_place, edge_place}
use Rattle.rules.specs.Labels.{label_place}
use Rattle.good.specs.Good.{Between, Good}
use Rattle.good.specs.Records.{stopped_not_read}
use Rattle.good.specs.Reading.{then_read}
use Rattle.good.specs.Kinds.{header_read, end_read}
use Rattle.good.specs.Parts.{deadline_part_read, share_part_read, prices_read, tasks_read}
use Rattle.good.specs.Runs.{edges_read, windows_read, windows_at_most}

nothing_after_read : (s : List ℕ) (at : ℕ) (r : Request) {end : ℕ} {was : Request} →
    nothing_after s at r ≡ read end was → (length s ≤ at) × (at ≡ end) × (r ≡ was)
unfolding nothing_after
nothing_after_read s at r {end} {was} e = go (ltb at (length s)) refl e
  where
    go : (t : Bool) → ltb at (length s) ≡ t →
        cond t (stopped 6 at) (read at r) ≡ read end was → (length s ≤ at) × (at ≡ end) × (r ≡ was)
    go true more p = absurd (stopped_not_read p)
    go false none p = (ltb-false at (length s) none, cc, cc)

-- Past `H`, at most one `D` and at most one `K`.
past_share : {after_header after_deadline at : ℕ} → after_header ≡ 7 → after_header ≤ after_deadline → after_deadline ≤ after_header + 5 →
    after_deadline ≤ at → at ≤ after_deadline + 3 → Between 7 at 15
past_share is from to more most = record { from_low = omega arith; to_high = omega arith }

-- Past `Z` the input has ended.
past_end : (after : ℕ) {len at : ℕ} → at ≡ after + 1 → after + 1 ≤ len → len ≤ at → len ≡ at
past_end after is whole none = omega arith

good_and_end : (s : List ℕ) {end : ℕ} {r : Request} → read_request s ≡ read end r → Good s r × (end ≡ length s)
unfolding read_request processor_place window_place task_place minutes_place edge_place label_place size body
good_and_end s {end} {r} e =
    let (after_header, was, header, e₁) = then_read _ _ e in
    let (after_deadline, deadline, deadline_part, e₂) = then_read _ _ e₁ in
    let (prices_at, share, share_part, e₃) = then_read _ _ e₂ in
    let (windows_at, u, prices, e₄) = then_read _ _ e₃ in
    let (tasks_at, windows, windows_part, e₅) = then_read _ _ e₄ in
    let (edges_at, u, tasks, e₆) = then_read _ _ e₅ in
    let (after_edges, edges, edges_part, e₇) = then_read _ _ e₆ in
    let (after_end, was, end, e₈) = then_read _ _ e₇ in
    let (nothing, ended, same) = nothing_after_read s after_end _ e₈ in
    let h = header_read s 0 header in
    let d = deadline_part_read s after_header deadline_part in
    let k = share_part_read s _ after_deadline share_part in
    let (prices_end, processor_in) = prices_read s _ prices_at prices in
    let (tasks_end, task_in) = tasks_read s _ _ tasks_at tasks in
    let w = windows_read s _ windows_at windows_part in
    let f = edges_read s _ edges_at edges_part in
    let (end_ends, whole) = end_read s after_edges end in (
      subst (λ r. Good s r) same
          (record {
            tasks_in = h.tasks_in;
            processors_in = h.processors_in;
            budget_in = h.budget_in;
            deadline_in = d.holds;
            share_in = k.holds;
            windows_in = windows_at_most w h.processors_in.to_high;
            edges_in = f.few;
            prices_begin = past_share h.ends d.begins d.ends k.begins k.ends;
            windows_begin = prices_end;
            tasks_begin = w.ends;
            edges_begin = tasks_end;
            ends = past_end after_edges end_ends whole nothing ∙ end_ends ∙ ap (λ x. x + 1) f.ends;
            price_in = λ j below. (processor_in j below).1.price_in;
            minimum_in = λ j below. (processor_in j below).1.minimum_in;
            window_in = w.window_in;
            windows_rise = w.rise;
            windows_apart = w.apart;
            four_at_most = w.four;
            labelled = λ i below. (task_in i below).1.labelled;
            minutes_in = λ i j below_n below_m. (task_in i below_n).1.minutes_in j below_m;
            edge_in = f.edge_in;
            rises = f.rises;
          }),
      sym ended ∙ sym (past_end after_edges end_ends whole nothing),
    )

-- What is read is a good request.
pub read_is_good : (s : List ℕ) {end : ℕ} {r : Request} → read_request s ≡ read end r → Good s r
read_is_good s e = (good_and_end s e).0

-- It is read to the input's end.
pub read_to_the_end : (s : List ℕ) {end : ℕ} {r : Request} → read_request s ≡ read end r → end ≡ length s
read_to_the_end s e = (good_and_end s e).1
