-- What is kept of the processors once the first k windows are put, each among those of its processor.
use Rattle.std.specs.Prelude.{ℕ, zero, suc, List, replicate}
use Rattle.rules.specs.Fields.{M_processor, M_begin, M_end}
use Rattle.rules.specs.Reading.{Request}
use Rattle.rules.specs.Workflow.{window_place}
use Rattle.busy.specs.declared.Processors.{Processors}
use Rattle.busy.specs.Put.{put_in}

unfoldable pub kept_windows : List ℕ → Request → ℕ → Processors
kept_windows s r zero = record { begins = replicate 128 0; ends = replicate 128 0; first = replicate 17 0 }
kept_windows s r (suc k) =
    let place = window_place r k in
    put_in (M_processor s place) (M_begin s place) (M_end s place) (kept_windows s r k)
