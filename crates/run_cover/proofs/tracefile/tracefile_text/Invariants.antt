use Rattle.std.proofs.Common.{◌≡◌, map, take, string_bytes}
use Rattle.task_table.specs.model.State.{State}
use Rattle.board_model.specs.Script.{Scenario}
use Rattle.board_core.specs.Data.{boxed}
use Rattle.board_core.specs.Stands.{Stands}
use Rattle.run_cover.specs.Counted.{count_of}
use Rattle.run_cover.specs.Tracefile.{section_of, tracefile_text}
use Rattle.run_cover.proofs.tracefile.tracefile_text.Given as goal

abbrev pub invariant-loop-source : goal.invariant-loop-source
invariant-loop-source g l =
    let shown = boxed (λ p. (goal.Device-dyn g p).shown p.1) in
    (x : Scenario) (s : State) → Stands shown x l.board s → string_bytes l.text ≡ tracefile_text s.memory (count_of l.counts) (map section_of (take l.source-index l.sources))
