use Rattle.std.proofs.Common.{◌≡◌, ◌++◌, take, string_bytes}
use Rattle.std.specs.List.{flat_map}
use Rattle.task_table.specs.model.State.{State}
use Rattle.board_model.specs.Script.{Scenario}
use Rattle.board_core.specs.Data.{boxed}
use Rattle.board_core.specs.Stands.{Stands}
use Rattle.run_cover.specs.Counted.{count_of}
use Rattle.run_cover.specs.Tracefile.{branch_text}
use Rattle.run_cover.proofs.tracefile.push_branches.Given as goal

abbrev pub invariant-loop-line : goal.invariant-loop-line
invariant-loop-line g l =
    let shown = boxed (λ p. (goal.Device-dyn g p).shown p.1) in
    (x : Scenario) (s : State) → Stands shown x l.board s → string_bytes l.out ≡ string_bytes l.fn.out ++ flat_map (branch_text s.memory (count_of l.counts)) (take l.line-index l.lines)
