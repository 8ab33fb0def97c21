use Rattle.std.proofs.Common.{◌≡◌, length, map, take}
use Rattle.task_table.specs.model.Asking.{asks_at}
use Rattle.task_table.specs.declared.start.LineStart.{LineStart}
use Rattle.board_core.specs.Data.{boxed, data_of}
use Rattle.board_core.proofs.asking.asked_by.Given as goal

-- the devices of the lines so far
abbrev pub invariant-loop-line : goal.invariant-loop-line
invariant-loop-line boxes l =
    let shown = boxed (λ p. (goal.Device-dyn boxes p).shown p.1) in
    record {
      items : l.asked.items ≡ map (λ (o : LineStart). asks_at (data_of shown l.devices) o.device) (take l.line-index l.lines);
      len : length l.asked.items ≡ l.line-index;
    }
