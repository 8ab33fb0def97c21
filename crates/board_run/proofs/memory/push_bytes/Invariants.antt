use Rattle.std.proofs.Common.{◌≡◌, ◌+◌, ◌*◌, ◌++◌}
use Rattle.arrayvec.specs.ArrayString.{array_string_len}
use Rattle.task_table.specs.model.State.{State}
use Rattle.board_model.specs.Script.{Scenario}
use Rattle.board_core.specs.Data.{boxed}
use Rattle.board_core.specs.Stands.{Stands}
use Rattle.board_run.specs.MemoryText.{bytes_hex}
use Rattle.board_run.proofs.memory.push_bytes.Given as goal

abbrev pub invariant-loop-k : goal.invariant-loop-k
invariant-loop-k boxes l =
    let shown = boxed (λ p. (goal.Device-dyn boxes p).shown p.1) in
    record {
      bytes : (x : Scenario) (s : State) → Stands shown x l.board s → l.line.bytes ≡ l.fn.line.bytes ++ bytes_hex s.memory l.addr l.k;
      len : array_string_len l.line ≡ array_string_len l.fn.line + 2 * l.k;
    }
