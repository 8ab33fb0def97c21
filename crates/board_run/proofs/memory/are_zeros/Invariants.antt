use Rattle.std.proofs.Common.{◌≡◌, ◌-◌}
use Rattle.std.specs.List.{list_all, range_with_len}
use Rattle.task_table.specs.model.State.{State}
use Rattle.board_model.specs.Script.{Scenario}
use Rattle.board_core.specs.Data.{boxed}
use Rattle.board_core.specs.Stands.{Stands}
use Rattle.board_run.specs.MemoryText.{are_zeros, is_zero}
use Rattle.board_run.proofs.memory.are_zeros.Given as goal

-- it rests on the bytes that are left
abbrev pub invariant-loop-k : goal.invariant-loop-k
invariant-loop-k boxes l =
    let shown = boxed (λ p. (goal.Device-dyn boxes p).shown p.1) in
    (x : Scenario) (s : State) → Stands shown x l.board s → list_all (is_zero s.memory l.addr) (range_with_len l.k (16 - l.k)) ≡ are_zeros s.memory l.addr 16
