use Rattle.board_model.specs.Run.{state_after}
use Rattle.board_model.proofs.RunKeeps.{sane_turns}
use Rattle.board_model.proofs.DeadTurns.{dead_memory}
use Rattle.board_model.proofs.laws.an_outdated_id_touches_no_memory.Goals as goal

pub returns : goal.returns
returns c = λ level x n k s h names. dead_memory level x (state_after level x n s) (sane_turns level x n s h) k names
