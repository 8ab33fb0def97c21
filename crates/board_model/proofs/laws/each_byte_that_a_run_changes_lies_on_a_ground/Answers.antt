use Rattle.board_model.specs.Run.{state_after}
use Rattle.board_model.proofs.RunKeeps.{sane_turns}
use Rattle.board_model.proofs.Changes.{changes_on_grounds}
use Rattle.board_model.proofs.laws.each_byte_that_a_run_changes_lies_on_a_ground.Goals as goal

pub returns : goal.returns
returns c = λ level x n s h. changes_on_grounds level x (state_after level x n s) (sane_turns level x n s h)
