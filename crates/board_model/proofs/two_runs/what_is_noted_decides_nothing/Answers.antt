use Rattle.board_model.proofs.Views.{less_noted-syscall_made, less_noted-turn}
use Rattle.board_model.proofs.two_runs.what_is_noted_decides_nothing.Goals as goal

pub returns : goal.returns
returns c = record { syscall_made = less_noted-syscall_made; turn = less_noted-turn }
