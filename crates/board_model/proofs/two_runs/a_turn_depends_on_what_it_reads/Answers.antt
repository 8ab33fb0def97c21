use Rattle.board_model.proofs.SameReads.{same_turn}
use Rattle.board_model.proofs.two_runs.a_turn_depends_on_what_it_reads.Goals as goal

pub returns : goal.returns
returns c = λ level x s sane m agrees. same_turn level x s m sane agrees
