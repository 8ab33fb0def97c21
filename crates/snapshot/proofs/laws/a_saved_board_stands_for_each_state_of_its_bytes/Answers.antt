use Rattle.board_core.specs.Data.{boxed}
use Rattle.snapshot.proofs.SpelledAlike.{stands_spelled}
use Rattle.snapshot.proofs.laws.a_saved_board_stands_for_each_state_of_its_bytes.Goals as goal

pub returns : goal.returns
returns g c = λ x u s bytes st saved spelled sane counted same. stands_spelled (boxed (λ p. (goal.Device-dyn g p).shown p.1)) x c.args.board.now u s bytes st saved spelled sane counted same
