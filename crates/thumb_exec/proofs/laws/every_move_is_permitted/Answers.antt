use Rattle.thumb_exec.proofs.Permitting.{permitted}
use Rattle.thumb_exec.proofs.laws.every_move_is_permitted.Goals as goal

pub returns : goal.returns
returns c = λ refuses holds cpu i. permitted refuses holds cpu i
