use Rattle.std.proofs.lemmas.Bool.{and_parts}
use Rattle.command_line.proofs.Whole.{whole}
use Rattle.command_line.proofs.laws.every_accepted_command_is_whole.Goals as goal

pub returns : goal.returns
returns c = λ words accepted. whole words (and_parts _ _ accepted).0
