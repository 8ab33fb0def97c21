use Rattle.std.proofs.Common.{arith}
use Rattle.std.proofs.lemmas.Map.Text.{text_keys}
use Rattle.outside_io.proofs.memory.replace.Goals as goal

pub returns-clause-others : goal.returns-clause-others
returns-clause-others c = λ other ne. grind (arith, text_keys)

pub returns-clause-rooms : goal.returns-clause-rooms
returns-clause-rooms c = λ other. grind (arith, text_keys)
