use Rattle.std.proofs.Common.{arith}
use Rattle.std.proofs.lemmas.Map.Text.{text_keys}
use Rattle.outside_io.proofs.memory.MemFiles.hold.Goals as goal

pub returns-clause-others : goal.returns-clause-others
returns-clause-others c = λ other ne. grind (arith, text_keys)

pub returns-clause-other_rooms : goal.returns-clause-other_rooms
returns-clause-other_rooms c = λ other ne. grind (arith, text_keys)
