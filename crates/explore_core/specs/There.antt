-- What is asked of a state speaks of what is there (docs/EXPLORE.md, Question, cause 7), and the bytes that are looked at before a turn.
use Rattle.std.specs.Prelude.{ℕ, ◌+◌, ◌<◌, ◌≤◌, ◌⊎◌, ⊤, length, Option, None}
use Rattle.mem_banks.specs.Memory.{byte_at}
use Rattle.task_table.specs.model.State.{State}
use Rattle.run_question.specs.declared.asked.Fact.{Fact}
use Rattle.run_question.specs.declared.asked.Fact.TheVariants as fact
use Rattle.run_question.specs.declared.asked.Property.{Property}
use Rattle.run_question.specs.declared.asked.Property.TheVariants as property

-- a word lies in the flash or in the RAM, wherever these end
abbrev pub LiesInOne : ℕ → Type 0
LiesInOne at = ((0x08000000 ≤ at) × (at + 3 < 0x20000000)) ⊎ ((0x20000000 ≤ at) × (at + 3 < 4294967296))

-- the task is there
abbrev pub IsThere : Fact → State → Type 0
IsThere (fact.Byte at test value) s = ⊤
IsThere (fact.Word at test value) s = LiesInOne at
IsThere (fact.Task task f) s = task < length s.tasks
IsThere (fact.Waiting device) s = ⊤

abbrev pub AreThere : Property → State → Type 0
AreThere (property.NeverSo c turns) s = IsThere c.fact s
AreThere (property.EndsSo c) s = IsThere c.fact s
AreThere _ s = ⊤

-- the byte that a turn may change
abbrev pub byte_before : Property → State → Option ℕ
byte_before (property.NeverChanged at but) s = byte_at s.memory at
byte_before _ s = None
