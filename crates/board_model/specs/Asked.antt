-- Enabled lines, and whether the devices that drive them ask.
use Rattle.std.specs.Prelude.{◌≡◌, ◌<◌, true, false, Contains, AllPairs}
use Rattle.task_table.specs.model.State.{Setup, LineSetup, State}
use Rattle.task_table.specs.model.Asking.{is_asked}
use Rattle.task_table.specs.model.Reading.{line_at}

-- the lines ascend, as those of an image do
abbrev pub AreAscending : Setup → Type 0
AreAscending g = AllPairs (λ o p. o.line < p.line) g.lines

-- no enabled line is asked for
abbrev pub AreAnswered : Setup → State → Type 0
AreAnswered g s = (o : LineSetup) → Contains g.lines o → (line_at s o.line).enabled ≡ true → is_asked s o ≡ false
