-- The lines of several notes, and the first line of a task (docs/FORMATS.md, Trace).
use Rattle.std.specs.Prelude.{ℕ, List, ◌++◌, codes, decimal, Option, None, Some}
use Rattle.std.specs.List.{flat_map}
use Rattle.kernel_abi.specs.declared.Health.{Health}
use Rattle.kernel_abi.specs.declared.Health.TheVariants.{Well, Stopped, Faulted}
use Rattle.kernel_abi.specs.declared.Note.{Note}
use Rattle.kernel_abi.specs.declared.Timer.{Timer}
use Rattle.trace_text.specs.Text.{hex, line_of, spaced_hex}

-- the lines of notes, each with its turn
abbrev pub notes_text : List (ℕ × Note) → List ℕ
notes_text notes = flat_map (λ n. line_of n.0 n.1) notes

abbrev pub health_text : Health → List ℕ
health_text Well = codes "well"
health_text Stopped = codes "stopped"
health_text (Faulted fault) = codes "faulted:" ++ decimal fault.number

abbrev pub timer_text : Option Timer → List ℕ
timer_text None = codes "-"
timer_text (Some timer) = decimal timer.deadline ++ codes ":" ++ hex timer.bits

-- `task <i> <generation> <health> <wait> <posted h> <timer>`
unfoldable pub task_line : ℕ → ℕ → Health → List ℕ → ℕ → Option Timer → List ℕ
task_line i generation health wait posted timer =
    codes "task " ++ decimal i ++ codes " " ++ decimal generation ++ codes " " ++ health_text health ++ codes " " ++ wait ++ spaced_hex posted ++ codes " " ++ timer_text timer ++ codes "\n"
