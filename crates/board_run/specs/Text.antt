-- The lines of a trace, byte by byte (docs/FORMATS.md, Trace).
use Rattle.std.specs.Prelude.{ℕ, ◌%◌, List, ◌++◌, length, take, drop, codes, decimal, Option, Some, None}
use Rattle.std.specs.List.{flat_map, range_with_len}
use Rattle.words_core.specs.declared.Flags.{Flags}
use Rattle.task_table.specs.model.State as kernel
use Rattle.task_table.specs.model.State.{Task, State, Listen}
use Rattle.task_table.specs.declared.slot.Phase.{Phase}
use Rattle.task_table.specs.declared.slot.Phase.TheVariants.{Offered, Taken}
use Rattle.task_table.specs.model.Reading.{task_at, call_of, listen_of}
use Rattle.trace_text.specs.Text.{low_words, high_words}
use Rattle.trace_text.specs.Lines.{notes_text, task_line}
use Rattle.board_model.specs.declared.outcomes.End.{End}
use Rattle.board_model.specs.declared.outcomes.End.TheVariants.{Bound, Still, Supervisor}
use Rattle.board_model.specs.Run.{Run}

-- ## a task, in three lines

abbrev pub call_text : Phase → ℕ → List ℕ
call_text Offered number = codes "offered:" ++ decimal number
call_text Taken number = codes "taken:" ++ decimal number

-- what a task waits for: nothing, an open call of its own, or a message
abbrev pub wait_text : Option kernel.Call → Option Listen → List ℕ
wait_text (Some call) listen = call_text call.phase call.number
wait_text None (Some listen) = codes "listen"
wait_text None None = codes "-"

-- the task's registers and flags
abbrev pub low_text : List ℕ → List ℕ
low_text registers = low_words (take 8 registers)

abbrev pub high_text : List ℕ → Flags → List ℕ
high_text registers flags = high_words (drop 8 registers) flags.n flags.z flags.c flags.v

-- the three lines of task i, which waits as this text says
unfoldable pub task_lines : ℕ → Task → List ℕ → List ℕ
task_lines i t wait = task_line i (t.births % 64) t.health wait t.posted t.timer ++ low_text t.registers ++ high_text t.registers t.flags

-- the lines of task i in a state
unfoldable pub task_text : State → ℕ → List ℕ
task_text s i = task_lines i (task_at s i) (wait_text (call_of s i) (listen_of s i))

-- the lines of the first n tasks
abbrev pub tasks_text : State → ℕ → List ℕ
tasks_text s n = flat_map (task_text s) (range_with_len 0 n)

-- ## the end

abbrev pub end_name : End → List ℕ
end_name Bound = codes "bound"
end_name Still = codes "still"
end_name Supervisor = codes "supervisor"

-- `end <bound, still or supervisor> <turns> <now>`
unfoldable pub end_line : End → ℕ → ℕ → List ℕ
end_line end turns now = codes "end " ++ end_name end ++ codes " " ++ decimal turns ++ codes " " ++ decimal now ++ codes "\n"

-- the end line, then each task
unfoldable pub end_text : End → State → List ℕ
end_text end s = end_line end s.turn s.now ++ tasks_text s (length s.tasks)

-- ## the whole text of a run

abbrev pub trace_text : Run → List ℕ
trace_text r = notes_text r.notes ++ end_text r.end r.last
