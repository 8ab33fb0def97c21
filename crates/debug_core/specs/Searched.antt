-- What a search looks for: a turn with a certain note, or a turn that changes a certain byte
-- (docs/FORMATS.md, Commands).
use Rattle.std.specs.Prelude.{ℕ, zero, suc, ◌+◌, Bool, true, find, is_some, Option, Some, None, if◌then◌else◌}
use Rattle.std.specs.List.{range_with_len}
use Rattle.std.specs.Option.{option_map}
use Rattle.mem_banks.specs.Memory.{Memory, byte_at, is_held}
use Rattle.board_model.specs.declared.outcomes.Level.TheVariants.{Calls}
use Rattle.board_model.specs.Script.{Scenario}
use Rattle.board_model.specs.Turn.{turn}
use Rattle.board_core.specs.Changes.{change_in}
use Rattle.trace_text.specs.declared.kinds.NoteKind.{NoteKind}
use Rattle.trace_text.specs.Kinds.{is_sought}
use Rattle.debug_core.specs.declared.command.Sought.{Sought}
use Rattle.debug_core.specs.declared.command.Sought.TheVariants as sought
use Rattle.debug_core.specs.declared.answer.Answer.{Answer}
use Rattle.debug_core.specs.declared.answer.Answer.TheVariants.{Told, Changed}
use Rattle.debug_core.specs.Runs.{state_at}

-- ---- a turn

-- the byte at an address before a turn of the run, and after it
abbrev pub byte_before : Scenario → ℕ → ℕ → Option ℕ
byte_before x at n = byte_at (state_at x n).memory at

abbrev pub byte_left : Scenario → ℕ → ℕ → Option ℕ
byte_left x at n = byte_at (turn Calls x (state_at x n)).state.memory at

-- the answer about a turn of the run in which something was found
abbrev pub told_at : Scenario → NoteKind → Option ℕ → ℕ → Option Answer
told_at x kind number n = option_map (λ note. Told n note) (find (is_sought kind number) (turn Calls x (state_at x n)).notes)

abbrev pub changed_at : Scenario → ℕ → ℕ → Option Answer
changed_at x at n = option_map (λ change. Changed n change.task at change.old change.new) (change_in x at (state_at x n))

abbrev pub found : Scenario → Sought → ℕ → Option Answer
found x (sought.Note kind number) n = told_at x kind number n
found x (sought.Change at) n = changed_at x at n

abbrev pub is_found : Scenario → Sought → ℕ → Bool
is_found x what n = is_some (found x what n)

-- Such a turn can exist. For a change of a byte, memory has to have that byte; memory has the same addresses
-- at every turn.
abbrev pub can_be : Sought → Memory → Bool
can_be (sought.Note _ _) m = true
can_be (sought.Change at) m = is_held m at

-- ---- turns

-- the first and the last of n turns, counted from turn `from` on, in which the search finds something
abbrev pub first_found : Scenario → Sought → ℕ → ℕ → Option ℕ
first_found x what from n = find (is_found x what) (range_with_len from n)

unfoldable pub last_of : (ℕ → Bool) → ℕ → ℕ → Option ℕ
last_of p from zero = None
last_of p from (suc n) = if p (from + n) then Some (from + n) else last_of p from n

abbrev pub last_found : Scenario → Sought → ℕ → ℕ → Option ℕ
last_found x what from n = last_of (is_found x what) from n
