-- Reading a text as commands. docs/FORMATS.md, Commands, has the table of causes.
use Rattle.std.specs.Prelude.{ℕ, ◌≡◌, ◌≤◌, ◌<◌, ◌+◌, nat_lt, if◌then◌else◌, List, [], ◌∷◌, ◌++◌, length, Option, Some, None, Result, Ok, Err}
use Rattle.text_lines.specs.Text.{lines_of}
use Rattle.run_script.specs.Scripts.{Refusal}
use Rattle.debug_core.specs.declared.command.Command.{Command}
use Rattle.debug_core.specs.declared.command.Command.TheVariants.{At, Irq, Mem}
use Rattle.debug_core.specs.declared.command.CommandFault.{CommandFault}
use Rattle.debug_core.specs.declared.command.CommandFault.TheVariants as fault
use Rattle.debug_core.specs.Lines.{Said, said}

-- The commands with what one more line says, or the cause for which that line is refused. There are at most
-- 1,024 commands.
abbrev pub with_said : List Command → Said → Result (List Command) ℕ
with_said commands (Ok None) = Ok commands
with_said commands (Ok (Some command)) = if nat_lt (length commands) 1024 then Ok (commands ++ command ∷ []) else Err 4
with_said commands (Err cause) = Err cause

abbrev pub go_on : ℕ → Result (List Command) ℕ → (List Command → Result (List Command) Refusal) → Result (List Command) Refusal
go_on line (Ok commands) rest = rest commands
go_on line (Err cause) rest = Err (cause, line)

-- the commands read so far, and those of the lines from this number on
unfoldable pub with_lines : List Command → ℕ → List (List ℕ) → Result (List Command) Refusal
with_lines commands number [] = Ok commands
with_lines commands number (line ∷ lines) =
    go_on number (with_said commands (said line)) (λ next. with_lines next (number + 1) lines)

-- the commands that the bytes say, or the first cause with its line, from 1
abbrev pub commands_or_fault : List ℕ → Result (List Command) Refusal
commands_or_fault bytes = with_lines [] 1 (lines_of bytes)

-- The numbers of a command are in range: at most 64 bytes, lines 0 to 63, turns up to 1000000000.
abbrev pub AsksForFew : Command → Type 0
AsksForFew command = record {
  bytes : (at len : ℕ) → command ≡ Mem at len → len ≤ 64;
  line : (number : ℕ) → command ≡ Irq number → number < 64;
  turn : (turn : ℕ) → command ≡ At turn → turn ≤ 1000000000;
}

-- ---- faults

-- the cause and the line that a fault states; none if memory ran out
abbrev pub stated : CommandFault → Option Refusal
stated (fault.Refused cause line) = Some (cause, line)
stated fault.Memory = None

-- the fault is this cause with this line, or that memory ran out
abbrev pub Refuses : CommandFault → ℕ → Result (List Command) ℕ → Type 0
Refuses (fault.Refused cause place) line answer = (place ≡ line) × (answer ≡ Err cause)
Refuses fault.Memory line answer = Unit {0}
