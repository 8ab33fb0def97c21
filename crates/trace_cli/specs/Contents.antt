-- Why commands and an arrival are refused.
use Rattle.std.specs.Prelude.{ℕ, nat_lt, if◌then◌else◌, List, length, Option, Some, None, is_some, option_map}
use Rattle.run_script.specs.Scripts.{ScriptData}
use Rattle.debug_core.specs.Reading.{commands_or_fault}
use Rattle.command_files.specs.Contents.{Why, or_later, at_number, fault_in, file_limit, unless_long, script_refusal, script_of}

-- ## commands

-- why a text of commands is refused, if it is (docs/FORMATS.md, Commands)
unfoldable pub commands_refusal : List ℕ → Option Why
commands_refusal bytes = unless_long file_limit bytes (option_map at_number (fault_in (commands_or_fault bytes)))

-- ## an arrival

-- the most events of an arrival
abbrev pub most_arriving : ℕ
most_arriving = 256

-- a script that has more events, or an `every`, is no arrival
abbrev pub arrival_fault : ScriptData → Option Why
arrival_fault script = if nat_lt most_arriving (length script.events) then Some (at_number (5, 0))
    else if is_some script.every then Some (at_number (6, 0))
    else None

-- why an arrival is refused, if it is (docs/FORMATS.md, Sweep)
unfoldable pub arrival_refusal : List ℕ → Option Why
arrival_refusal bytes = or_later (script_refusal bytes) (arrival_fault (script_of bytes))
