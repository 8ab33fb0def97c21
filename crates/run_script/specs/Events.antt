-- The script and the refusal that the code's script and fault stand for.
use Rattle.std.specs.Prelude.{Option, Some, None}
use Rattle.run_script.specs.declared.events.ScriptFault.{ScriptFault}
use Rattle.run_script.specs.declared.events.ScriptFault.TheVariants as fault
use Rattle.run_script.specs.declared.script.Script.{Script}
use Rattle.run_script.specs.Scripts.{Refusal, ScriptData}

-- the script that it is
abbrev pub script_data : Script → ScriptData
script_data s = record { every = s.every; events = s.events.items }

-- the cause and the line that it states; none if memory ran out
abbrev pub stated : ScriptFault → Option Refusal
stated (fault.Refused cause line) = Some (cause, line)
stated fault.Memory = None
