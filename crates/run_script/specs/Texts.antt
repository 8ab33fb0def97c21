-- The text of a script: one spelling for each, in the forms of one event a line.
use Rattle.std.specs.Prelude.{ℕ, List, [], ◌++◌, codes, decimal, Option, Some, None}
use Rattle.std.specs.List.{flat_map}
use Rattle.run_script.specs.declared.events.Event.{Event}
use Rattle.run_script.specs.declared.events.Event.TheVariants.{Tick, Irq, Feed}
use Rattle.run_script.specs.Scripts.{Listed, ScriptData}

-- how a line names an event
abbrev pub event_text : Event → List ℕ
event_text Tick = codes "tick"
event_text (Irq line) = codes "irq " ++ decimal line
event_text (Feed device byte) = codes "in " ++ decimal device ++ codes " " ++ decimal byte

unfoldable pub event_line : Listed → List ℕ
event_line listed = codes "at " ++ decimal listed.0 ++ codes " " ++ event_text listed.1 ++ codes "\n"

-- the line of a period, if there is one
abbrev pub period_line : Option ℕ → List ℕ
period_line None = []
period_line (Some period) = codes "every " ++ decimal period ++ codes " tick\n"

-- the period first, then a line for each event, in their order
unfoldable pub script_text : ScriptData → List ℕ
script_text script = period_line script.every ++ flat_map event_line script.events
