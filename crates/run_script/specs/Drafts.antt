-- A script that is being read: what the code's statements say, and what is known of them.
use Rattle.std.specs.Prelude.{ℕ, ◌≡◌, ◌+◌, ◌*◌, ◌<◌, ◌≤◌, ◌==◌, ◌&&◌, Bool, false, List, [], ◌∷◌, length, map, replicate, Result, Err}
use Rattle.std.specs.List.{list_all}
use Rattle.run_script.specs.declared.draft.Draft.{Draft}
use Rattle.run_script.specs.declared.events.Event.TheVariants.{Feed}
use Rattle.run_script.specs.declared.events.ScriptFault.{ScriptFault}
use Rattle.run_script.specs.declared.events.ScriptFault.TheVariants as fault
use Rattle.run_script.specs.declared.statement.Statement.{Statement}
use Rattle.run_script.specs.declared.statement.Statement.TheVariants as code
use Rattle.run_script.specs.Events.{script_data}
use Rattle.run_script.specs.Facts.{HasDevice, HasLine, IsPeriod}
use Rattle.run_script.specs.Words.{is_blank}
use Rattle.run_script.specs.Statements.{Said, Nothing, Every, Lists, Refused}
use Rattle.run_script.specs.Scripts.{Reading}

-- a text ends here: a quote and then only blanks
abbrev pub closes : List ℕ → Bool
closes [] = false
closes (c ∷ cs) = (c == 34) && list_all is_blank cs

-- what a statement says
abbrev pub said : Statement → Said
said code.Nothing = Nothing
said (code.Every period) = Every period
said (code.Repeats first step times event) = Lists first step (replicate times event)
said (code.Bytes first step device bytes) = Lists first step (map (λ byte. Feed device byte) bytes.items)
said (code.Refused cause) = Refused cause

-- all of these turns are turns of a run: `times` turns, the first one and each further one `step` turns later
pub record AreTurns (first step times : ℕ) : Type 0 where
  pub most : step ≤ 1000000000
  pub each : (k : ℕ) → k < times → first + k * step < 1000000000

abbrev pub IsKnown : Statement → Type 0
IsKnown code.Nothing = Unit {0}
IsKnown (code.Every period) = IsPeriod period
IsKnown (code.Repeats first step times event) = AreTurns first step times × HasLine event × HasDevice event
IsKnown (code.Bytes first step device bytes) = AreTurns first step (length bytes.items) × (device < 8)
IsKnown (code.Refused cause) = Unit {0}

-- what is read so far
abbrev pub drafted : Draft → Reading
drafted d = record { script = script_data d.script; from = d.from }

-- the fault is the cause with the line, or memory ran out
abbrev pub Refuses : {A : Type 0} → ScriptFault → ℕ → Result A ℕ → Type 0
Refuses (fault.Refused cause place) line answer = (place ≡ line) × (answer ≡ Err cause)
Refuses fault.Memory line answer = Unit {0}
