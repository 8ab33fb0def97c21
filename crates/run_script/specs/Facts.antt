-- The facts that are true of each script that is read.
use Rattle.std.specs.Prelude.{ℕ, ◌≡◌, ◌≤◌, ◌<◌, List, Some, length}
use Rattle.std.specs.List.{All, count_by}
use Rattle.std.specs.List.Sorted.{IsNonDecreasingBy}
use Rattle.run_script.specs.declared.events.Event.{Event}
use Rattle.run_script.specs.declared.events.Event.TheVariants.{Irq, Feed}
use Rattle.run_script.specs.Scripts.{Listed, ScriptData, is_of}

pub record IsPeriod (period : ℕ) : Type 0 where
  pub some : 0 < period
  pub most : period ≤ 1000000000

-- an interrupt is on a line below 64
abbrev pub HasLine : Event → Type 0
HasLine event = (line : ℕ) → event ≡ Irq line → line < 64

-- the byte is below 256, and the device's index is below 8
abbrev pub HasDevice : Event → Type 0
HasDevice event = (device byte : ℕ) → event ≡ Feed device byte → (device < 8) × (byte < 256)

pub record IsListed (listed : Listed) : Type 0 where
  pub turn : listed.0 < 1000000000
  pub line : HasLine listed.1
  pub device : HasDevice listed.1

-- the events come by their turns, at most eight of each
pub record Facts (script : ScriptData) : Type 0 where
  pub every : (period : ℕ) → script.every ≡ Some period → IsPeriod period
  pub most : length script.events ≤ 65536
  pub ascending : IsNonDecreasingBy (λ (listed : Listed). listed.0) script.events
  pub most_each : (turn : ℕ) → count_by (is_of turn) script.events ≤ 8
  pub listed : All IsListed script.events

-- what happens in a turn: a tick and eight listed events at most
pub record IsTurn (events : List Event) : Type 0 where
  pub few : length events ≤ 9
  pub lines : All HasLine events
  pub devices : All HasDevice events
