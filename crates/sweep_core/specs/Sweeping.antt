-- The states of a sweep. Its board goes on from arrival time to arrival time, and from each of them to the
-- end of that run and back.
use Rattle.std.specs.Prelude.{ℕ, ◌≡◌, ◌≤◌, ◌+◌, Bool, List, length, Result}
use Rattle.outside_io.specs.Outside.{Pushes}
use Rattle.outside_io.specs.Seen.{SinkSeen}
use Rattle.arrayvec.specs.ArrayString.{ArrayString}
use Rattle.run_script.specs.Events.{script_data}
use Rattle.run_script.specs.Laying.{HasRoom}
use Rattle.run_script.specs.Scripts.{Listed, ScriptData, events_of, lasts}
use Rattle.task_table.specs.model.State.{State}
use Rattle.task_table.specs.model.Sane.{Sane}
use Rattle.board_model.specs.declared.outcomes.Level.TheVariants.{Calls}
use Rattle.board_model.specs.Alike.{reduced}
use Rattle.board_model.specs.Cut.{cut_at}
use Rattle.board_model.specs.Laid.{laid, with_script}
use Rattle.board_model.specs.Run.{Run, run}
use Rattle.board_model.specs.Script.{Scenario, start_of}
use Rattle.board_core.specs.Data.{Shows}
use Rattle.board_core.specs.Stands.{Stands, script_of}
use Rattle.snapshot.specs.Saved.{spelling}
use Rattle.sweep_core.specs.declared.comparing.Compared.{Compared}
use Rattle.sweep_core.specs.declared.sweeper.Sweeper.{Sweeper}
use Rattle.sweep_core.specs.declared.told.Told.{Told}
use Rattle.sweep_core.specs.Comparing.{compared_of, with_time}
use Rattle.sweep_core.specs.Leading.{GoesOnAs, IsLeading, board_script}
use Rattle.sweep_core.specs.Outcomes.{heard, nothing_heard}
use Rattle.sweep_core.specs.Swept.{Asking, base_run, outcome_at, times_text}
use Rattle.sweep_core.specs.Told.{IsTold}

abbrev pub asked : List Listed → ℕ → ℕ → ℕ → Bool → Asking
asked arrival from to limit mem = record { arrival = arrival; from = from; to = to; limit = limit; mem = mem }

-- what is asked about one arrival time
abbrev pub asked_at : List Listed → ℕ → ℕ → Bool → Asking
asked_at arrival time limit mem = asked arrival time (time + 1) limit mem

-- the script with which the board runs
abbrev pub own_script : {X : Type 0} {H : X → Type 0} → Sweeper X H → ScriptData
own_script w = board_script w.board

-- The run starts sane. The sweeper holds these two scripts. It has room for each script that is laid from
-- them, and for a state of the run.
pub record HasScripts {X : Type 0} {H : X → Type 0} (x : Scenario) (arrival : List Listed) (w : Sweeper X H) : Type 0 where
  pub start : Sane x.setup (start_of x)
  pub script : script_data w.script ≡ x.script
  pub arriving : (script_data w.arrival).events ≡ arrival
  pub spare : HasRoom w.spare (length x.script.events + length arrival)
  pub saved : length w.saved.items ≡ length (spelling (reduced (start_of x)))

-- The board stands for a state, with any script. With births modulo 64 the state equals that of the run with
-- this script before turn m, or at the end of the run if that comes first. The tally is that of this run's
-- notes up to there.
pub record HasComeTo {X : Type 0} {H : X → Type 0} (shown : Shows X H) (x : Scenario) (script : ScriptData) (w : Sweeper X H) (m : ℕ) : Type 0 where
  pub state : State
  pub stands : Stands shown (with_script x (own_script w)) w.board state
  pub same : reduced state ≡ reduced (cut_at Calls (with_script x script) m (start_of x))
  pub front : w.front ≡ heard nothing_heard (run Calls (with_script x script) m (start_of x)).notes

-- The start of a sweep. The script that the board is given has room too, and no run leads yet.
pub record IsReady {X : Type 0} {H : X → Type 0} (shown : Shows X H) (x : Scenario) (arrival : List Listed) (w : Sweeper X H) : Type 0 where
  pub scripts : HasScripts x arrival w
  pub own : HasRoom w.script (length x.script.events + length arrival)
  pub stands : Stands shown x w.board (start_of x)
  pub front : w.front ≡ nothing_heard
  pub none : w.leader.led.count ≡ 0

-- The run of any arrival time from `time` on may go on from here: no event of the arrival has come yet. The
-- board's script, which becomes the next spare one, has room.
pub record IsBefore {X : Type 0} {H : X → Type 0} (shown : Shows X H) (x : Scenario) (arrival : List Listed) (w : Sweeper X H) (time limit : ℕ) : Type 0 where
  pub scripts : HasScripts x arrival w
  pub own : HasRoom (script_of w.board) (length x.script.events + length arrival)
  pub turn : ℕ
  pub early : turn ≤ time
  pub few : turn ≤ limit
  pub come : HasComeTo shown x (laid x.script arrival turn) w turn

-- the same, and what is kept of an earlier run that leads is right
pub record IsSweeping {X : Type 0} {H : X → Type 0} (shown : Shows X H) (x : Scenario) (arrival : List Listed) (w : Sweeper X H) (time limit : ℕ) (mem : Bool) : Type 0 where
  pub before : IsBefore shown x arrival w time limit
  pub leads : IsLeading x limit mem w.leader

-- The scripts have the same events in each turn, last in the same turns and list equally many events. Nothing
-- more is known of the room of a script with which a board has run.
pub record IsAsGood (other script : ScriptData) : Type 0 where
  pub events : (turn : ℕ) → events_of other turn ≡ events_of script turn
  pub last : (turn : ℕ) → lasts other turn ≡ lasts script turn
  pub count : length other.events ≡ length script.events

-- the run with a script goes on from here: the board's script is equivalent to it
pub record IsAt {X : Type 0} {H : X → Type 0} (shown : Shows X H) (x : Scenario) (arrival : List Listed) (script : ScriptData) (w : Sweeper X H) (m : ℕ) : Type 0 where
  pub scripts : HasScripts x arrival w
  pub good : IsAsGood (own_script w) script
  pub come : HasComeTo shown x script w m

-- Where a run leaves the run without an arrival: which arrival, which script, and before which turn.
pub record Fork : Type 0 where
  pub arrival : List Listed
  pub script : ScriptData
  pub turn : ℕ

-- the run of a fork goes on from here, up to turn `limit`, and its arrival has ended by turn `over`
pub record IsAtFork {X : Type 0} {H : X → Type 0} (shown : Shows X H) (x : Scenario) (f : Fork) (w : Sweeper X H) (over limit : ℕ) : Type 0 where
  pub at : IsAt shown x f.arrival f.script w f.turn
  pub few : f.turn ≤ limit
  pub goes : GoesOnAs x f.script over

-- the run without the arrival was made, and the board is at the start again
pub record HasTold {X : Type 0} {H : X → Type 0} (shown : Shows X H) (x : Scenario) (arrival : List Listed) (w : Sweeper X H) : Type 0 where
  pub scripts : HasScripts x arrival w
  pub room : HasRoom w.script (length x.script.events + length arrival)
  pub own : own_script w ≡ x.script
  pub come : HasComeTo shown x x.script w 0

-- the run with a script, from the start
abbrev pub run_of : Scenario → ScriptData → ℕ → Run
run_of x script limit = run Calls (with_script x script) limit (start_of x)

-- One arrival time was run. This is its outcome, and the comparison now includes it.
pub record IsLooked (x : Scenario) (a : Asking) (time : ℕ) (base : Told) (old new : Compared) (o : ArrayString) : Type 0 where
  pub words : o.bytes ≡ outcome_at x a time
  pub compared : IsTold a.mem (base_run x a) base → compared_of new ≡ with_time x a (compared_of old) time

-- the arrival times that are asked for can be run and compared with the run without the arrival
pub record IsBased {X : Type 0} {H : X → Type 0} (shown : Shows X H) (x : Scenario) (a : Asking) (w : Sweeper X H) (base : Told) : Type 0 where
  pub before : IsSweeping shown x a.arrival w a.from a.limit a.mem
  pub told : IsTold a.mem (base_run x a) base

-- the lines of the arrival times that are asked for were pushed, or a front of them if a push failed
abbrev pub PushesTimes : {T E : Type 0} → Scenario → Asking → SinkSeen → SinkSeen → Result T E → Type 0
PushesTimes x a w w' result = Pushes w.written w'.written (times_text x a) result
