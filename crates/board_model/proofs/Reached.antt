-- A turn changes devices only where its task reaches them.
use Rattle.std.proofs.Common.{◌≡◌, ◌%◌, ℕ, List, [], ◌∷◌, Option, Some, None, refl, sym, ◌∙◌, ap, subst}
use Rattle.std.specs.Prelude.{fold}
use Rattle.kernel_abi.specs.Devices.{DeviceData}
use Rattle.kernel_abi.specs.declared.Note.TheVariants as note
use Rattle.run_script.specs.declared.events.Event.{Event}
use Rattle.run_script.specs.declared.events.Event.TheVariants.{Tick, Irq, Feed}
use Rattle.run_script.specs.Scripts.{events_of}
use Rattle.task_table.specs.model.State.{Setup, State, Turn}
use Rattle.task_table.specs.model.Reading.{chosen}
use Rattle.task_table.specs.model.Effects.{noted, with_devices}
use Rattle.task_table.specs.model.Events.{fed}
use Rattle.task_table.specs.model.Grounds.{AreReached}
use Rattle.task_table.specs.model.Start.{begun}
use Rattle.task_table.specs.model.Sane.{Sane}
use Rattle.task_table.proofs.model.Outside.{devices-ticked, aside-interrupted, aside-driven}
use Rattle.task_table.proofs.model.Reaching.{chain_reaches}
use Rattle.board_model.specs.declared.outcomes.Level.{Level}
use Rattle.board_model.specs.Script.{Scenario}
use Rattle.board_model.specs.Lifetimes.{devices_after}
use Rattle.board_model.specs.Turn.{happened, after_events, turn_of, ended, turn}
use Rattle.board_model.proofs.TurnChains.{sane-after_events, turn_chain, noted_state}

-- ## events

event_devices : (g : Setup) (t : Turn) (e : Event) → (happened g t e).state.devices ≡ devices_after t.state.devices e
unfolding fed with_devices noted
event_devices g t Tick = devices-ticked t
event_devices g t (Irq line) = (aside-interrupted g line t).devices
event_devices g t (Feed device byte) = (aside-driven g (fed device (byte % 256) t)).devices

events_devices : (g : Setup) (events : List Event) (t : Turn) → (fold (happened g) t events).state.devices ≡ fold devices_after t.state.devices events
events_devices g [] t = refl
events_devices g (e ∷ events) t = events_devices g events (happened g t e) ∙ ap (λ (ds : List DeviceData). fold devices_after ds events) (event_devices g t e)

pub fed_before : (x : Scenario) (s : State) → (after_events x s).state.devices ≡ fold devices_after s.devices (events_of x.script s.turn)
unfolding after_events begun
fed_before x s = events_devices x.setup (events_of x.script s.turn) (begun s)

-- ## the turn

pub reached_in : (level : Level) (x : Scenario) (s : State) (c : ℕ) → Sane x.setup s → chosen x.setup (after_events x s).state ≡ Some c → AreReached x.setup c (after_events x s).state.devices (turn level x s).state.devices
unfolding turn ended
reached_in level x s c h e =
    let t = after_events x s in
    let P : Option ℕ → Type 0 = λ o. AreReached x.setup c t.state.devices (ended (turn_of level x.setup o t)).state.devices in
    subst P (sym e) (chain_reaches x.setup _ c (sane-after_events x s h).steady.placed _ _ (turn_chain level x s c h e))

pub none_in : (level : Level) (x : Scenario) (s : State) → chosen x.setup (after_events x s).state ≡ None → (turn level x s).state.devices ≡ (after_events x s).state.devices
unfolding turn ended
none_in level x s e =
    let t = after_events x s in
    ap (λ (o : Option ℕ). (ended (turn_of level x.setup o t)).state.devices) e ∙ ap (λ (y : State). y.devices) (noted_state level note.Idle t)
