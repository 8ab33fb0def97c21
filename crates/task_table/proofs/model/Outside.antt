-- Events from outside do not touch calls or memory: a tick and an interrupt write nothing, and touch no call.
use Rattle.std.proofs.Common.{◌≡◌, ◌+◌, ℕ, Bool, true, false, cond, ◌&&◌, List, length, Option, Some, None, refl, ◌∙◌, leb}
use Rattle.std.specs.List.{range_with_len}
use Rattle.kernel_abi.specs.declared.Handled.TheVariants.{Posted, Held, Unowned}
use Rattle.kernel_abi.specs.declared.Note.TheVariants as note
use Rattle.kernel_abi.specs.declared.Timer.{Timer}
use Rattle.kernel_abi.specs.Devices.{DeviceData}
use Rattle.task_table.specs.model.State.{Setup, LineSetup, Turn}
use Rattle.task_table.specs.model.Asking.{asks_at}
use Rattle.task_table.specs.model.Reading.{task_at, line_at, line_off}
use Rattle.task_table.specs.model.Effects.{noted, posted, with_timer, clocked, with_line, with_devices}
use Rattle.task_table.specs.model.Events.{expired_by, expired, ticked, owner_of, interrupted_by, interrupted, fed, driven_by, driven}
use Rattle.task_table.proofs.model.Moves.{IsOutside, outside_then, outside-clocked, IsAside, aside_here, aside_then, aside-noted, aside-posted, aside-timer, aside-line, aside-fold, outside-devices}

aside-expired : (i : ℕ) (t : Turn) → IsAside t (expired t i)
aside-expired i t = by_timer (task_at t.state i).timer
  where
    by_timer : (o : Option Timer) → IsAside t (expired_by i o t)
    by_timer None = aside_here t
    by_timer (Some x) = by_due (leb x.deadline t.state.now)
      where
        off : Turn
        off = with_timer i None t

        by_due : (b : Bool) → IsAside t (cond b (posted i x.bits off) t)
        by_due true = aside_then t off (posted i x.bits off) (aside-timer i None t) (aside-posted i x.bits off)
        by_due false = aside_here t

all_expired : (t : Turn) → IsAside (clocked t) (ticked t)
unfolding ticked
all_expired t = aside-fold expired (range_with_len 0 (length t.state.tasks)) (clocked t) (λ i v. aside-expired i v)

pub outside-ticked : (t : Turn) → IsOutside t (ticked t)
outside-ticked t = outside_then t (clocked t) _ (outside-clocked t) (all_expired t).outside

now-clocked : (t : Turn) → (clocked t).state.now ≡ t.state.now + 1
unfolding clocked noted
now-clocked t = refl

-- the time advances by one
pub now-ticked : (t : Turn) → (ticked t).state.now ≡ t.state.now + 1
now-ticked t = (all_expired t).now ∙ now-clocked t

devices-clocked : (t : Turn) → (clocked t).state.devices ≡ t.state.devices
unfolding clocked noted
devices-clocked t = refl

pub devices-ticked : (t : Turn) → (ticked t).state.devices ≡ t.state.devices
devices-ticked t = (all_expired t).devices ∙ devices-clocked t

-- a byte for a device
pub outside-fed : (device byte : ℕ) (t : Turn) → IsOutside t (fed device byte t)
unfolding fed
outside-fed device byte t = outside_then t _ _ (outside-devices _ t) (aside-noted _ _ refl).outside

pub now-fed : (device byte : ℕ) (t : Turn) → (fed device byte t).state.now ≡ t.state.now
unfolding fed noted with_devices
now-fed device byte t = refl

aside-interrupted_by : (k : ℕ) (o : Option LineSetup) (t : Turn) → IsAside t (interrupted_by k o t)
aside-interrupted_by k None t = aside-noted (note.Irq k Unowned) t refl
aside-interrupted_by k (Some o) t = by_line (line_at t.state k).enabled
  where
    as_noted : Turn
    as_noted = noted (note.Irq k Posted) t

    off : Turn
    off = with_line k (line_off false) as_noted

    held : Turn
    held = noted (note.Irq k Held) t

    by_line : (b : Bool) → IsAside t (cond b (posted o.owner o.bits off) (with_line k (line_off true) held))
    by_line true = aside_then t off (posted o.owner o.bits off) (aside_then t as_noted off (aside-noted (note.Irq k Posted) t refl) (aside-line k (line_off false) as_noted)) (aside-posted o.owner o.bits off)
    by_line false = aside_then t held (with_line k (line_off true) held) (aside-noted (note.Irq k Held) t refl) (aside-line k (line_off true) held)

pub aside-interrupted : (g : Setup) (k : ℕ) (t : Turn) → IsAside t (interrupted g k t)
unfolding interrupted
aside-interrupted g k t = aside-interrupted_by k (owner_of g k) t

aside-driven_by : (ds : List DeviceData) (o : LineSetup) (t : Turn) → IsAside t (driven_by ds t o)
aside-driven_by ds o t = by_test ((line_at t.state o.line).enabled && asks_at ds o.device)
  where
    by_test : (b : Bool) → IsAside t (cond b (interrupted_by o.line (Some o) t) t)
    by_test true = aside-interrupted_by o.line (Some o) t
    by_test false = aside_here t

-- nor do the lines that devices drive
pub aside-driven : (g : Setup) (t : Turn) → IsAside t (driven g t)
unfolding driven
aside-driven g t = aside-fold (driven_by t.state.devices) g.lines t (λ o u. aside-driven_by t.state.devices o u)
