-- What comes from outside within a turn: ticks of the clock, interrupts and bytes for devices. (Hubris Reference:
-- timers, interrupts; this project's profile says that a timer is due at its deadline, and that an interrupt on a
-- disabled line is held once.)
use Rattle.std.specs.Prelude.{ℕ, List, length, Option, None, Some, true, false, ◌==◌, ◌&&◌, nat_le, if◌then◌else◌, find, fold}
use Rattle.std.specs.List.{range_with_len}
use Rattle.kernel_abi.specs.declared.Handled.TheVariants.{Posted, Held, Unowned}
use Rattle.kernel_abi.specs.declared.Note.TheVariants as note
use Rattle.kernel_abi.specs.declared.Timer.{Timer}
use Rattle.kernel_abi.specs.Devices.{DeviceData, devices_fed, feed_answer}
use Rattle.task_table.specs.model.State.{Setup, LineSetup, Turn}
use Rattle.task_table.specs.model.Asking.{asks_at}
use Rattle.task_table.specs.model.Reading.{task_at, line_at, line_off}
use Rattle.task_table.specs.model.Effects.{◌⨾◌, noted, posted, with_timer, clocked, with_line, with_devices}

-- ## a tick

-- a timer that is due is turned off, and its bits are posted to its task
abbrev pub expired_by : ℕ → Option Timer → Turn → Turn
expired_by i None t = t
expired_by i (Some x) t =
    if nat_le x.deadline t.state.now then (t ⨾ with_timer i None ⨾ posted i x.bits) else t

abbrev pub expired : Turn → ℕ → Turn
expired t i = t ⨾ expired_by i (task_at t.state i).timer

-- the time advances by one tick; then each task whose timer is due gets its bits posted, in order
unfoldable pub ticked : Turn → Turn
ticked t = fold expired (clocked t) (range_with_len 0 (length t.state.tasks))

-- ## a byte for a device

-- the byte is put into the queue of the device, if there is such a device, it is a port and its queue has room
unfoldable pub fed : ℕ → ℕ → Turn → Turn
fed device byte t =
    t ⨾ with_devices (devices_fed t.state.devices device byte) ⨾ noted (note.In device byte (feed_answer t.state.devices device))

-- ## an interrupt

-- the owner of a line
unfoldable pub owner_of : Setup → ℕ → Option LineSetup
owner_of g k = find (λ o. o.line == k) g.lines

-- an enabled line posts its bits and is disabled; a disabled line becomes pending, once; a line without an owner
-- does nothing
abbrev pub interrupted_by : ℕ → Option LineSetup → Turn → Turn
interrupted_by k None t = t ⨾ noted (note.Irq k Unowned)
interrupted_by k (Some o) t =
    if (line_at t.state k).enabled
    then (t ⨾ noted (note.Irq k Posted) ⨾ with_line k (line_off false) ⨾ posted o.owner o.bits)
    else (t ⨾ noted (note.Irq k Held) ⨾ with_line k (line_off true))

unfoldable pub interrupted : Setup → ℕ → Turn → Turn
interrupted g k t = t ⨾ interrupted_by k (owner_of g k)

-- ## the lines that devices drive

-- an enabled line whose device, one of these, asks: an interrupt comes on it
abbrev pub driven_by : List DeviceData → Turn → LineSetup → Turn
driven_by ds t o = if (line_at t.state o.line).enabled && asks_at ds o.device then (t ⨾ interrupted_by o.line (Some o)) else t

-- each line, in the image's order
unfoldable pub driven : Setup → Turn → Turn
driven g t = fold (driven_by t.state.devices) t g.lines
