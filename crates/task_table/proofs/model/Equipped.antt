-- Changes of devices keep a state sane.
use Rattle.std.proofs.Common.{◌<◌, ℕ, List, inl, inr, sym, subst}
use Rattle.kernel_abi.specs.Devices.{DeviceData, AreSaneDevices}
use Rattle.kernel_abi.proofs.Devices.{sane_devices_loaded, sane_devices_stored, sane_devices_fed}
use Rattle.task_table.specs.model.State.{Setup, State, Turn}
use Rattle.task_table.specs.model.Reading.{task_at, line_at}
use Rattle.task_table.specs.model.Effects.{with_devices}
use Rattle.task_table.specs.model.Events.{fed}
use Rattle.task_table.specs.model.Grounds.{IsReached}
use Rattle.task_table.specs.model.Sane.{Sane, IsSaneBut}
use Rattle.task_table.proofs.model.Posting.{keeps-noted}

pub keeps-devices : {M F T : ℕ → Type 0} {W : ℕ → ℕ → Type 0} {g : Setup} {s : State} (devices : List DeviceData) → IsSaneBut M F T W g s → AreSaneDevices devices → IsSaneBut M F T W g record s { devices = devices }
unfolding task_at line_at
keeps-devices devices h good = record {
  steady = record { devices = good; calls = h.steady.calls; listens = h.steady.listens; tasks = h.steady.tasks; lines = h.steady.lines; as_many = h.steady.as_many; current = h.steady.current; flash = h.steady.flash; flash_bytes = h.steady.flash_bytes; bytes = h.steady.bytes; placed = h.steady.placed };
  well = record { client = h.well.client; listener = h.well.listener; alone = h.well.alone };
  present = record { client = h.present.client; server = h.present.server; named = h.present.named };
  unmet = h.unmet;
  unfit = h.unfit;
  ahead = h.ahead;
}

pub sane-devices : {g : Setup} (devices : List DeviceData) (t : Turn) → Sane g t.state → AreSaneDevices devices → Sane g (with_devices devices t).state
unfolding with_devices
sane-devices devices t h good = keeps-devices devices h good

pub sane-reached : {g : Setup} (c : ℕ) (devices : List DeviceData) (t : Turn) → Sane g t.state → IsReached g c t.state.devices devices → Sane g (with_devices devices t).state
sane-reached {g} c devices t h reached = sane-devices devices t h (by_access reached)
  where
    by_access : IsReached g c t.state.devices devices → AreSaneDevices devices
    by_access (inl (a, may, is)) = subst AreSaneDevices (sym is) (sane_devices_loaded t.state.devices a h.steady.devices)
    by_access (inr (a, may, is)) = subst AreSaneDevices (sym is) (sane_devices_stored t.state.devices a h.steady.devices)

-- a byte from outside
pub sane-fed : {g : Setup} (device byte : ℕ) (t : Turn) → byte < 256 → Sane g t.state → Sane g (fed device byte t).state
unfolding fed
sane-fed device byte t small h =
    keeps-noted _ _ (sane-devices _ t h (sane_devices_fed t.state.devices device byte small h.steady.devices))
