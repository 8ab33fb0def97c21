-- `Poller`, which makes instructions one after another for a task that may read devices, and what it leaves.
use Rattle.std.specs.Prelude.{ℕ, ◌≡◌, ◌≤◌, ◌<◌, Bool, true, false, List, if◌then◌else◌}
use Rattle.kernel_abi.specs.Devices.{devices_loaded}
use Rattle.thumb_insn.specs.declared.Decoded.{Decoded}
use Rattle.thumb_insn.specs.declared.Decoded.TheVariants.{Narrow, NeedsSecond, Illegal}
use Rattle.thumb_insn.specs.declared.Insn.{Insn}
use Rattle.thumb_exec.specs.declared.cpu.Outcome.TheVariants as outcome
use Rattle.thumb_exec.specs.Effect.{Effect, Acts, Halts, effect}
use Rattle.thumb_step.specs.Did.{IsStored as IsStoredIn}
use Rattle.thumb_step.specs.Windows.{IsApart, view_of}
use Rattle.board_model.specs.Turn.{is_device}
use Rattle.board_core.specs.Data.{Shows, data_of}
use Rattle.board_core.specs.fast.Gliding.{lent_view, TellsCall}
use Rattle.board_core.specs.fast.Sights.{Sight, Polls, IsAtLimit, refused_at, held_at}
use Rattle.board_core.specs.declared.fast_path.poller.Poller.{Poller}
use Rattle.board_core.specs.declared.fast_path.poller.Seen.{Seen}

-- what the task sees through it
abbrev pub sight_of : {X : Type 0} {H : X → Type 0} → Shows X H → Seen X H → Sight
sight_of shown p = record { view = view_of p.window; devices = data_of shown p.devices; io_regions = p.io_regions.items }

-- after a store in the window; nothing else changed
pub record IsPut {X : Type 0} {H : X → Type 0} (p : Seen X H) (a n v : ℕ) (q : Seen X H) : Type 0 where
  pub window : IsStoredIn p.window a n v q.window
  pub rest : q ≡ record p { window = q.window }

-- after an instruction has loaded from an address: a device there has given up what it gave; nothing else
-- changed
pub record IsTaken {X : Type 0} {H : X → Type 0} (shown : Shows X H) (p : Seen X H) (a : ℕ) (q : Seen X H) : Type 0 where
  pub devices : data_of shown q.devices ≡ (if is_device a then devices_loaded (data_of shown p.devices) a else data_of shown p.devices)
  pub rest : q ≡ record p { devices = q.devices }

-- the effect of an instruction, by what the poller holds
abbrev pub effect_on : {X : Type 0} {H : X → Type 0} → Shows X H → Poller X H → Insn → Effect
effect_on shown p i = effect (refused_at (sight_of shown p.seen)) (held_at (sight_of shown p.seen)) p.processor i

-- What the answer means. True: the instruction went on. False: it is a system call, faults, is illegal or is
-- the first halfword of two, and nothing changed.
abbrev pub Did : {X : Type 0} {H : X → Type 0} → Shows X H → Poller X H → Decoded → Bool → Poller X H → Type 0
Did shown a (Narrow i) true b = Acts IsPut (IsTaken shown) a.processor b.processor a.seen b.seen outcome.Next (effect_on shown a i)
Did shown a (Narrow i) false b = Halts (effect_on shown a i) × (b ≡ a)
Did shown a Illegal true b = ⊥
Did shown a Illegal false b = b ≡ a
Did shown a NeedsSecond true b = ⊥
Did shown a NeedsSecond false b = b ≡ a
Did shown a d r b = ⊥

-- what the task sees while the window has these bytes
abbrev pub lent_sight : {X : Type 0} {H : X → Type 0} → Shows X H → Poller X H → List ℕ → List ℕ → List ℕ → List ℕ → Sight
lent_sight shown p flash ram area second = record { view = lent_view p.seen.window flash ram area second; devices = data_of shown p.seen.devices; io_regions = p.seen.io_regions.items }

-- what the task sees afterwards
abbrev pub left_sight : {X : Type 0} {H : X → Type 0} → Shows X H → Poller X H → List ℕ → Poller X H → List ℕ → List ℕ → List ℕ → Sight
left_sight shown a flash b after area_after second_after = record { view = lent_view a.seen.window flash after area_after second_after; devices = data_of shown b.seen.devices; io_regions = a.seen.io_regions.items }

-- the poller made instructions one after another, over its window and the devices
pub record HasPolled {X : Type 0} {H : X → Type 0} (shown : Shows X H) (a : Poller X H) (flash ram area second : List ℕ) (b : Poller X H) (after area_after second_after : List ℕ) : Type 0 where
  pub polls : Polls (lent_sight shown a flash ram area second) a.processor b.made (left_sight shown a flash b after area_after second_after) b.processor
  pub within : b.made ≤ a.most
  -- it stopped earlier only where it had to
  pub far : IsApart (lent_view a.seen.window flash ram area second) → b.made < a.most → IsAtLimit (left_sight shown a flash b after area_after second_after) b.processor
  pub tells : TellsCall a.most b.made (lent_view a.seen.window flash ram area second) (lent_view a.seen.window flash after area_after second_after) b.processor b.at_syscall
  pub io_regions : b.seen.io_regions ≡ a.seen.io_regions
