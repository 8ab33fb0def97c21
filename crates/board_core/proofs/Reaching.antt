-- What a load, a store and a byte from outside leave of the kernel and the devices.
use Rattle.std.proofs.Common.{◌≡◌, ◌%◌, ◌<◌, ℕ, Bool, true, false, cond, List, [], Option, Some, None, refl, sym, ◌∙◌, ap, subst, arith}
use Rattle.kernel_abi.specs.declared.Given.{Given}
use Rattle.kernel_abi.specs.declared.Note.{Note}
use Rattle.kernel_abi.specs.declared.Note.TheVariants as note
use Rattle.kernel_abi.specs.declared.Fed.{Fed}
use Rattle.kernel_abi.specs.Devices.{DeviceData, device_number, devices_stored, devices_loaded, device_out, devices_fed, feed_answer}
use Rattle.thumb_exec.specs.Bytes.{bytes_of}
use Rattle.mem_banks.specs.Memory.{Memory, number_at, is_ram}
use Rattle.task_table.specs.declared.kernel.Kernel.{Kernel}
use Rattle.task_table.specs.model.State.{Setup, Own, Turn}
use Rattle.task_table.specs.model.Reading.{task_at, call_of, listen_of}
use Rattle.task_table.specs.model.Effects.{noted, stored, with_devices, given_out, device_stored, device_taken}
use Rattle.task_table.specs.model.Events.{fed}
use Rattle.task_table.specs.model.Sane.{Sane}
use Rattle.task_table.specs.kept.Holds.{Holds, Stands, Kept, Shows as ShowsTurn, kept_of, memory_of}
use Rattle.task_table.proofs.kept.Steps.{kept_same}
use Rattle.task_table.proofs.model.Equipped.{sane-fed}
use Rattle.board_model.specs.Turn.{put, took, is_device, or_zero}
use Rattle.board_core.specs.declared.space.AddressSpace.{AddressSpace}
use Rattle.board_core.specs.Data.{Shows, data_of}
use Rattle.board_core.specs.Machine.{SpaceHolds, IsStored, IsGiven, IsTaken, shown_in}

-- ## what bytes hold

pub device_shown : (k : Kernel) (ds : List DeviceData) (a n : ℕ) → is_device a ≡ true → or_zero (device_number ds a n) ≡ shown_in k ds a n
device_shown k ds a n e = subst (λ (b : Bool). or_zero (device_number ds a n) ≡ cond b (or_zero (device_number ds a n)) (number_at (memory_of k) a n)) (sym e) refl

pub memory_shown : (k : Kernel) (ds : List DeviceData) (a n : ℕ) → is_device a ≡ false → number_at (memory_of k) a n ≡ shown_in k ds a n
memory_shown k ds a n e = subst (λ (b : Bool). number_at (memory_of k) a n ≡ cond b (or_zero (device_number ds a n)) (number_at (memory_of k) a n)) (sym e) refl

-- ## the kernel keeps no device

pub holds_devices : (g : Setup) (k : Kept) (t : Turn) (ds : List DeviceData) → ShowsTurn g k t → ShowsTurn g k (with_devices ds t)
unfolding with_devices task_at call_of listen_of
holds_devices g k t ds h = record {
  setup = h.setup;
  count = h.count;
  many = h.many;
  notes = h.notes;
  memory = h.memory;
  now = h.now;
  lines = h.lines;
  current = h.current;
  next_call = h.next_call;
  tasks = λ j below d. kept_same t.state _ j _ refl refl refl (h.tasks j below d);
}

-- a note changes none
pub noted_devices : (n : Note) (t : Turn) → t.state.devices ≡ (noted n t).state.devices
unfolding noted
noted_devices n t = refl

pub both_noted : (n m : Note) (t : Turn) → t.state.devices ≡ (noted n (noted m t)).state.devices
both_noted n m t = noted_devices m t ∙ noted_devices n (noted m t)

-- a byte of 8 bits that came from outside: the device has it, and it is noted
fed_noted : (device byte : ℕ) (answer : Option Fed) (t : Turn) → byte < 256 → answer ≡ feed_answer t.state.devices device →
    noted (note.In device byte answer) (with_devices (devices_fed t.state.devices device byte) t) ≡ fed device (byte % 256) t
unfolding fed
fed_noted device byte answer t small told =
    let same : byte ≡ byte % 256 = omega (arith, small) in
    ap (λ (o : Option Fed). noted (note.In device byte o) (with_devices (devices_fed t.state.devices device byte) t)) told
    ∙ ap (λ (b : ℕ). noted (note.In device b (feed_answer t.state.devices device)) (with_devices (devices_fed t.state.devices device b) t)) same

devices-fed : (device byte : ℕ) (t : Turn) → (fed device byte t).state.devices ≡ devices_fed t.state.devices device byte
unfolding fed noted with_devices
devices-fed device byte t = refl

-- so the kernel, which keeps none, and the devices stand for the turn with it
pub record AreFed (g : Setup) (k : Kernel) (ds : List DeviceData) (t : Turn) : Type 0 where
  pub stands : Stands g k t
  pub devices : ds ≡ t.state.devices

pub are_fed : (g : Setup) (k k' : Kernel) (ds ds' : List DeviceData) (t : Turn) (place device byte : ℕ) (answer : Option Fed) → Holds g k t → ds ≡ t.state.devices → Sane g t.state → place ≡ device → byte < 256 →
    ds' ≡ devices_fed ds place byte → answer ≡ feed_answer ds place → ((u : Turn) → Holds g k u → Holds g k' (noted (note.In device byte answer) u)) → AreFed g k' ds' (fed device (byte % 256) t)
are_fed g k k' ds ds' t place device byte answer h same sane at small after told holds =
    let here : answer ≡ feed_answer t.state.devices device = told ∙ ap (feed_answer ds) at ∙ ap (λ (xs : List DeviceData). feed_answer xs device) same in
    let low : byte ≡ byte % 256 = omega (arith, small) in
    record {
      stands = record {
        holds = subst (Holds g k') (fed_noted device byte answer t small here) (holds _ (holds_devices g (kept_of k) t (devices_fed t.state.devices device byte) h));
        sane = sane-fed device (byte % 256) t (omega arith) sane;
      };
      devices = after ∙ ap (λ (i : ℕ). devices_fed ds i byte) at ∙ ap (λ (xs : List DeviceData). devices_fed xs device byte) same ∙ ap (devices_fed t.state.devices device) low ∙ sym (devices-fed device (byte % 256) t);
    }

-- ## what the machine reaches

put_ram : (t : Turn) (a n v : ℕ) → is_ram t.state.memory a n ≡ true → put t record { addr = a; bytes = n; value = v } ≡ stored Own a (bytes_of v n) t
put_ram t a n v e = rw e refl

put_device : (t : Turn) (a n v : ℕ) → is_ram t.state.memory a n ≡ false → is_device a ≡ true → put t record { addr = a; bytes = n; value = v } ≡ device_stored a v t
put_device t a n v e d = rw (e, d) refl

put_none : (t : Turn) (a n v : ℕ) → is_ram t.state.memory a n ≡ false → is_device a ≡ false → put t record { addr = a; bytes = n; value = v } ≡ t
put_none t a n v e d = rw (e, d) refl

took_device : (t : Turn) (a : ℕ) → is_device a ≡ true → took t a ≡ device_taken a t
took_device t a d = rw d refl

pub took_none : (t : Turn) (a : ℕ) → is_device a ≡ false → took t a ≡ t
took_none t a d = rw d refl

-- a load changes a list of no devices no way
taken_nothing : (t : Turn) (a : ℕ) → [] ≡ t.state.devices → device_taken a t ≡ t
unfolding device_taken with_devices
taken_nothing t a e =
    ap (λ (ds : List DeviceData). with_devices (devices_loaded ds a) t) (sym e)
    ∙ ap (λ (ds : List DeviceData). record t { state = record t.state { devices = ds } }) e

module _ {X : Type 0} {H : X → Type 0} (shown : Shows X H) (r r' : AddressSpace X H) where
  holds_as : (g : Setup) (u v : Turn) → v ≡ u → SpaceHolds shown g r' u → SpaceHolds shown g r' v
  holds_as g u v e h = subst (λ (t : Turn). SpaceHolds shown g r' t) (sym e) h

  ram_at : (g : Setup) (t : Turn) (a n : ℕ) (b : Bool) → SpaceHolds shown g r t → is_ram (memory_of r.kernel) a n ≡ b → is_ram t.state.memory a n ≡ b
  ram_at g t a n b h e = ap (λ (m : Memory). is_ram m a n) (sym h.kernel.memory) ∙ e

  -- a store in the RAM
  pub stored_ram : (g : Setup) (t : Turn) (a n v : ℕ) → is_ram (memory_of r.kernel) a n ≡ true → r'.devices ≡ r.devices → SpaceHolds shown g r t → Holds g r'.kernel (stored Own a (bytes_of v n) t) → SpaceHolds shown g r' (put t record { addr = a; bytes = n; value = v })
  unfolding stored
  stored_ram g t a n v ram same h kernel =
      holds_as g (stored Own a (bytes_of v n) t) _ (put_ram t a n v (ram_at g t a n true h ram)) record { kernel = kernel; devices = ap (data_of shown) same ∙ h.devices }

  -- to a device
  pub stored_device : (a n v : ℕ) → is_ram (memory_of r.kernel) a n ≡ false → is_device a ≡ true → IsGiven shown r a v r' → IsStored shown r a n v r'
  stored_device a n v ram device given = record {
    holds = λ g t room h. holds_as g (device_stored a v t) _ (put_device t a n v (ram_at g t a n false h ram) device) (given.holds g t room h);
    setup = given.setup;
    current = given.current;
    tasks = given.tasks;
    notes = given.notes;
  }

  -- what the devices are after a store
  given_devices : (g : Setup) (t : Turn) (a : ℕ) → SpaceHolds shown g r t → data_of shown r'.devices ≡ devices_stored (data_of shown r.devices) a → (o : Option Given) → data_of shown r'.devices ≡ (given_out o (with_devices (devices_stored t.state.devices a) t)).state.devices
  unfolding noted with_devices
  given_devices g t a h e None = e ∙ ap (λ (ds : List DeviceData). devices_stored ds a) h.devices
  given_devices g t a h e (Some x) = e ∙ ap (λ (ds : List DeviceData). devices_stored ds a) h.devices

  -- a device that was stored to, and gave this out
  pub given : (g : Setup) (t : Turn) (a v : ℕ) (o : Option Given) → SpaceHolds shown g r t → data_of shown r'.devices ≡ devices_stored (data_of shown r.devices) a → o ≡ device_out (data_of shown r.devices) a v →
      ((u : Turn) → Holds g r.kernel u → Holds g r'.kernel (given_out o u)) → SpaceHolds shown g r' (device_stored a v t)
  unfolding device_stored
  given g t a v o h e out kernel =
      let same : o ≡ device_out t.state.devices a v = out ∙ ap (λ (ds : List DeviceData). device_out ds a v) h.devices in
      let u : Turn = with_devices (devices_stored t.state.devices a) t in
      subst (λ (x : Option Given). SpaceHolds shown g r' (given_out x u)) same
      record { kernel = kernel u (holds_devices g (kept_of r.kernel) t (devices_stored t.state.devices a) h.kernel); devices = given_devices g t a h e o }

  -- a load from a device
  pub taken_device : (a : ℕ) → is_device a ≡ true → r'.kernel ≡ r.kernel → data_of shown r'.devices ≡ devices_loaded (data_of shown r.devices) a → IsTaken shown r a r'
  unfolding device_taken with_devices
  taken_device a device same e = record {
    holds = λ g t h. holds_as g (device_taken a t) _ (took_device t a device) record {
      kernel = subst (λ (k : Kernel). Holds g k (device_taken a t)) (sym same) (holds_devices g (kept_of r.kernel) t (devices_loaded t.state.devices a) h.kernel);
      devices = e ∙ ap (λ (ds : List DeviceData). devices_loaded ds a) h.devices;
    };
    kernel = same;
  }

module _ {X : Type 0} {H : X → Type 0} (shown : Shows X H) (r : AddressSpace X H) where
  -- elsewhere a store and a load change nothing
  pub stored_nowhere : (g : Setup) (t : Turn) (a n v : ℕ) → is_ram (memory_of r.kernel) a n ≡ false → is_device a ≡ false → SpaceHolds shown g r t → SpaceHolds shown g r (put t record { addr = a; bytes = n; value = v })
  stored_nowhere g t a n v ram device h =
      let e : is_ram t.state.memory a n ≡ false = ap (λ (m : Memory). is_ram m a n) (sym h.kernel.memory) ∙ ram in
      subst (λ (u : Turn). SpaceHolds shown g r u) (sym (put_none t a n v e device)) h

  pub taken_nowhere : (a : ℕ) → is_device a ≡ false → IsTaken shown r a r
  taken_nowhere a device = record { holds = λ g t h. subst (λ (u : Turn). SpaceHolds shown g r u) (sym (took_none t a device)) h; kernel = refl }

  -- nor does any load where there is no device
  pub nothing_taken : (a : ℕ) → data_of shown r.devices ≡ [] → IsTaken shown r a r
  nothing_taken a none = record {
    holds = λ g t h. subst (λ (u : Turn). SpaceHolds shown g r u) (sym (unmoved t (is_device a) (sym none ∙ h.devices))) h;
    kernel = refl;
  }
    where
      unmoved : (t : Turn) (b : Bool) → [] ≡ t.state.devices → cond b (device_taken a t) t ≡ t
      unmoved t true e = taken_nothing t a e
      unmoved t false e = refl
