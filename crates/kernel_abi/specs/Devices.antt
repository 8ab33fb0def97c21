-- What a device is, what it shows, and how loads, stores and bytes from outside change it. All numbers are
-- natural numbers. A queue has its oldest byte first.
use Rattle.std.specs.Prelude.{◌≡◌, ◌≢◌, ℕ, ◌+◌, ◌-◌, ◌*◌, ◌%◌, ◌^◌, ◌<◌, ◌≤◌, ◌&&◌, nat_eq, nat_lt, nat_le, Bool, if◌then◌else◌, List, [], ◌∷◌, ◌++◌, length, drop, get_or, set, position, Contains, Option, Some, None, option_map}
use Rattle.kernel_abi.specs.declared.Kind.{Kind}
use Rattle.kernel_abi.specs.declared.Kind.TheVariants as kind
use Rattle.kernel_abi.specs.declared.Given.{Given}
use Rattle.kernel_abi.specs.declared.Fed.{Fed}
use Rattle.kernel_abi.specs.declared.Fed.TheVariants as fed

-- a kind, the first of its 256 addresses, how many bytes were stored to it modulo 2^32, and the bytes that wait
pub record DeviceData : Type 0 where
  pub kind : Kind
  pub base : ℕ
  pub count : ℕ
  pub queue : List ℕ

-- the largest number of bytes that can wait
abbrev pub queue_limit : ℕ
queue_limit = 64

-- the number of addresses of a device
abbrev pub device_width : ℕ
device_width = 256

abbrev pub first_queued : List ℕ → ℕ
first_queued [] = 0
first_queued (byte ∷ bytes) = byte

-- What a device of a kind shows at an offset. A port shows its first byte at 0 and how many bytes wait at 4.
-- A console shows at 4 how many bytes were stored.
abbrev pub look_at : Kind → ℕ → List ℕ → ℕ → ℕ
look_at kind.Console count queue off = if nat_eq off 4 then count else 0
look_at kind.Port count queue off = if nat_eq off 0 then first_queued queue else if nat_eq off 4 then length queue else 0

abbrev pub looked : DeviceData → ℕ → ℕ
looked d off = look_at d.kind d.count d.queue off

-- the queue after a load at an offset: a load at 0 removes the first byte of a port
abbrev pub queue_after_load : Kind → List ℕ → ℕ → List ℕ
queue_after_load kind.Console queue off = queue
queue_after_load kind.Port queue off = if nat_eq off 0 then drop 1 queue else queue

abbrev pub after_load : DeviceData → ℕ → DeviceData
after_load d off = record d { queue = queue_after_load d.kind d.queue off }

-- After a store of a value at an offset: at 0 a console counts the store, and gives out the low byte of the
-- value.
abbrev pub count_after_store : Kind → ℕ → ℕ → ℕ
count_after_store kind.Console count off = if nat_eq off 0 then (count + 1) % 2 ^ 32 else count
count_after_store kind.Port count off = count

abbrev pub after_store : DeviceData → ℕ → DeviceData
after_store d off = record d { count = count_after_store d.kind d.count off }

abbrev pub given_out : Kind → ℕ → ℕ → Option ℕ
given_out kind.Console off value = if nat_eq off 0 then Some (value % 256) else None
given_out kind.Port off value = None

-- after a byte came from outside, and what is told about that byte
abbrev pub queue_after_input : Kind → List ℕ → ℕ → List ℕ
queue_after_input kind.Console queue byte = queue
queue_after_input kind.Port queue byte = if nat_lt (length queue) queue_limit then queue ++ byte ∷ [] else queue

abbrev pub after_input : DeviceData → ℕ → DeviceData
after_input d byte = record d { queue = queue_after_input d.kind d.queue byte }

abbrev pub fed_by : Kind → List ℕ → Fed
fed_by kind.Console queue = fed.NotPort
fed_by kind.Port queue = if nat_lt (length queue) queue_limit then fed.Queued else fed.Full

-- the counts and queues to which a device of a kind may be set
abbrev pub IsSettable : Kind → ℕ → List ℕ → Type 0
IsSettable kind.Console count queue = queue ≡ []
IsSettable kind.Port count queue = (count ≡ 0) × (length queue ≤ queue_limit)

-- ## A list of devices

-- whether an address is one of the device's
abbrev pub is_behind : ℕ → DeviceData → Bool
is_behind addr d = nat_le d.base addr && nat_lt addr (d.base + device_width)

-- the index of the device behind an address
abbrev pub behind : ℕ → List DeviceData → Option ℕ
behind addr ds = position (is_behind addr) ds

-- the k-th device; past the last one any device would do
abbrev pub device_at : List DeviceData → ℕ → DeviceData
device_at ds k = get_or ds k record { kind = kind.Console; base = 0; count = 0; queue = [] }

-- the offset of an address from the first address of the k-th device
abbrev pub offset_in : List DeviceData → ℕ → ℕ → ℕ
offset_in ds k addr = addr - (device_at ds k).base

-- the devices with d as the k-th one
abbrev pub with_device : List DeviceData → ℕ → DeviceData → List DeviceData
with_device ds k d = set ds k d

-- what n bytes from an address on show, if a device is behind the address
abbrev pub device_number : List DeviceData → ℕ → ℕ → Option ℕ
device_number ds addr n = option_map (λ k. looked (device_at ds k) (offset_in ds k addr) % 2 ^ (8 * n)) (behind addr ds)

-- the devices after a load from an address
abbrev pub loaded_at : List DeviceData → Option ℕ → ℕ → List DeviceData
loaded_at ds None addr = ds
loaded_at ds (Some k) addr = with_device ds k (after_load (device_at ds k) (offset_in ds k addr))

abbrev pub devices_loaded : List DeviceData → ℕ → List DeviceData
devices_loaded ds addr = loaded_at ds (behind addr ds) addr

-- the devices after a store to an address
abbrev pub stored_at : List DeviceData → Option ℕ → ℕ → List DeviceData
stored_at ds None addr = ds
stored_at ds (Some k) addr = with_device ds k (after_store (device_at ds k) (offset_in ds k addr))

abbrev pub devices_stored : List DeviceData → ℕ → List DeviceData
devices_stored ds addr = stored_at ds (behind addr ds) addr

-- what a store makes a device give out: the device's index, and the byte
abbrev pub out_at : List DeviceData → Option ℕ → ℕ → ℕ → Option Given
out_at ds None addr value = None
out_at ds (Some k) addr value = option_map (λ byte. record { device = k; byte = byte }) (given_out (device_at ds k).kind (offset_in ds k addr) value)

abbrev pub device_out : List DeviceData → ℕ → ℕ → Option Given
device_out ds addr value = out_at ds (behind addr ds) addr value

-- after a byte came for the k-th device, and what is told about that byte
abbrev pub devices_fed : List DeviceData → ℕ → ℕ → List DeviceData
devices_fed ds k byte = if nat_lt k (length ds) then with_device ds k (after_input (device_at ds k) byte) else ds

abbrev pub feed_answer : List DeviceData → ℕ → Option Fed
feed_answer ds k = if nat_lt k (length ds) then Some (fed_by (device_at ds k).kind (device_at ds k).queue) else None

-- ## Devices that a board may be given

-- the addresses of devices, from the first one to the end
abbrev pub device_start : ℕ
device_start = 0x40000000

abbrev pub device_end : ℕ
device_end = 0x60000000

abbrev pub device_limit : ℕ
device_limit = 8

-- a first address that a device may have
pub record IsDevicePlace (base : ℕ) : Type 0 where
  pub whole : base % device_width ≡ 0
  pub low : device_start ≤ base
  pub high : base < device_end

-- a queue of bytes
abbrev pub AreBytes : List ℕ → Type 0
AreBytes queue = (byte : ℕ) → Contains queue byte → byte < 256

-- A sane device. Its queue has at most 64 bytes and its count fits a word. A console has no queue, and the
-- count of a port is 0.
pub record IsSaneDevice (d : DeviceData) : Type 0 where
  pub place : IsDevicePlace d.base
  pub settable : IsSettable d.kind d.count d.queue
  pub counted : d.count < 2 ^ 32
  pub bytes : AreBytes d.queue

-- at most eight sane devices, no two of them at one place
pub record AreSaneDevices (ds : List DeviceData) : Type 0 where
  pub few : length ds ≤ device_limit
  pub sane : (d : DeviceData) → Contains ds d → IsSaneDevice d
  pub apart : (j k : ℕ) → j < k → k < length ds → (device_at ds j).base ≢ (device_at ds k).base

-- a device whose count is 0 and whose queue is empty, as before anything comes to it
pub record IsFresh (d : DeviceData) : Type 0 where
  pub place : IsDevicePlace d.base
  pub none : d.count ≡ 0
  pub empty : d.queue ≡ []

-- at most eight devices, no two of them at one place, to which nothing has come yet
pub record AreFresh (ds : List DeviceData) : Type 0 where
  pub few : length ds ≤ device_limit
  pub fresh : (d : DeviceData) → Contains ds d → IsFresh d
  pub apart : (j k : ℕ) → j < k → k < length ds → (device_at ds j).base ≢ (device_at ds k).base
