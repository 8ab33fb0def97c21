-- What a window gives, the task's regions give too, and where it may be read it holds what memory holds.
use Rattle.std.proofs.Common.{◌≡◌, ◌+◌, ◌-◌, ◌≤◌, ◌<◌, ℕ, zero, suc, Bool, true, false, not, if◌then◌else◌, ◌&&◌, ◌||◌, List, length, take, drop, None, refl, sym, ◌∙◌, ap, arith, leb, inl, inr}
use Rattle.std.proofs.lemmas.Bool.{leb-true, and_parts}
use Rattle.region_check.specs.declared.Right.{Right}
use Rattle.region_check.specs.declared.Right.TheVariants.{Read, Write, Execute}
use Rattle.region_check.proofs.FirstBad.{find_range_none}
use Rattle.mem_banks.specs.Memory.{Memory, number_of, number_at, bytes_at, pasted}
use Rattle.mem_banks.specs.Windows.{IsInMemory, IsInRam}
use Rattle.thumb_exec.specs.Bytes.{bytes_of}
use Rattle.thumb_exec.specs.Fetch.{WidensFetch}
use Rattle.thumb_step.specs.Windows.{View, has, given, number_in, may_write, refused_by, held_by, write}
use Rattle.thumb_step.proofs.Gliding.{in_flash}
use Rattle.task_table.specs.model.Placed.{ArePlaced}
use Rattle.task_table.specs.model.State.{Setup, State}
use Rattle.board_model.specs.Turn.{may, refusals, is_device, held}
use Rattle.board_model.proofs.Held.{no_device_below, held_in_memory, held_nothing}
use Rattle.board_core.specs.fast.Windowed.{IsWindow}
use Rattle.mem_banks.proofs.Windows.{number_inside}
use Rattle.task_table.proofs.model.Waiting.{no_some}

pub all_there : (b : Bool) (a : ℕ) → given b a ≡ None → b ≡ true
all_there true a e = refl
all_there false a e = no_some e

-- ## the parts of a window in the RAM

-- the stack's, or an area
pub data Part : Type 0 where
  OfRam : Part
  OfArea : Part
  OfSecond : Part

abbrev pub base_in : View → Part → ℕ
base_in v OfRam = v.ram_base
base_in v OfArea = v.area_base
base_in v OfSecond = v.second_base

abbrev pub bytes_in : View → Part → List ℕ
bytes_in v OfRam = v.ram
bytes_in v OfArea = v.area
bytes_in v OfSecond = v.second

abbrev pub is_writable : View → Part → Bool
is_writable v OfRam = true
is_writable v OfArea = v.area_writable
is_writable v OfSecond = v.second_writable

abbrev pub with_part : View → Part → List ℕ → View
with_part v OfRam xs = record v { ram = xs }
with_part v OfArea xs = record v { area = xs }
with_part v OfSecond xs = record v { second = xs }

-- where a window has bytes that may be read, and what they hold
data ReadFrom (v : View) (a n : ℕ) : Type 0 where
  in_part : (p : Part) → has (base_in v p) (bytes_in v p) a n ≡ true → held_by v a n ≡ number_in (base_in v p) (bytes_in v p) a n → ReadFrom v a n
  in_text : has v.flash_base v.flash a n ≡ true → v.readable ≡ true → held_by v a n ≡ number_in v.flash_base v.flash a n → ReadFrom v a n

read_from : (v : View) (a n : ℕ) → refused_by v a n Read ≡ None → ReadFrom v a n
read_from v a n e = by (has v.ram_base v.ram a n) (has v.flash_base v.flash a n) (has v.area_base v.area a n) (has v.second_base v.second a n) refl refl refl refl (all_there _ a e)
  where
    by : (p q r s : Bool) → has v.ram_base v.ram a n ≡ p → has v.flash_base v.flash a n ≡ q → has v.area_base v.area a n ≡ r → has v.second_base v.second a n ≡ s → (p || (if q then v.readable else r || s)) ≡ true → ReadFrom v a n
    by true q r s x y z u h = in_part OfRam x (rw x refl)
    by false true r s x y z u h = in_text y h (rw (x, y) refl)
    by false false true s x y z u h = in_part OfArea z (rw (x, y, z) refl)
    by false false false s x y z u h = in_part OfSecond (u ∙ h) (rw (x, y, z) refl)

-- where it has bytes that may be written, and what it is once they are
pub record WrittenTo (v : View) (a n : ℕ) : Type 0 where
  pub part : Part
  pub there : has (base_in v part) (bytes_in v part) a n ≡ true
  pub may : is_writable v part ≡ true
  pub is : (value : ℕ) → write v record { addr = a; bytes = n; value = value } ≡ with_part v part (pasted (bytes_in v part) (a - base_in v part) (bytes_of value n))

pub written_to : (v : View) (a n : ℕ) → may_write v a n ≡ true → WrittenTo v a n
written_to v a n h = by (has v.ram_base v.ram a n) (has v.area_base v.area a n) (has v.second_base v.second a n) refl refl refl h
  where
    by : (p q r : Bool) → has v.ram_base v.ram a n ≡ p → has v.area_base v.area a n ≡ q → has v.second_base v.second a n ≡ r → (p || (if q then v.area_writable else r && v.second_writable)) ≡ true → WrittenTo v a n
    by true q r x y z h = record { part = OfRam; there = x; may = refl; is = λ value. rw x refl }
    by false true r x y z h = record { part = OfArea; there = y; may = h; is = λ value. rw (x, y) refl }
    by false false r x y z h = let two = and_parts r v.second_writable h in record { part = OfSecond; there = z ∙ two.0; may = two.1; is = λ value. rw (x, y) refl }

pub inside : (base : ℕ) (bytes : List ℕ) (a n : ℕ) → has base bytes a n ≡ true → (base ≤ a) × (a + n ≤ base + length bytes)
inside base bytes a n h =
    let two = and_parts (leb base a) (leb (a + n) (base + length bytes)) h in
    (leb-true base a two.0, leb-true (a + n) (base + length bytes) two.1)

module _ (g : Setup) (c : ℕ) (m : Memory) (v : View) (w : IsWindow g c m v) where
  part_read : (p : Part) (a : ℕ) → base_in v p ≤ a → a < base_in v p + length (bytes_in v p) → may g c Read a ≡ true
  part_read OfRam = w.read
  part_read OfArea = w.area_read
  part_read OfSecond = w.second_read

  part_written : (p : Part) → is_writable v p ≡ true → (a : ℕ) → base_in v p ≤ a → a < base_in v p + length (bytes_in v p) → may g c Write a ≡ true
  part_written OfRam may = w.written
  part_written OfArea may = w.area_written may
  part_written OfSecond may = w.second_written may

  pub part_inside : (p : Part) → IsInRam m (base_in v p, length (bytes_in v p))
  part_inside OfRam = w.in_ram
  part_inside OfArea = w.in_area
  part_inside OfSecond = w.in_second

  pub part_held : (p : Part) → bytes_at m (base_in v p) (length (bytes_in v p)) ≡ bytes_in v p
  part_held OfRam = w.ram
  part_held OfArea = w.area
  part_held OfSecond = w.second

  -- each byte of a range of the flash, or of the RAM
  each : (r : Right) (base : ℕ) (bytes : List ℕ) (a n : ℕ) → ((b : ℕ) → base ≤ b → b < base + length bytes → may g c r b ≡ true) → has base bytes a n ≡ true → refusals g c a n r ≡ None
  each r base bytes a n f h =
      let i = inside base bytes a n h in
      find_range_none (λ b. not (may g c r b)) a n (λ b from below. ap not (f b (omega (arith, i.0, from)) (omega (arith, i.1, below))))

  pub granted : (a n : ℕ) (r : Right) → refused_by v a n r ≡ None → refusals g c a n r ≡ None
  granted a n Execute e = each Execute v.flash_base v.flash a n w.executed (in_flash v a n (all_there _ a e))
  granted a n Write e = let t = written_to v a n (all_there _ a e) in each Write (base_in v t.part) (bytes_in v t.part) a n (part_written t.part t.may) t.there
  granted a n Read e = by (read_from v a n e)
    where
      by : ReadFrom v a n → refusals g c a n Read ≡ None
      by (in_part p h held) = each Read (base_in v p) (bytes_in v p) a n (part_read p) h
      by (in_text h legible held) = each Read v.flash_base v.flash a n (w.legible legible) h

  -- bytes of a region hold what memory holds
  number_here : (base : ℕ) (bytes : List ℕ) (a n : ℕ) → IsInMemory m (base, length bytes) → bytes_at m base (length bytes) ≡ bytes → has base bytes a n ≡ true → number_in base bytes a n ≡ number_at m a n
  number_here base bytes a n there is h =
      let i = inside base bytes a n h in
      ap (λ (xs : List ℕ). number_of (take n (drop (a - base) xs))) (sym is)
      ∙ number_inside m base (length bytes) a n there i.0 i.1

  part_here : (p : Part) (a n : ℕ) → has (base_in v p) (bytes_in v p) a n ≡ true → number_in (base_in v p) (bytes_in v p) a n ≡ number_at m a n
  part_here p a n = number_here (base_in v p) (bytes_in v p) a n (inl (part_inside p)) (part_held p)

  flash_here : (a n : ℕ) → has v.flash_base v.flash a n ≡ true → number_in v.flash_base v.flash a n ≡ number_at m a n
  flash_here a n = number_here v.flash_base v.flash a n (inr w.in_flash) w.flash

  same : (a n : ℕ) → refused_by v a n Read ≡ None → held_by v a n ≡ number_at m a n
  same a n e = by (read_from v a n e)
    where
      by : ReadFrom v a n → held_by v a n ≡ number_at m a n
      by (in_part p h held) = held ∙ part_here p a n h
      by (in_text h legible held) = held ∙ flash_here a n h

  flash_same : (a : ℕ) → refused_by v a 2 Execute ≡ None → held_by v a 2 ≡ number_at m a 2
  flash_same a e = by (has v.ram_base v.ram a 2) refl (in_flash v a 2 (all_there _ a e))
    where
      by : (b : Bool) → has v.ram_base v.ram a 2 ≡ b → has v.flash_base v.flash a 2 ≡ true → held_by v a 2 ≡ number_at m a 2
      by true h there = rw h (part_here OfRam a 2 h)
      by false h there = rw (h, there) (flash_here a 2 there)

-- ## no device lies in a window

no_bytes : (v : View) (a : ℕ) → held_by v a 0 ≡ 0
no_bytes v a = by (has v.ram_base v.ram a 0) (has v.flash_base v.flash a 0) (has v.area_base v.area a 0)
  where
    by : (p q r : Bool) → (if p then number_in v.ram_base v.ram a 0 else (if q then number_in v.flash_base v.flash a 0 else (if r then number_in v.area_base v.area a 0 else number_in v.second_base v.second a 0))) ≡ 0
    by true q r = refl
    by false true r = refl
    by false false true = refl
    by false false false = refl

module _ (g : Setup) (c : ℕ) (s : State) (v : View) (w : IsWindow g c s.memory v) (placed : ArePlaced g s.memory) where
  part_below : (p : Part) (a n : ℕ) → has (base_in v p) (bytes_in v p) a n ≡ true → a + n ≤ 0x40000000
  part_below p a n h = let i = inside (base_in v p) (bytes_in v p) a n h in let room = placed.below in let there = part_inside g c s.memory v w p in omega (arith, i.1, there.1, room)

  flash_below : (a n : ℕ) → has v.flash_base v.flash a n ≡ true → a + n ≤ 0x40000000
  flash_below a n h = let i = inside v.flash_base v.flash a n h in let there = w.in_flash in omega (arith, i.1, there.2)

  -- what may be read ends below the devices
  ends_below : (a n : ℕ) → refused_by v a n Read ≡ None → a + n ≤ 0x40000000
  ends_below a n e = by (read_from v a n e)
    where
      by : ReadFrom v a n → a + n ≤ 0x40000000
      by (in_part p h held) = part_below p a n h
      by (in_text h legible held) = flash_below a n h

  pub loads_below : (a n : ℕ) → 0 < n → refused_by v a n Read ≡ None → is_device a ≡ false
  loads_below a n some e = let end = ends_below a n e in no_device_below a (omega (arith, some, end))

  pub held_same : (a n : ℕ) → refused_by v a n Read ≡ None → held_by v a n ≡ held s a n
  held_same a zero e = no_bytes v a ∙ sym (held_nothing s a)
  held_same a (suc n) e = same g c s.memory v w a (suc n) e ∙ sym (held_in_memory s a (suc n) (loads_below a (suc n) (omega arith) e))

  pub fetched_same : (a : ℕ) → refused_by v a 2 Execute ≡ None → held_by v a 2 ≡ held s a 2
  fetched_same a e = let end = flash_below a 2 (in_flash v a 2 (all_there _ a e)) in flash_same g c s.memory v w a e ∙ sym (held_in_memory s a 2 (no_device_below a (omega (arith, end))))

  pub widens : WidensFetch (refused_by v) (refusals g c) (held_by v) (held s)
  widens = record { widens = record { granted = granted g c s.memory v w; same = held_same }; fetches = fetched_same }
