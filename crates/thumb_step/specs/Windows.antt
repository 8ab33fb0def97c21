-- Instructions one after another, of a processor that may access four byte ranges and nothing else.
use Rattle.std.specs.Prelude.{◌≡◌, ◌≤◌, ℕ, zero, suc, ◌+◌, ◌-◌, ◌/◌, Bool, true, false, ◌&&◌, ◌||◌, if◌then◌else◌, nat_eq, nat_le, Ok, List, length, take, drop, fold, Option, Some, None, Contains}
use Rattle.mem_banks.specs.Memory.{number_of, pasted}
use Rattle.region_check.specs.declared.Right.TheVariants.{Read, Write, Execute}
use Rattle.thumb_exec.specs.declared.cpu.Cpu.{Cpu}
use Rattle.thumb_exec.specs.Bytes.{bytes_of}
use Rattle.thumb_exec.specs.Effect.{Next, Store, Move, Puts, Takes, Refusals, Contents}
use Rattle.thumb_exec.specs.Sizes.{IsSize}
use Rattle.thumb_exec.specs.Fetch.{fetched, step_effect}
use Rattle.thumb_insn.specs.declared.Insn.TheVariants.{Svc}
use Rattle.words_core.specs.Regs.{reg_at, program_counter}
use Rattle.thumb_step.specs.declared.window.Window.{Window}

-- The memory that a processor may access, each part from an address on: the flash, of which it may execute a
-- stretch and perhaps read all; the RAM, which it may read and write; and two areas, which it may read and perhaps
-- write.
pub record View : Type 0 where
  pub flash_base : ℕ
  pub flash : List ℕ
  pub readable : Bool
  pub code_base : ℕ
  pub code_size : ℕ
  pub ram_base : ℕ
  pub ram : List ℕ
  pub area_base : ℕ
  pub area : List ℕ
  pub area_writable : Bool
  pub second_base : ℕ
  pub second : List ℕ
  pub second_writable : Bool

-- ## The rights to bytes

-- whether all of n bytes from an address on are among these bytes, which begin at a base
abbrev pub has : ℕ → List ℕ → ℕ → ℕ → Bool
has base bytes a n = nat_le base a && nat_le (a + n) (base + length bytes)

-- whether the flash has all of n bytes, and all of them lie in the stretch that it may execute
abbrev pub has_code : View → ℕ → ℕ → Bool
has_code v a n = has v.flash_base v.flash a n && (nat_le v.code_base a && nat_le (a + n) (v.code_base + v.code_size))

-- the number of addresses in the stretch at which a halfword can begin
abbrev pub code_places : View → ℕ
code_places v = v.code_size - 1

-- what n bytes from an address on hold, of bytes that begin at a base
abbrev pub number_in : ℕ → List ℕ → ℕ → ℕ → ℕ
number_in base bytes a n = number_of (take n (drop (a - base) bytes))

-- no byte is refused, or the first one is
abbrev pub given : Bool → ℕ → Option ℕ
given true a = None
given false a = Some a

-- whether the first of the two areas that has all of n bytes may be written
abbrev pub may_write_area : View → ℕ → ℕ → Bool
may_write_area v a n = if has v.area_base v.area a n then v.area_writable else has v.second_base v.second a n && v.second_writable

-- whether bytes outside the RAM may be read
abbrev pub may_read_beyond : View → ℕ → ℕ → Bool
may_read_beyond v a n = if has v.flash_base v.flash a n then v.readable else has v.area_base v.area a n || has v.second_base v.second a n

-- The first of RAM, flash and areas that has all of n bytes decides whether they may be read, and what they hold.
abbrev pub may_read : View → ℕ → ℕ → Bool
may_read v a n = has v.ram_base v.ram a n || may_read_beyond v a n

abbrev pub may_write : View → ℕ → ℕ → Bool
may_write v a n = has v.ram_base v.ram a n || may_write_area v a n

-- what n bytes of the areas hold
abbrev pub held_in_area : View → ℕ → ℕ → ℕ
held_in_area v a n = if has v.area_base v.area a n then number_in v.area_base v.area a n else number_in v.second_base v.second a n

abbrev pub refused_by : View → Refusals
refused_by v a n Execute = given (has_code v a n) a
refused_by v a n Read = given (may_read v a n) a
refused_by v a n Write = given (may_write v a n) a

abbrev pub held_by : View → Contents
held_by v a n =
    if has v.ram_base v.ram a n then number_in v.ram_base v.ram a n
    else (if has v.flash_base v.flash a n then number_in v.flash_base v.flash a n else held_in_area v a n)

-- a halfword of the stretch, as the flash has it
pub record IsFetched (v : View) (a half : ℕ) : Type 0 where
  pub there : has_code v a 2 ≡ true
  pub is : half ≡ number_in v.flash_base v.flash a 2

-- ## Moves

-- the memory after a store in one of the areas
abbrev pub write_area : View → Store → View
write_area v x =
    if has v.area_base v.area x.addr x.bytes then record v { area = pasted v.area (x.addr - v.area_base) (bytes_of x.value x.bytes) }
    else record v { second = pasted v.second (x.addr - v.second_base) (bytes_of x.value x.bytes) }

-- the memory after a store in the RAM, or else in an area; a load takes nothing
abbrev pub write : View → Store → View
write v x =
    if has v.ram_base v.ram x.addr x.bytes then record v { ram = pasted v.ram (x.addr - v.ram_base) (bytes_of x.value x.bytes) }
    else write_area v x

abbrev pub put : View → Move → View
put v (Puts x) = write v x
put v (Takes a n) = v

-- each store is of 1, 2 or 4 bytes that the processor may write
abbrev pub IsInside : View → Move → Type 0
IsInside v (Puts x) = IsSize x.bytes × (may_write v x.addr x.bytes ≡ true)
IsInside v (Takes a n) = Unit {0}

abbrev pub AreInside : View → List Move → Type 0
AreInside v moves = (x : Move) → Contains moves x → IsInside v x

-- ## Instructions

-- the instruction at PC goes on, with its moves
pub record GoesOn (v : View) (c : Cpu) (v' : View) (c' : Cpu) : Type 0 where
  pub moves : List Move
  pub effect : step_effect (refused_by v) (held_by v) c ≡ Next c' moves
  pub inside : AreInside v moves
  pub after : v' ≡ fold put v moves

-- n instructions one after another go on
abbrev pub Glides : View → Cpu → ℕ → View → Cpu → Type 0
Glides v c zero v' c' = (v' ≡ v) × (c' ≡ c)
Glides v c (suc n) v' c' = (w : View) × (d : Cpu) × Glides v c n w d × GoesOn w d v' c'

-- the instruction at PC lies in the stretch, and its high byte is that of a system call
abbrev pub is_at_syscall : View → Cpu → Bool
is_at_syscall v c = let at = reg_at c.regs program_counter in has_code v at 2 && nat_eq (number_in v.flash_base v.flash at 2 / 256) 0xDF

-- the instruction at PC is fetched, and is a system call
pub record IsAtSyscall (v : View) (c : Cpu) : Type 0 where
  pub value : ℕ
  pub code : ℕ
  pub is : fetched (refused_by v) (held_by v) (reg_at c.regs program_counter) ≡ Ok record { insn = Svc value; code = code }

-- the parts that no instruction changes
pub record Keeps (v v' : View) : Type 0 where
  pub flash_base : v'.flash_base ≡ v.flash_base
  pub flash : v'.flash ≡ v.flash
  pub readable : v'.readable ≡ v.readable
  pub code_base : v'.code_base ≡ v.code_base
  pub code_size : v'.code_size ≡ v.code_size
  pub ram_base : v'.ram_base ≡ v.ram_base
  pub size : length v'.ram ≡ length v.ram
  pub area_base : v'.area_base ≡ v.area_base
  pub area_writable : v'.area_writable ≡ v.area_writable
  pub area_size : length v'.area ≡ length v.area
  pub second_base : v'.second_base ≡ v.second_base
  pub second_writable : v'.second_writable ≡ v.second_writable
  pub second_size : length v'.second ≡ length v.second

-- ## The code's window

abbrev pub view_of : Window → View
view_of w =
    record {
      flash_base = w.flash_base;
      flash = w.flash.items;
      readable = w.readable;
      code_base = w.code_base;
      code_size = w.code_size;
      ram_base = w.ram_base;
      ram = w.ram.items;
      area_base = w.area_base;
      area = w.area.items;
      area_writable = w.area_writable;
      second_base = w.second_base;
      second = w.second.items;
      second_writable = w.second_writable;
    }

-- the stretch lies within the flash, which ends below the RAM
pub record IsApart (v : View) : Type 0 where
  pub from : v.flash_base ≤ v.code_base
  pub to : v.code_base + v.code_size ≤ v.flash_base + length v.flash
  pub below : v.flash_base + length v.flash ≤ v.ram_base
