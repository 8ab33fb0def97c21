-- The instruction at an address, fetched and decoded, and what the instruction at PC does. (ARMv6-M Architecture
-- Reference Manual, A5.1: which halfwords begin an instruction of two; A6.7. For a halfword that may not be
-- executed, and for a code with no row in the table, this project has faults of its own: docs/FORMATS.md.)
use Rattle.std.specs.Prelude.{◌≡◌, ℕ, ◌+◌, ◌*◌, ◌%◌, ◌^◌, Option, Some, None, Result, Ok, Err, if◌then◌else◌}
use Rattle.kernel_abi.specs.declared.Fault.{Fault}
use Rattle.kernel_abi.specs.Faults.{illegal_fault, illegal_text_fault}
use Rattle.region_check.specs.declared.Right.TheVariants.{Execute}
use Rattle.words_core.specs.Regs.{reg_at, program_counter}
use Rattle.thumb_insn.specs.Table.{decoded_of, is_wide}
use Rattle.thumb_insn.specs.declared.Decoded.{Decoded}
use Rattle.thumb_insn.specs.declared.Decoded.TheVariants as decoded
use Rattle.thumb_exec.specs.Effect.{Effect, Trap, Refusals, Contents, effect}
use Rattle.thumb_exec.specs.Keeps.{Widens}
use Rattle.thumb_exec.specs.declared.cpu.Cpu.{Cpu}
use Rattle.thumb_exec.specs.declared.fetch.Fetched.{Fetched}

-- the instruction that was decoded at an address, with its code; a code with no row in the table is Illegal
abbrev pub instruction : ℕ → ℕ → Decoded → Result Fetched Fault
instruction at code (decoded.Narrow i) = Ok record { insn = i; code = code }
instruction at code (decoded.Wide i) = Ok record { insn = i; code = code }
instruction at code decoded.Illegal = Err (illegal_fault at)
instruction at code decoded.NeedsSecond = Err (illegal_fault at)

-- a fault if a byte of the halfword at an address may not be executed, else the rest
abbrev pub unless_barred : Option ℕ → ℕ → Result Fetched Fault → Result Fetched Fault
unless_barred None at fetched = fetched
unless_barred (Some byte) at fetched = Err (illegal_text_fault at)

-- the address of the second halfword
abbrev pub after : ℕ → ℕ
after at = (at + 2) % 2 ^ 32

-- an instruction of two halfwords; the first one is the high half of its code
abbrev pub fetched_wide : Refusals → Contents → ℕ → ℕ → Result Fetched Fault
fetched_wide refuses holds at first =
    unless_barred (refuses (after at) 2 Execute) (after at)
    (instruction at (first * 2 ^ 16 + holds (after at) 2) (decoded_of first (Some (holds (after at) 2))))

-- an instruction, from its first halfword
abbrev pub fetched_by : Refusals → Contents → ℕ → ℕ → Result Fetched Fault
fetched_by refuses holds at first =
    if is_wide first then fetched_wide refuses holds at first else instruction at first (decoded_of first None)

-- the instruction at an address, or the fault of fetching it
abbrev pub fetched : Refusals → Contents → ℕ → Result Fetched Fault
fetched refuses holds at = unless_barred (refuses at 2 Execute) at (fetched_by refuses holds at (holds at 2))

-- what a fetched instruction does
abbrev pub executed : Refusals → Contents → Cpu → Result Fetched Fault → Effect
executed refuses holds c (Ok f) = effect refuses holds c f.insn
executed refuses holds c (Err fault) = Trap fault

-- the instruction at PC
abbrev pub step_effect : Refusals → Contents → Cpu → Effect
step_effect refuses holds c = executed refuses holds c (fetched refuses holds (reg_at c.regs program_counter))

-- `wider` grants what `refuses` grants; where a byte may be read, or a halfword executed, both memories hold the same
pub record WidensFetch (refuses wider : Refusals) (holds held : Contents) : Type 0 where
  pub widens : Widens refuses wider holds held
  pub fetches : (a : ℕ) → refuses a 2 Execute ≡ None → holds a 2 ≡ held a 2
