-- Which instruction stands at an address, and where it leads directly (ARMv6-M Architecture Reference Manual,
-- A4.2 and A6.7: branches, and instructions that may write PC).
use Rattle.std.specs.Prelude.{ℕ, ◌+◌, ◌*◌, ◌^◌, ◌==◌, not, Bool, true, false, if◌then◌else◌, Option, Some, None}
use Rattle.mem_banks.specs.Memory.{Memory}
use Rattle.thumb_insn.specs.declared.Decoded.{Decoded}
use Rattle.thumb_insn.specs.declared.Decoded.TheVariants.{Narrow, Wide, Illegal, NeedsSecond}
use Rattle.thumb_insn.specs.declared.Insn.{Insn}
use Rattle.thumb_insn.specs.declared.Insn.TheVariants.{AddHigh, MovHigh, Bx, Pop, Bkpt, BranchIf, Branch, Bl}
use Rattle.thumb_insn.specs.Table.{is_wide}
use Rattle.thumb_insn.specs.Text.{branch_target}
use Rattle.trace_text.specs.Text.{code_decoded}
use Rattle.board_run.specs.MemoryText.{byte_of}
use Rattle.run_cover.specs.declared.ways.Ways.{Ways}

-- ## what stands at an address

abbrev pub half_at : Memory → ℕ → ℕ
half_at m a = byte_of m a + 256 * byte_of m (a + 1)

-- the code at an address: one halfword, or two with the first one in the high half
abbrev pub insn_code : Memory → ℕ → ℕ
insn_code m a = if is_wide (half_at m a) then half_at m a * 2 ^ 16 + half_at m (a + 2) else half_at m a

-- the length of that code in bytes
abbrev pub size_at : Memory → ℕ → ℕ
size_at m a = if is_wide (half_at m a) then 4 else 2

abbrev pub insn_of : Decoded → Option Insn
insn_of (Narrow i) = Some i
insn_of (Wide i) = Some i
insn_of Illegal = None
insn_of NeedsSecond = None

-- the instruction of a code, if the code is an instruction
unfoldable pub decoded : ℕ → Option Insn
decoded code = insn_of (code_decoded code)

-- the instruction that stands at an address
abbrev pub stands_at : Memory → ℕ → Option Insn
stands_at m a = decoded (insn_code m a)

-- ## where it leads

-- whether an instruction is a conditional branch
abbrev pub is_conditional : Option Insn → Bool
is_conditional (Some (BranchIf cond offset)) = true
is_conditional _ = false

-- whether an instruction goes on to the address right after it (UDF has no row in the table of instructions)
abbrev pub goes_on : Insn → Bool
goes_on (Branch offset) = false
goes_on (Bx m) = false
goes_on (Bkpt value) = false
goes_on (Pop list pc) = not pc
goes_on (MovHigh d m) = not (d.number == 15)
goes_on (AddHigh d m) = not (d.number == 15)
goes_on _ = true

-- the target of a branch at an address
abbrev pub target_of : ℕ → Insn → Option ℕ
target_of a (Branch offset) = Some (branch_target a offset)
target_of a (BranchIf cond offset) = Some (branch_target a offset)
target_of a (Bl offset) = Some (branch_target a offset)
target_of a _ = None

-- the direct ways of an instruction of this length at an address
abbrev pub ways_of : ℕ → ℕ → Option Insn → Ways
ways_of a size None = record { behind = None; target = None }
ways_of a size (Some i) = record { behind = (if goes_on i then Some (a + size) else None); target = target_of a i }

unfoldable pub ways_at : Memory → ℕ → Ways
ways_at m a = ways_of a (size_at m a) (stands_at m a)
