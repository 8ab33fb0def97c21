-- What a case requires of the instruction at PC.
use Rattle.insn_vectors.specs.Flat.{first_bad, number_of, IsStored, Banks, with_half, with_bytes, zeros, flash_region, ram_region}
use Rattle.insn_vectors.specs.declared.case.Case.{Case}
use Rattle.insn_vectors.specs.declared.memory.Memory.{Memory}
use Rattle.std.specs.Prelude.{◌≡◌, length, ℕ, Bool, IsTrue, ◌↔◌, [], ◌∷◌, Option, Some, None}
use Rattle.words_core.specs.Regs.{reg_at, program_counter}
use Rattle.thumb_exec.specs.Effect.{Refusals, Contents, Acts}
use Rattle.thumb_exec.specs.declared.cpu.Cpu.{Cpu}
use Rattle.thumb_exec.specs.declared.cpu.Outcome.{Outcome}
use Rattle.thumb_exec.specs.Fetch.{after, step_effect}

-- what a memory refuses, what it holds, and what it holds after a store
abbrev pub refused_by : Memory → Refusals
refused_by m = λ a n r. first_bad m.regions.items a n r

abbrev pub held_by : Memory → Contents
held_by m = λ a n. number_of m.flash.items m.ram.items a n

abbrev pub IsAfter : Memory → ℕ → ℕ → ℕ → Memory → Type 0
IsAfter m a n v t = IsStored m.ram.items a n v t.ram.items × (length t.ram.items ≡ length m.ram.items) × (t.flash ≡ m.flash) × (t.regions ≡ m.regions)

-- there is no device
abbrev pub IsTaken : Memory → ℕ → Memory → Type 0
IsTaken m a t = t ≡ m

-- ## a case

abbrev pub banks_of : Memory → Banks
banks_of m = record { flash = m.flash.items; ram = m.ram.items }

-- a code at an address; its second halfword, if it has one, is right after the first
abbrev pub with_code : Banks → ℕ → ℕ → Option ℕ → Banks
with_code m at first None = with_half m at first
with_code m at first (Some second) = with_half (with_half m at first) (after at) second

-- the bytes before the instruction: those of the case, its code at PC, and zeros
abbrev pub banks_before : Case → Banks
banks_before case = with_code (with_bytes zeros case.bytes.items) (reg_at case.cpu.regs program_counter) case.first case.second

pub record IsBefore (case : Case) (m : Memory) : Type 0 where
  pub banks : banks_of m ≡ banks_before case
  pub regions : m.regions.items ≡ flash_region ∷ ram_region ∷ []

-- the registers, the flags, the outcome and every byte of memory are as the case wants them
pub record IsWanted (case : Case) (c : Cpu) (o : Outcome) (m : Memory) : Type 0 where
  pub cpu : c ≡ case.wanted
  pub outcome : o ≡ case.outcome
  pub banks : banks_of m ≡ with_bytes (banks_before case) case.wanted_bytes.items

-- the state after the instruction, by the rows of the table, and whether it is what the case wants
pub record Judges (case : Case) (passed : Bool) : Type 0 where
  pub before : Memory
  pub memory : Memory
  pub cpu : Cpu
  pub outcome : Outcome
  pub begins : IsBefore case before
  pub acts : Acts IsAfter IsTaken case.cpu cpu before memory outcome (step_effect (refused_by before) (held_by before) case.cpu)
  pub judged : IsTrue passed ↔ IsWanted case cpu outcome memory
