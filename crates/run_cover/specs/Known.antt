-- What is known to be code: executed instructions, the entries of tasks, and the instructions to which known
-- instructions lead directly (docs/FORMATS.md, Cover).
use Rattle.std.specs.Prelude.{◌≡◌, ◌⊎◌, ℕ, ◌+◌, ◌-◌, ◌%◌, ◌<◌, ◌==◌, ◌&&◌, ◌||◌, not, Bool, true, length, Contains, Option, Some, is_some, find}
use Rattle.region_check.specs.declared.Right.TheVariants.{Execute}
use Rattle.region_check.specs.Rights.{gives}
use Rattle.mem_banks.specs.Memory.{Memory}
use Rattle.thumb_insn.specs.Table.{is_wide}
use Rattle.task_table.specs.model.State.{Setup}
use Rattle.task_table.specs.model.Reading.{setup_at}
use Rattle.board_model.specs.Run.{Run}
use Rattle.board_run.specs.MemoryText.{regions_of}
use Rattle.run_cover.specs.declared.counts.Count.{Count}
use Rattle.run_cover.specs.Counted.{counts, leads_on}
use Rattle.run_cover.specs.declared.known.Marks.{Marks}
use Rattle.run_cover.specs.Marked.{AreMarks, Grows, known_of}
use Rattle.run_cover.specs.Places.{is_place}
use Rattle.run_cover.specs.Ways.{half_at, stands_at, ways_at}

-- some task may execute the byte at an address
abbrev pub is_in_code : Setup → ℕ → Bool
is_in_code g a = is_some (find (gives Execute a) (regions_of g))

-- some task may execute the second halfword of the instruction at an address too, if it has one
abbrev pub is_whole : Setup → Memory → ℕ → Bool
is_whole g m a = not (is_wide (half_at m a)) || is_in_code g (a + 2)

abbrev pub lies_in_code : Setup → Memory → ℕ → Bool
lies_in_code g m a = is_in_code g a && is_whole g m a

-- An instruction stands at an address. A halfword of zeros does not count as one, since the builder fills
-- regions with zeros.
abbrev pub is_insn : Memory → ℕ → Bool
is_insn m a = not (half_at m a == 0) && is_some (stands_at m a)

-- the address is a place, and an instruction stands there in regions of code
abbrev pub is_code : Setup → Memory → ℕ → Bool
is_code g m a = is_place a && (is_insn m a && lies_in_code g m a)

-- the PC at which a task begins at each birth: its entry with bit 0 cleared
unfoldable pub birth_pc : Setup → ℕ → ℕ
birth_pc g i = (setup_at g i).entry - (setup_at g i).entry % 2

-- some task begins at an address
abbrev pub IsEntry : Setup → ℕ → Type 0
IsEntry g a = (i : ℕ) × (i < length g.tasks) × (birth_pc g i ≡ a)

-- The instruction at address a leads directly to address b, and it did not fault each time it was executed.
-- The function c gives the counts by address.
pub record Leads (m : Memory) (c : ℕ → Count) (a b : ℕ) : Type 0 where
  pub goes : leads_on (c a) ≡ true
  pub way : ((ways_at m a).behind ≡ Some b) ⊎ ((ways_at m a).target ≡ Some b)

-- the least set of places that contains the executed instructions, the entries of tasks, and the instructions
-- to which known ones lead
pub data Known (g : Setup) (m : Memory) (c : ℕ → Count) : ℕ → Type 0 where
  Executed : {a : ℕ} → 0 < (c a).executed → Known g m c a
  Begins : {a : ℕ} → IsEntry g a → is_code g m a ≡ true → Known g m c a
  Led : {a b : ℕ} → Known g m c a → Leads m c a b → is_code g m b ≡ true → Known g m c b

-- the test is true of exactly the known places
pub record IsKnown (g : Setup) (m : Memory) (c : ℕ → Count) (k : ℕ → Bool) : Type 0 where
  pub sound : (a : ℕ) → k a ≡ true → Known g m c a
  pub complete : (a : ℕ) → Known g m c a → k a ≡ true

-- the same, with the counts of a run and the memory at its end
abbrev pub IsKnownOf : Setup → Run → (ℕ → Bool) → Type 0
IsKnownOf g r k = IsKnown g r.last.memory (counts r.notes) k

-- ## how a table of marks gets there

-- a place is known if an instruction was executed there
pub record HasBegun (c : ℕ → Count) (before : Marks) (a : ℕ) (now : Marks) : Type 0 where
  pub marks : AreMarks now
  pub grows : Grows before (λ b. (b ≡ a) × (0 < (c a).executed)) now
  pub done : 0 < (c a).executed → known_of now a ≡ true

-- exactly the places where an instruction was executed are known
pub record HaveBegun (c : ℕ → Count) (t : Marks) : Type 0 where
  pub marks : AreMarks t
  pub sound : (a : ℕ) → known_of t a ≡ true → 0 < (c a).executed
  pub listed : (a : ℕ) → known_of t a ≡ true → Contains t.todo.items a
  pub all : (a : ℕ) → 0 < (c a).executed → known_of t a ≡ true

-- the entries of the first n tasks are known, if an instruction stands there
pub record HaveEntered (g : Setup) (m : Memory) (n : ℕ) (before now : Marks) : Type 0 where
  pub grows : Grows before (λ b. IsEntry g b × (is_code g m b ≡ true)) now
  pub done : (i : ℕ) → i < n → is_code g m (birth_pc g i) ≡ true → known_of now (birth_pc g i) ≡ true

-- the place to which a way leads is known, if an instruction stands there
pub record HasLed (g : Setup) (m : Memory) (way : Option ℕ) (before now : Marks) : Type 0 where
  pub grows : Grows before (λ b. (way ≡ Some b) × (is_code g m b ≡ true)) now
  pub done : (b : ℕ) → way ≡ Some b → is_code g m b ≡ true → known_of now b ≡ true

-- all places to which an instruction leads are known, if an instruction stands there
pub record HasFollowed (g : Setup) (m : Memory) (c : ℕ → Count) (a : ℕ) (before now : Marks) : Type 0 where
  pub grows : Grows before (λ b. Leads m c a b × (is_code g m b ≡ true)) now
  pub done : (b : ℕ) → Leads m c a b → is_code g m b ≡ true → known_of now b ≡ true
