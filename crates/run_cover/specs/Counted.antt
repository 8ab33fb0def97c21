-- How often the instruction at each address was executed, was taken as a branch, and faulted, according to
-- the notes of a run.
use Rattle.std.specs.Prelude.{◌≡◌, ℕ, ◌+◌, ◌^◌, ◌-◌, ◌<◌, ◌==◌, ◌&&◌, ◌||◌, not, Bool, false, nat_lt, min, List, [], ◌∷◌, length, slice_index, slice_index_or, count_by, if◌then◌else◌, Option, Some, None}
use Rattle.kernel_abi.specs.declared.Note.{Note}
use Rattle.kernel_abi.specs.declared.Note.TheVariants as note
use Rattle.run_cover.specs.declared.counts.Begun.{Begun}
use Rattle.run_cover.specs.declared.counts.Count.{Count}
use Rattle.run_cover.specs.declared.counts.PlaceCounts.{PlaceCounts}
use Rattle.run_cover.specs.declared.counts.What.{What}
use Rattle.run_cover.specs.declared.counts.What.TheVariants.{Executed, Taken, Faulted}
use Rattle.run_cover.specs.declared.covering.Cover.{Cover}
use Rattle.run_cover.specs.Marked.{IsUnmarked}
use Rattle.run_cover.specs.Places.{place_of, is_place, address_of}
use Rattle.run_cover.specs.Ways.{decoded, is_conditional}

-- ## executed

-- the note is of the instruction at an address
abbrev pub is_at : ℕ → Note → Bool
is_at a (note.Insn task at code) = at == a
is_at a _ = false

-- how many notes are of that instruction; this is the number of turns in which a task executed it
-- (specs/Executing)
abbrev pub executed : List (ℕ × Note) → ℕ → ℕ
executed notes a = count_by (λ n. is_at a n.1) notes

-- ## taken and faulted: what the other notes of a turn say about the instruction that a task began in it

-- The instruction under way after a note. The task's fault ends it, and so does the note of its registers,
-- which comes last.
abbrev pub begun_after : Option Begun → Note → Option Begun
begun_after o (note.Insn task at code) = Some record { task = task; at = at; code = code }
begun_after (Some b) (note.Fault task fault) = if b.task == task then None else Some b
begun_after o (note.High registers n z c v) = None
begun_after o _ = o

-- the task faulted at the instruction at an address
abbrev pub faults_at : ℕ → Note → Option Begun → Bool
faults_at a (note.Fault task fault) (Some b) = b.at == a && b.task == task
faults_at a _ _ = false

-- the instruction is a conditional branch, and this PC is not the address right after it
abbrev pub is_taken : Begun → ℕ → Bool
is_taken b pc = not (pc == b.at + 2) && is_conditional (decoded b.code)

-- the branch at an address was taken; the last of the noted registers is the PC
abbrev pub takes_at : ℕ → Note → Option Begun → Bool
takes_at a (note.High registers n z c v) (Some b) = b.at == a && is_taken b (slice_index registers 7)
takes_at a _ _ = false

-- how many notes pass a test of the note and of the instruction under way
unfoldable pub times : (Note → Option Begun → Bool) → Option Begun → List (ℕ × Note) → ℕ
times p o [] = 0
times p o (n ∷ notes) = (if p n.1 o then 1 else 0) + times p (begun_after o n.1) notes

-- the number of turns in which the task faulted at the instruction at an address, and the number in which the
-- branch there was taken
abbrev pub faulted : List (ℕ × Note) → ℕ → ℕ
faulted notes a = times (faults_at a) None notes

abbrev pub taken : List (ℕ × Note) → ℕ → ℕ
taken notes a = times (takes_at a) None notes

-- ## all three counts of an address; an address that is not a place has none

abbrev pub no_count : Count
no_count = record { executed = 0; taken = 0; faulted = 0 }

unfoldable pub counts : List (ℕ × Note) → ℕ → Count
counts notes a = if is_place a then record { executed = executed notes a; taken = taken notes a; faulted = faulted notes a } else no_count

-- an instruction that was executed and faulted each time leads nowhere
abbrev pub leads_on : Count → Bool
leads_on c = c.executed == 0 || nat_lt c.faulted c.executed

-- ## a table of counts, by the numbers of places

abbrev pub item_at : PlaceCounts → ℕ → Count
item_at t k = slice_index_or t.counts.items k no_count

abbrev pub count_at : PlaceCounts → Option ℕ → Count
count_at t None = no_count
count_at t (Some k) = item_at t k

-- the count that a table has for an address
unfoldable pub count_of : PlaceCounts → ℕ → Count
count_of t a = count_at t (place_of a)

-- nothing was counted
pub record IsNewlyCounted (t : PlaceCounts) : Type 0 where
  pub as_many : length t.counts.items ≡ 655360
  pub none : (k : ℕ) → item_at t k ≡ no_count
  pub begun : t.begun ≡ None

-- one more, at most 2^32 - 1
abbrev pub raised : ℕ → ℕ
raised n = min (n + 1) (2 ^ 32 - 1)

abbrev pub raised_in : What → Count → Count
raised_in Executed c = record c { executed = raised c.executed }
raised_in Taken c = record c { taken = raised c.taken }
raised_in Faulted c = record c { faulted = raised c.faulted }

-- one more was counted at an address
pub record IsCounted (before : PlaceCounts) (at : ℕ) (what : What) (now : PlaceCounts) : Type 0 where
  pub begun : now.begun ≡ before.begun
  pub as_many : length now.counts.items ≡ length before.counts.items
  pub counts : (k : ℕ) → k < length before.counts.items → k < 655360 → item_at now k ≡ (if at == address_of k then raised_in what (item_at before k) else item_at before k)

-- one more if a test is true
abbrev pub raised_if : Bool → ℕ → ℕ
raised_if b n = if b then raised n else n

-- the count of an address after a note, with this instruction under way before it
abbrev pub counted_in : Option Begun → Note → ℕ → Count → Count
counted_in o n a c = record { executed = raised_if (is_at a n) c.executed; taken = raised_if (takes_at a n o) c.taken; faulted = raised_if (faults_at a n o) c.faulted }

-- a note was counted
pub record HeardNote (before : PlaceCounts) (n : Note) (now : PlaceCounts) : Type 0 where
  pub begun : now.begun ≡ begun_after before.begun n
  pub as_many : length now.counts.items ≡ length before.counts.items
  pub counts : (k : ℕ) → k < length before.counts.items → k < 655360 → item_at now k ≡ counted_in before.begun n (address_of k) (item_at before k)

-- the count rose by this many, if the sum is below 2^32
abbrev pub Grew : ℕ → ℕ → ℕ → Type 0
Grew before by now = before + by < 2 ^ 32 → now ≡ before + by

-- the count of an address rose by what these notes say about the address, with this instruction under way
-- before them
pub record HasGrown (o : Option Begun) (notes : List (ℕ × Note)) (a : ℕ) (before now : Count) : Type 0 where
  pub executed : Grew before.executed (executed notes a) now.executed
  pub taken : Grew before.taken (times (takes_at a) o notes) now.taken
  pub faulted : Grew before.faulted (times (faults_at a) o notes) now.faulted

-- the instruction under way after some notes
unfoldable pub begun_at_end : Option Begun → List (ℕ × Note) → Option Begun
begun_at_end o [] = o
begun_at_end o (n ∷ notes) = begun_at_end (begun_after o n.1) notes

-- these notes were counted
pub record Heard (before : PlaceCounts) (notes : List (ℕ × Note)) (now : PlaceCounts) : Type 0 where
  pub begun : now.begun ≡ begun_at_end before.begun notes
  pub as_many : length now.counts.items ≡ length before.counts.items
  pub counts : (k : ℕ) → k < length before.counts.items → k < 655360 → HasGrown before.begun notes (address_of k) (item_at before k) (item_at now k)

-- ## before a run

pub record IsNew (c : Cover) : Type 0 where
  pub counts : IsNewlyCounted c.counts
  pub marks : IsUnmarked c.marks
