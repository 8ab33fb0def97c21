-- Where the parts of a file lie, and the refusals of a header, of its tasks and of its interrupts: a cause, and the place of
-- a byte.
-- docs/FORMATS.md, Image, has the table of causes.
use Rattle.std.specs.Prelude.{ℕ, Bool, not, ◌+◌, ◌*◌, ◌%◌, ◌==◌, ◌&&◌, ◌||◌, List, [], ◌∷◌, Option, Some, None, if◌then◌else◌, nat_lt, nat_le}
use Rattle.std.specs.List.{sum_by}
use Rattle.image_format.specs.declared.records.ImageForm.{ImageForm}
use Rattle.image_format.specs.declared.records.ImageForm.TheVariants.{First, Second}
use Rattle.image_format.specs.declared.records.Header.{Header}
use Rattle.image_format.specs.declared.records.TaskRecord.{TaskRecord}
use Rattle.image_format.specs.declared.records.LineRecord.{LineRecord}

-- the largest number of tasks in a form, the largest number of interrupts, the highest line, and the largest
-- number of names of a task
abbrev pub most_tasks : ImageForm → ℕ
most_tasks First = 32
most_tasks Second = 512

abbrev pub most_lines : ImageForm → ℕ
most_lines First = 32
most_lines Second = 64

abbrev pub highest_line : ImageForm → ℕ
highest_line First = 31
highest_line Second = 63

abbrev pub most_names : ImageForm → ℕ
most_names First = 0
most_names Second = 32

-- ---- the places of the parts, which follow one another: header, tasks, regions, interrupts, names, flash

abbrev pub header_size : ImageForm → ℕ
header_size First = 20
header_size Second = 28

abbrev pub regions_place : Header → ℕ
regions_place h = header_size h.form + 12 * h.tasks

abbrev pub lines_place : Header → ℕ
lines_place h = header_size h.form + 12 * h.tasks + 12 * h.regions

abbrev pub names_place : Header → ℕ
names_place h = header_size h.form + 12 * h.tasks + 12 * h.regions + 8 * h.lines

-- a cause and a place
abbrev pub Refusal : Type 0
Refusal = ℕ × ℕ

-- the first of the rows whose condition holds
abbrev pub first : List (Bool × Refusal) → Option Refusal
first [] = None
first (row ∷ rows) = if row.0 then Some row.1 else first rows

abbrev pub or_else : Option Refusal → Option Refusal → Option Refusal
or_else None next = next
or_else (Some r) next = Some r

-- ---- the header's fields

abbrev pub first_field_fault : Header → Option Refusal
first_field_fault h = first ((nat_lt h.tasks 1 || nat_lt (most_tasks First) h.tasks, (3, 4))
    ∷ (nat_lt (most_lines First) h.lines, (3, 5))
    ∷ (nat_lt h.regions h.tasks || nat_lt (8 * h.tasks) h.regions, (3, 6))
    ∷ (nat_lt h.flash 1 || nat_lt 1048576 h.flash, (3, 8))
    ∷ (nat_lt 262144 h.ram, (3, 12))
    ∷ (h.bits == 0, (3, 16)) ∷ [])

-- 512 tasks of 32 names of 25 bytes have 409600 bytes of names
abbrev pub second_field_fault : Header → Option Refusal
second_field_fault h = first ((nat_lt h.tasks 1 || nat_lt (most_tasks Second) h.tasks, (3, 4))
    ∷ (nat_lt (most_lines Second) h.lines, (3, 6))
    ∷ (nat_lt h.regions h.tasks || nat_lt (8 * h.tasks) h.regions, (3, 8))
    ∷ (not (h.zero == 0), (3, 10))
    ∷ (nat_lt h.flash 1 || nat_lt 1048576 h.flash, (3, 12))
    ∷ (nat_lt 262144 h.ram, (3, 16))
    ∷ (h.bits == 0, (3, 20))
    ∷ (nat_lt 409600 h.names, (3, 24)) ∷ [])

abbrev pub field_fault_in : ImageForm → Header → Option Refusal
field_fault_in First h = first_field_fault h
field_fault_in Second h = second_field_fault h

unfoldable pub field_fault : Header → Option Refusal
field_fault h = field_fault_in h.form h

-- ---- each task

abbrev pub task_fault : ImageForm → ℕ → TaskRecord → ℕ → Option Refusal
task_fault form index t place = first (
    ((index == 0 && not (t.priority == 0)) || (not (index == 0) && t.priority == 0), (5, place))
    ∷ (nat_lt 1 t.flags || (index == 0 && not (t.flags == 1)), (6, place + 1))
    ∷ (nat_lt t.regions 1 || nat_lt 8 t.regions, (3, place + 2))
    ∷ (nat_lt (most_names form) t.names, (3, place + 3))
    ∷ (not (t.sp % 4 == 0), (7, place + 8)) ∷ [])

-- from the index-th task on, whose record lies at the place
abbrev pub tasks_from : ImageForm → ℕ → ℕ → List TaskRecord → Option Refusal
tasks_from form index place [] = None
tasks_from form index place (t ∷ ts) =
    or_else (task_fault form index t place) (tasks_from form (index + 1) (place + 12) ts)

abbrev pub tasks_fault : Header → List TaskRecord → Option Refusal
tasks_fault h ts = tasks_from h.form 0 (header_size h.form) ts

-- ---- the number of regions

abbrev pub counted : List TaskRecord → ℕ
counted = sum_by (λ t. t.regions)

-- its place in the header
abbrev pub count_place : ImageForm → ℕ
count_place First = 6
count_place Second = 8

abbrev pub count_fault : Header → List TaskRecord → Option Refusal
count_fault h ts = if counted ts == h.regions then None else Some (3, count_place h.form)

-- ---- each interrupt

-- Its line has to be at least this high, and its task one of this many. In the first form no device drives a line; in
-- the second it may be the one of a region of its task, of which there are at most 8.
abbrev pub line_fault : ImageForm → ℕ → ℕ → LineRecord → ℕ → Option Refusal
line_fault First least tasks l place = first (
    (nat_lt (highest_line First) l.line || nat_lt l.line least, (13, place))
    ∷ (nat_le tasks l.task, (14, place + 1))
    ∷ (not (l.device == 0), (3, place + 2))
    ∷ (l.bits == 0, (15, place + 4)) ∷ [])
line_fault Second least tasks l place = first (
    (nat_lt (highest_line Second) l.line || nat_lt l.line least, (13, place))
    ∷ (nat_lt 8 l.device, (3, place + 1))
    ∷ (nat_le tasks l.task, (14, place + 2))
    ∷ (l.bits == 0, (15, place + 4)) ∷ [])

abbrev pub lines_from : ImageForm → ℕ → ℕ → ℕ → List LineRecord → Option Refusal
lines_from form least tasks place [] = None
lines_from form least tasks place (l ∷ ls) =
    or_else (line_fault form least tasks l place) (lines_from form (l.line + 1) tasks (place + 8) ls)

abbrev pub lines_fault : Header → List LineRecord → Option Refusal
lines_fault h ls = lines_from h.form 0 h.tasks (lines_place h) ls
