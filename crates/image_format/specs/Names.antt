-- The names of the tasks' notifications: how they follow one another in the bytes, and their refusals, a cause and the
-- place of a byte.
use Rattle.std.specs.Prelude.{ℕ, zero, suc, Bool, not, false, ◌+◌, ◌-◌, ◌&&◌, ◌==◌, List, [], ◌∷◌, ◌++◌, Option, Some, None, length, take, drop, if◌then◌else◌, nat_le, nat_eq}
use Rattle.std.specs.Cmp.Lexicographic.{pointwise}
use Rattle.std.specs.List.{list_any}
use Rattle.text_lines.specs.Names.{is_name}
use Rattle.image_format.specs.declared.records.Header.{Header}
use Rattle.image_format.specs.declared.records.TaskRecord.{TaskRecord}
use Rattle.image_format.specs.Steps.{Refusal, or_else, names_place}

-- ---- a name is its length and its bytes

-- the first name of some bytes, and what follows it; as much of both as is there
abbrev pub first_name : List ℕ → List ℕ
first_name [] = []
first_name (n ∷ bytes) = take n bytes

abbrev pub after_name : List ℕ → List ℕ
after_name [] = []
after_name (n ∷ bytes) = drop n bytes

-- the first n names of some bytes, and what follows them
abbrev pub names_of : ℕ → List ℕ → List (List ℕ)
names_of zero bytes = []
names_of (suc n) bytes = first_name bytes ∷ names_of n (after_name bytes)

abbrev pub after_names : ℕ → List ℕ → List ℕ
after_names zero bytes = bytes
after_names (suc n) bytes = after_names n (after_name bytes)

-- ---- one name

abbrev pub same_name : List ℕ → List ℕ → Bool
same_name = pointwise nat_eq

-- the length byte is there, and as many bytes as it says, which make a name
abbrev pub is_spelled : List ℕ → Bool
is_spelled [] = false
is_spelled (n ∷ bytes) = nat_le n (length bytes) && is_name (take n bytes)

-- at the place, behind the task's earlier names
abbrev pub name_fault : List (List ℕ) → List ℕ → ℕ → Option Refusal
name_fault earlier bytes place =
    if not (is_spelled bytes) then Some (16, place)
    else if list_any (λ name. same_name name (first_name bytes)) earlier then Some (17, place)
    else None

-- ---- n names of a task, behind its earlier ones

abbrev pub task_names_fault : ℕ → List (List ℕ) → List ℕ → ℕ → Option Refusal
task_names_fault zero earlier bytes place = None
task_names_fault (suc n) earlier bytes place =
    or_else (name_fault earlier bytes place)
    (task_names_fault n (earlier ++ first_name bytes ∷ []) (after_name bytes) (place + 1 + length (first_name bytes)))

-- ---- the names of the tasks in order, and what is left over

abbrev pub left_fault : List ℕ → Option Refusal
left_fault bytes = if length bytes == 0 then None else Some (3, 24)

-- the bytes of all names end at the place
abbrev pub names_from : ℕ → List TaskRecord → List ℕ → Option Refusal
names_from end [] bytes = left_fault bytes
names_from end (t ∷ ts) bytes =
    or_else (task_names_fault t.names [] bytes (end - length bytes)) (names_from end ts (after_names t.names bytes))

abbrev pub names_fault : Header → List TaskRecord → List ℕ → Option Refusal
names_fault h ts names = names_from (names_place h + length names) ts names
