-- The ids by which tasks name each other (Hubris Reference, on task ids).
use Rattle.std.specs.Prelude.{ℕ, ◌+◌, ◌*◌, ◌/◌, ◌%◌}

-- the index of an id, its low ten bits
abbrev pub index_of : ℕ → ℕ
index_of id = id % 1024

-- the generation of an id, its next six bits
abbrev pub generation_of : ℕ → ℕ
generation_of id = id / 1024 % 64

-- the id of the birth b of the task with index i
abbrev pub id_of : ℕ → ℕ → ℕ
id_of i b = i + 1024 * (b % 64)

-- what a caller gets for a dead id, with the present generation
abbrev pub dead_code_of : ℕ → ℕ
dead_code_of generation = 0xFFFFFF00 + generation
