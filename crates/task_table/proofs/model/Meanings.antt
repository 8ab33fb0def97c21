-- What holds of each system call of a list.
use Rattle.std.proofs.Common.{ℕ, List, [], ◌∷◌}
use Rattle.task_table.specs.model.Syscalls.{Meaning}

abbrev pub EachMeaning : (Meaning → Type 0) → List (ℕ × Meaning) → Type 0
EachMeaning P [] = Unit {0}
EachMeaning P (syscall ∷ syscalls) = P syscall.1 × EachMeaning P syscalls
