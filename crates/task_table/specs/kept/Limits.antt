-- Upper limits.
use Rattle.std.specs.Prelude.{ℕ}

-- tasks of an application
abbrev pub most_tasks : ℕ
most_tasks = 512

-- words of a set of tasks, of 32 bits each
abbrev pub task_words : ℕ
task_words = 16

-- sets of tasks by the deadlines of their timers, one for each remainder of a deadline
abbrev pub wheel_sets : ℕ
wheel_sets = 64

-- interrupt lines of a board
abbrev pub board_lines : ℕ
board_lines = 64

-- notes of one system call, and of one event from outside
abbrev pub syscall_notes : ℕ
syscall_notes = 1100

-- notes of one turn
abbrev pub turn_notes : ℕ
turn_notes = 12288
