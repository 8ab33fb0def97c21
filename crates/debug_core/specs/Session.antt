-- A session with a run: a cursor, which is a turn, breakpoints, and whether it is over (docs/FORMATS.md, Commands).
use Rattle.std.specs.Prelude.{ℕ, ◌+◌, ◌-◌, ◌==◌, Bool, false, true, not, List, [], ◌∷◌, ◌++◌, length, filter, find, Option, Some, None, if◌then◌else◌, nat_lt}
use Rattle.std.specs.List.{range_with_len}
use Rattle.board_model.specs.Script.{Scenario}
use Rattle.board_model.specs.Turn.{turned}
use Rattle.board_core.specs.fast.Breakpoints.{stands, is_hit}
use Rattle.debug_core.specs.declared.command.Command.{Command}
use Rattle.debug_core.specs.declared.command.Command.TheVariants.{Break, Clear, Step, Back, Go, At, GoFor, BackFor, Notes, Help, Quit, Regs, Task, Irq, Device, Mem}
use Rattle.debug_core.specs.declared.command.Sought.{Sought}
use Rattle.debug_core.specs.Runs.{forward, state_at}
use Rattle.debug_core.specs.Searched.{can_be, first_found, last_found}

-- a session has at most this many breakpoints
abbrev pub most_breakpoints : ℕ
most_breakpoints = 16

pub record Session : Type 0 where
  pub cursor : ℕ
  pub breakpoints : List ℕ  -- none of them twice
  pub is_over : Bool  -- after `quit`: no further command is carried out

abbrev pub opened : Session
opened = record { cursor = 0; breakpoints = []; is_over = false }

-- ---- breakpoints

abbrev pub others : List ℕ → ℕ → List ℕ
others breakpoints at = filter (λ b. not (b == at)) breakpoints

-- there is no room for this address: the other breakpoints are as many as there may be
abbrev pub is_full : List ℕ → ℕ → Bool
is_full breakpoints at = not (nat_lt (length (others breakpoints at)) most_breakpoints)

abbrev pub with_breakpoint : List ℕ → ℕ → List ℕ
with_breakpoint breakpoints at =
    if stands breakpoints at then breakpoints
    else if is_full breakpoints at then breakpoints
    else breakpoints ++ at ∷ []

-- the first of n turns, counted from turn `from` on, that ran a task at a breakpoint
abbrev pub hit_in : Scenario → List ℕ → ℕ → ℕ → Option ℕ
hit_in x breakpoints from n = find (λ turn. is_hit breakpoints (turned x (state_at x turn))) (range_with_len from n)

abbrev pub hit_from : Scenario → Session → ℕ → Option ℕ
hit_from x s n = hit_in x s.breakpoints s.cursor (forward x s.cursor n - s.cursor)

-- ---- searches

-- a turn as the search wants it can exist
abbrev pub may_find : Scenario → Session → Sought → Bool
may_find x s what = can_be what (state_at x s.cursor).memory

-- The first turn in which something is found, among n turns forwards from the cursor; and the last one among
-- n turns back.
abbrev pub ahead : Scenario → Session → ℕ → Sought → Option ℕ
ahead x s n what = first_found x what s.cursor (forward x s.cursor n - s.cursor)

abbrev pub behind : Scenario → Session → ℕ → Sought → Option ℕ
behind x s n what = last_found x what (s.cursor - n) (s.cursor - (s.cursor - n))

-- ---- the session after a command

-- The cursor is right after the turn that was hit or found, or n turns further on if there was none.
abbrev pub gone : Scenario → Session → ℕ → Option ℕ → ℕ
gone x s n (Some turn) = turn + 1
gone x s n None = forward x s.cursor n

-- The cursor is right before the turn that was found, or n turns back if there was none.
abbrev pub gone_back : Session → ℕ → Option ℕ → ℕ
gone_back s n (Some turn) = turn
gone_back s n None = s.cursor - n

-- the cursor stays if a turn as the search wants it cannot exist
abbrev pub if_there : Scenario → Session → Sought → ℕ → ℕ
if_there x s what cursor = if may_find x s what then cursor else s.cursor

abbrev pub after : Scenario → Session → Command → Session
after x s (Break at) = record s { breakpoints = with_breakpoint s.breakpoints at }
after x s (Clear at) = record s { breakpoints = others s.breakpoints at }
after x s (Step n) = record s { cursor = forward x s.cursor n }
after x s (Back n) = record s { cursor = s.cursor - n }
after x s (Go n) = record s { cursor = gone x s n (hit_from x s n) }
after x s (At turn) = record s { cursor = forward x 0 turn }
after x s (GoFor n what) = record s { cursor = if_there x s what (gone x s n (ahead x s n what)) }
after x s (BackFor n what) = record s { cursor = if_there x s what (gone_back s n (behind x s n what)) }
after x s Notes = s
after x s Help = s
after x s Quit = record s { is_over = true }
after x s (Regs task) = s
after x s (Task task) = s
after x s (Irq line) = s
after x s (Device device) = s
after x s (Mem at n) = s
