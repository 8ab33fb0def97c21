-- Functions of a state of the abstract kernel.
use Rattle.std.specs.Prelude.{ℕ, ◌≡◌, ◌≢◌, ◌+◌, ◌^◌, ◌-◌, ◌%◌, Bool, true, false, ◌&&◌, ◌||◌, not, List, [], ◌++◌, length, Option, None, slice_index, slice_index_or, slice_range, find, nat_le, ◌==◌, is_none, is_some}
use Rattle.std.specs.List.{range_with_len, list_all}
use Rattle.kernel_abi.specs.Ids.{index_of, generation_of, id_of, dead_code_of}
use Rattle.kernel_abi.specs.declared.Health.TheVariants.{Well, Stopped, Faulted}
use Rattle.kernel_abi.specs.declared.Health.{Health}
use Rattle.words_core.specs.declared.Flags.{Flags}
use Rattle.region_check.specs.Rights.{first_bad}
use Rattle.region_check.specs.declared.Right.{Right}
use Rattle.task_table.specs.declared.Line.{Line}
use Rattle.task_table.specs.model.State.{Setup, TaskSetup, Task, Call, Listen, State, Birth, Phase, Offered, Taken, From, Any, One, KernelOnly, Slice}

abbrev pub no_flags : Flags
no_flags = record { n = false; z = false; c = false; v = false }

-- the value for a task that does not exist
abbrev pub no_task : Task
no_task = record { births = 0; registers = []; flags = no_flags; health = Stopped; posted = 0; timer = None }

unfoldable pub task_at : State → ℕ → Task
task_at s i = slice_index_or s.tasks i no_task

abbrev pub setup_in : List TaskSetup → ℕ → TaskSetup
setup_in tasks i = slice_index_or tasks i record { priority = 0; entry = 0; stack = 0; regions = []; start = false }

abbrev pub setup_at : Setup → ℕ → TaskSetup
setup_at g i = setup_in g.tasks i

-- a line that does not exist counts as disabled, with nothing pending
abbrev pub no_line : Line
no_line = record { enabled = false; pending = false }

-- a disabled line, which may have an interrupt pending, and an enabled line, which has none
abbrev pub line_off : Bool → Line
line_off pending = record { enabled = false; pending = pending }

abbrev pub line_on : Line
line_on = record { enabled = true; pending = false }

unfoldable pub line_at : State → ℕ → Line
line_at s k = slice_index_or s.lines k no_line

-- the register that holds the number of a system call
abbrev pub syscall_selector : ℕ
syscall_selector = 11

-- a register of a task
unfoldable pub register : State → ℕ → ℕ → ℕ
register s i r = slice_index (task_at s i).registers r

-- the registers r4 to r11 of a task: the arguments of its system call, and its number
unfoldable pub arguments : State → ℕ → List ℕ
arguments s c = slice_range (task_at s c).registers 4 12

-- the open call of a client, and the listen of a task
unfoldable pub call_of : State → ℕ → Option Call
call_of s i = find (λ c. c.client.index == i) s.calls

unfoldable pub listen_of : State → ℕ → Option Listen
listen_of s i = find (λ l. l.task == i) s.listens

abbrev pub is_well : Health → Bool
is_well Well = true
is_well Stopped = false
is_well (Faulted f) = false

abbrev pub is_faulted : Health → Bool
is_faulted Well = false
is_faulted Stopped = false
is_faulted (Faulted f) = true

-- an id names no task; an id names an earlier birth of a task
unfoldable pub is_out : State → ℕ → Bool
is_out s id = nat_le (length s.tasks) (index_of id)

unfoldable pub is_dead : State → ℕ → Bool
is_dead s id = not (generation_of id == (task_at s (index_of id)).births % 64)

-- the birth that a task is in
abbrev pub present : State → ℕ → Birth
present s i = record { index = i; birth = (task_at s i).births }

-- the id of that birth
unfoldable pub present_id : State → ℕ → ℕ
present_id s i = id_of i (task_at s i).births

-- what a caller gets for an id of an earlier birth, with the present generation
unfoldable pub dead_code_for : State → ℕ → ℕ
dead_code_for s id = dead_code_of ((task_at s (index_of id)).births % 64)

-- a task is ready: it is well, is client of no open call, and does not listen
unfoldable pub is_ready : State → ℕ → Bool
is_ready s i = is_well (task_at s i).health && is_none (call_of s i) && is_none (listen_of s i)

abbrev pub same_birth : Birth → Birth → Bool
same_birth a b = (a.index == b.index) && (a.birth == b.birth)

-- whether a listen accepts messages of a client
abbrev pub admits : From → Birth → Bool
admits Any client = true
admits (One b) client = same_birth b client
admits KernelOnly client = false

-- a slice is valid if it ends inside the address space
abbrev pub is_valid : Slice → Bool
is_valid r = nat_le (r.base + r.len) (2 ^ 32)

-- the first byte of a slice that may not be copied for a task
unfoldable pub bad_byte : Setup → ℕ → Right → Slice → Option ℕ
bad_byte g i right r = first_bad (setup_at g i).regions right r.base r.len

-- ## who runs

abbrev pub priority : Setup → ℕ → ℕ
priority g i = (setup_at g i).priority

-- a task is ready, and no ready task has a lower priority number
abbrev pub qualifies : Setup → State → ℕ → Bool
qualifies g s i = is_ready s i && list_all (λ j. not (is_ready s j) || nat_le (priority g i) (priority g j)) (range_with_len 0 (length s.tasks))

-- the indices below n in cyclic order: those from i on, and then those below i
abbrev pub around : ℕ → ℕ → List ℕ
around n i = range_with_len i (n - i) ++ range_with_len 0 i

-- the current task if it qualifies, else the next one after it that does, cyclically
unfoldable pub chosen : Setup → State → Option ℕ
chosen g s = find (qualifies g s) (around (length s.tasks) s.current)

-- ## whose message is received

abbrev pub is_offered : Phase → Bool
is_offered Offered = true
is_offered Taken = false

-- the offered call of a client to a server
unfoldable pub offer_by : State → ℕ → ℕ → Option Call
offer_by s client server = find (λ k. (k.client.index == client) && (k.server.index == server) && is_offered k.phase) s.calls

-- the taken call of a client to a server
abbrev pub is_taken : Phase → Bool
is_taken Offered = false
is_taken Taken = true

unfoldable pub taken_by : State → ℕ → ℕ → Option Call
taken_by s client server = find (λ k. (k.client.index == client) && (k.server.index == server) && is_taken k.phase) s.calls

abbrev pub offers : State → ℕ → ℕ → Bool
offers s server client = is_some (offer_by s client server)

-- a client offers a call to the server, and no other client of the server has a lower priority number
abbrev pub is_best : Setup → State → ℕ → ℕ → Bool
is_best g s server i = offers s server i && list_all (λ j. not (offers s server j) || nat_le (priority g i) (priority g j)) (range_with_len 0 (length s.tasks))

-- the best sender: the first of these after the receiver, cyclically
unfoldable pub best_sender : Setup → State → ℕ → Option ℕ
best_sender g s server = find (is_best g s server) (around (length s.tasks) (server + 1))

-- u is s, except for task i, its call and its listen
pub record IsSameBut (i : ℕ) (s u : State) : Type 0 where
  pub count : length u.tasks ≡ length s.tasks
  pub task : (j : ℕ) → j ≢ i → task_at u j ≡ task_at s j
  pub call : (j : ℕ) → j ≢ i → call_of u j ≡ call_of s j
  pub listen : (j : ℕ) → j ≢ i → listen_of u j ≡ listen_of s j
  pub memory : u.memory ≡ s.memory
  pub now : u.now ≡ s.now
  pub current : u.current ≡ s.current
  pub next_call : u.next_call ≡ s.next_call
  pub lines : u.lines ≡ s.lines
  pub turn : u.turn ≡ s.turn
  pub devices : u.devices ≡ s.devices

-- task i waits for nothing
pub record IsIdle (s : State) (i : ℕ) : Type 0 where
  pub call : call_of s i ≡ None
  pub listen : listen_of s i ≡ None

-- task i, its call and its listen are the same in both
pub record IsSameAt (i : ℕ) (s u : State) : Type 0 where
  pub task : task_at u i ≡ task_at s i
  pub call : call_of u i ≡ call_of s i
  pub listen : listen_of u i ≡ listen_of s i

-- the health and the wait of task i are the same in both
pub record WaitsAlike (i : ℕ) (s u : State) : Type 0 where
  pub health : (task_at u i).health ≡ (task_at s i).health
  pub call : call_of u i ≡ call_of s i
  pub listen : listen_of u i ≡ listen_of s i

-- the timer of task i is the same in both
abbrev pub TimersAlike : ℕ → State → State → Type 0
TimersAlike i s u = (task_at u i).timer ≡ (task_at s i).timer

-- u is s, except for parts of task i that are not its health, its wait or its timer
abbrev pub DiffersInRest : ℕ → State → State → Type 0
DiffersInRest i s u = IsSameBut i s u × WaitsAlike i s u × TimersAlike i s u
