-- The bytes of some states of runs, by computing, compared with the bytes that another program saves.
use Rattle.std.proofs.Common.{◌≡◌, ◌+◌, ◌*◌, ℕ, true, false, List, [], ◌∷◌, ◌++◌, length, take, None, refl}
use Rattle.std.specs.Prelude.{replicate}
use Rattle.region_check.specs.Rights.{first_bad}
use Rattle.thumb_insn.specs.Table.{rows, narrow_of, wide_rows, wide_of}
use Rattle.thumb_exec.specs.Effect.{words, transfers, first_refused, stores_of, loaded_all, ones, count, effect}
use Rattle.mem_banks.specs.Memory.{bytes_at, with_bytes, copied as copied_memory}
use Rattle.task_table.specs.model.State.{Setup, State}
use Rattle.task_table.specs.model.Reading.{task_at, line_at, register, arguments, call_of, listen_of, dead_code_for, is_out, is_dead, is_ready, bad_byte, chosen, offer_by, taken_by, best_sender}
use Rattle.task_table.specs.model.Effects.{with_task, without_call, without_listen, with_listen, with_call, offered, with_taken, noted, with_processor, with_health, stored, copied, looked, given, returned, past_syscall, bits_added, bits_cleared, woken, posted, with_timer, clocked, with_line, closed, faulted_as, handed}
use Rattle.task_table.specs.model.Events.{ticked, owner_of, interrupted}
use Rattle.task_table.specs.model.Rows.{panicked, timer_set, timer_answered, irq_controlled, received, syscall_noted}
use Rattle.task_table.specs.model.Sends.{sent, replied}
use Rattle.task_table.specs.model.Syscalls.{syscall_made}
use Rattle.task_table.specs.model.Start.{start, begun}
use Rattle.board_model.specs.declared.outcomes.Level.TheVariants.{Calls}
use Rattle.board_model.specs.Script.{Scenario}
use Rattle.board_model.specs.Run.{run, ending}
use Rattle.board_model.specs.Turn.{after_events, stepped, with_registers_noted, ended, turn}
use Rattle.snapshot.specs.Records.{header_bytes, task_front, task_back, device_bytes}
use Rattle.snapshot.specs.Causes.{first_from, any_below}
use Rattle.snapshot.specs.Waits.{state_fault}
use Rattle.snapshot.specs.Saved.{spelling, expected_of}

plain : Setup → Scenario
plain g = record { setup = g; script = record { every = None; events = [] }; devices = [] }

state : Setup → ℕ → State
state g n = (run Calls (plain g) n (start g)).last

-- the bytes but for the RAM, how many there are in all, and that no cause is found
record IsSavedAs (g : Setup) (n : ℕ) (bytes : List ℕ) (long : ℕ) : Type 0 where
  front : take (100 + 132 * length g.tasks) (spelling (state g n)) ≡ bytes
  all : length (spelling (state g n)) ≡ long
  none : state_fault (expected_of g (state g n).devices) (spelling (state g n)) ≡ None

setup_a2 : Setup
setup_a2 = record {
  tasks = record { priority = 0; entry = 134217729; stack = 536870912; start = true; regions = record { base = 134217728; size = 256; rights = record { read = true; write = false; execute = true; device = false } } ∷ [] } ∷ [];
  lines = [];
  fault_bits = 1;
  ram = 0;
  line_count = 64;
  flash = (1 ∷ 32 ∷ 254 ∷ 231 ∷ []) ++ replicate 252 0;
}

a2 : IsSavedAs setup_a2 2 ((72 ∷ 66 ∷ 83 ∷ 49 ∷ 2 ∷ 0 ∷ 0 ∷ 0 ∷ 1 ∷ []) ++ replicate 19 0 ++ (1 ∷ []) ++ replicate 83 0 ++ (1 ∷ []) ++ replicate 54 0 ++ (32 ∷ 255 ∷ 255 ∷ 255 ∷ 255 ∷ 2 ∷ 0 ∷ 0 ∷ 8 ∷ []) ++ replicate 56 0) 232
unfolding plain state setup_a2 header_bytes task_front task_back device_bytes first_from any_below with_call offered sent replied taken_by run ending after_events turn ended stepped begun start with_registers_noted ticked interrupted owner_of panicked timer_set timer_answered irq_controlled received syscall_noted syscall_made with_task without_call without_listen with_listen with_taken noted with_processor with_health stored copied looked given returned past_syscall bits_added bits_cleared woken posted with_timer clocked with_line closed faulted_as handed task_at line_at register arguments call_of listen_of dead_code_for is_out is_dead is_ready bad_byte chosen offer_by best_sender bytes_at with_bytes copied_memory first_bad words transfers first_refused stores_of loaded_all ones count effect rows narrow_of wide_rows wide_of
a2 = record { front = refl; all = refl; none = refl }

setup_nine8 : Setup
setup_nine8 = record {
  tasks = record { priority = 0; entry = 134217729; stack = 536870976; start = true; regions = record { base = 134217728; size = 256; rights = record { read = true; write = false; execute = true; device = false } } ∷ record { base = 536870912; size = 256; rights = record { read = true; write = true; execute = false; device = false } } ∷ [] } ∷ record { priority = 2; entry = 134217985; stack = 536871232; start = true; regions = record { base = 134217984; size = 256; rights = record { read = true; write = false; execute = true; device = false } } ∷ record { base = 536871168; size = 256; rights = record { read = true; write = true; execute = false; device = false } } ∷ [] } ∷ record { priority = 1; entry = 134218241; stack = 536871488; start = true; regions = record { base = 134218240; size = 256; rights = record { read = true; write = false; execute = true; device = false } } ∷ record { base = 536871424; size = 256; rights = record { read = true; write = true; execute = false; device = false } } ∷ [] } ∷ [];
  lines = [];
  fault_bits = 1;
  ram = 768;
  line_count = 64;
  flash = (1 ∷ 38 ∷ 1 ∷ 32 ∷ 131 ∷ 70 ∷ 0 ∷ 223 ∷ []) ++ replicate 248 0 ++ (2 ∷ 36 ∷ 36 ∷ 4 ∷ 5 ∷ 52 ∷ 109 ∷ 70 ∷ 10 ∷ 38 ∷ 0 ∷ 223 ∷ []) ++ replicate 244 0 ++ (108 ∷ 70 ∷ 4 ∷ 37 ∷ 1 ∷ 32 ∷ 131 ∷ 70 ∷ 0 ∷ 223 ∷ 44 ∷ 70 ∷ 7 ∷ 37 ∷ 0 ∷ 38 ∷ 0 ∷ 39 ∷ 2 ∷ 32 ∷ 131 ∷ 70 ∷ 0 ∷ 223 ∷ []) ++ replicate 232 0;
}

nine8 : IsSavedAs setup_nine8 10 ((72 ∷ 66 ∷ 83 ∷ 49 ∷ 10 ∷ 0 ∷ 0 ∷ 0 ∷ 3 ∷ 0 ∷ 0 ∷ 0 ∷ 0 ∷ 3 ∷ []) ++ replicate 10 0 ++ (1 ∷ 0 ∷ 0 ∷ 0 ∷ 1 ∷ []) ++ replicate 74 0 ++ (3 ∷ []) ++ replicate 8 0 ++ (1 ∷ []) ++ replicate 23 0 ++ (1 ∷ []) ++ replicate 19 0 ++ (1 ∷ []) ++ replicate 7 0 ++ (64 ∷ 0 ∷ 0 ∷ 32 ∷ 255 ∷ 255 ∷ 255 ∷ 255 ∷ 8 ∷ 0 ∷ 0 ∷ 8 ∷ []) ++ replicate 24 0 ++ (1 ∷ []) ++ replicate 59 0 ++ (2 ∷ []) ++ replicate 35 0 ++ (64 ∷ 1 ∷ 0 ∷ 32 ∷ 255 ∷ 255 ∷ 255 ∷ 255 ∷ 2 ∷ 1 ∷ 0 ∷ 8 ∷ []) ++ replicate 59 0 ++ (3 ∷ []) ++ replicate 8 0 ++ (1 ∷ []) ++ replicate 15 0 ++ (64 ∷ 2 ∷ 0 ∷ 32 ∷ 4 ∷ []) ++ replicate 23 0 ++ (1 ∷ []) ++ replicate 7 0 ++ (64 ∷ 2 ∷ 0 ∷ 32 ∷ 255 ∷ 255 ∷ 255 ∷ 255 ∷ 10 ∷ 2 ∷ 0 ∷ 8 ∷ []) ++ replicate 32 0 ++ (64 ∷ 2 ∷ 0 ∷ 32 ∷ 4 ∷ []) ++ replicate 19 0) 1264
unfolding plain state setup_nine8 header_bytes task_front task_back device_bytes first_from any_below with_call offered sent replied taken_by run ending after_events turn ended stepped begun start with_registers_noted ticked interrupted owner_of panicked timer_set timer_answered irq_controlled received syscall_noted syscall_made with_task without_call without_listen with_listen with_taken noted with_processor with_health stored copied looked given returned past_syscall bits_added bits_cleared woken posted with_timer clocked with_line closed faulted_as handed task_at line_at register arguments call_of listen_of dead_code_for is_out is_dead is_ready bad_byte chosen offer_by best_sender bytes_at with_bytes copied_memory first_bad words transfers first_refused stores_of loaded_all ones count effect rows narrow_of wide_rows wide_of
nine8 = record { front = refl; all = refl; none = refl }

nine15 : IsSavedAs setup_nine8 16 ((72 ∷ 66 ∷ 83 ∷ 49 ∷ 16 ∷ 0 ∷ 0 ∷ 0 ∷ 3 ∷ 0 ∷ 0 ∷ 0 ∷ 0 ∷ 3 ∷ []) ++ replicate 10 0 ++ (2 ∷ 0 ∷ 0 ∷ 0 ∷ 2 ∷ []) ++ replicate 74 0 ++ (3 ∷ []) ++ replicate 8 0 ++ (1 ∷ []) ++ replicate 23 0 ++ (1 ∷ []) ++ replicate 19 0 ++ (1 ∷ []) ++ replicate 7 0 ++ (64 ∷ 0 ∷ 0 ∷ 32 ∷ 255 ∷ 255 ∷ 255 ∷ 255 ∷ 8 ∷ 0 ∷ 0 ∷ 8 ∷ []) ++ replicate 24 0 ++ (1 ∷ []) ++ replicate 34 0 ++ (2 ∷ []) ++ replicate 24 0 ++ (5 ∷ 0 ∷ 2 ∷ 0 ∷ 64 ∷ 1 ∷ 0 ∷ 32 ∷ 10 ∷ []) ++ replicate 27 0 ++ (64 ∷ 1 ∷ 0 ∷ 32 ∷ 255 ∷ 255 ∷ 255 ∷ 255 ∷ 12 ∷ 1 ∷ 0 ∷ 8 ∷ []) ++ replicate 24 0 ++ (1 ∷ 0 ∷ 0 ∷ 0 ∷ 2 ∷ 0 ∷ 5 ∷ 0 ∷ 64 ∷ 1 ∷ 0 ∷ 32 ∷ 10 ∷ []) ++ replicate 31 0 ++ (1 ∷ []) ++ replicate 15 0 ++ (1 ∷ 0 ∷ 0 ∷ 0 ∷ 1 ∷ 0 ∷ 0 ∷ 0 ∷ 5 ∷ 0 ∷ 0 ∷ 0 ∷ 10 ∷ []) ++ replicate 15 0 ++ (1 ∷ []) ++ replicate 7 0 ++ (64 ∷ 2 ∷ 0 ∷ 32 ∷ 255 ∷ 255 ∷ 255 ∷ 255 ∷ 12 ∷ 2 ∷ 0 ∷ 8 ∷ []) ++ replicate 56 0) 1264
unfolding plain state setup_nine8 header_bytes task_front task_back device_bytes first_from any_below with_call offered sent replied taken_by run ending after_events turn ended stepped begun start with_registers_noted ticked interrupted owner_of panicked timer_set timer_answered irq_controlled received syscall_noted syscall_made with_task without_call without_listen with_listen with_taken noted with_processor with_health stored copied looked given returned past_syscall bits_added bits_cleared woken posted with_timer clocked with_line closed faulted_as handed task_at line_at register arguments call_of listen_of dead_code_for is_out is_dead is_ready bad_byte chosen offer_by best_sender bytes_at with_bytes copied_memory first_bad words transfers first_refused stores_of loaded_all ones count effect rows narrow_of wide_rows wide_of
nine15 = record { front = refl; all = refl; none = refl }

nine22 : IsSavedAs setup_nine8 22 ((72 ∷ 66 ∷ 83 ∷ 49 ∷ 22 ∷ 0 ∷ 0 ∷ 0 ∷ 3 ∷ 0 ∷ 0 ∷ 0 ∷ 0 ∷ 3 ∷ []) ++ replicate 10 0 ++ (2 ∷ 0 ∷ 0 ∷ 0 ∷ 2 ∷ []) ++ replicate 74 0 ++ (3 ∷ []) ++ replicate 8 0 ++ (1 ∷ []) ++ replicate 23 0 ++ (1 ∷ []) ++ replicate 19 0 ++ (1 ∷ []) ++ replicate 7 0 ++ (64 ∷ 0 ∷ 0 ∷ 32 ∷ 255 ∷ 255 ∷ 255 ∷ 255 ∷ 8 ∷ 0 ∷ 0 ∷ 8 ∷ []) ++ replicate 24 0 ++ (1 ∷ []) ++ replicate 59 0 ++ (7 ∷ []) ++ replicate 7 0 ++ (10 ∷ []) ++ replicate 27 0 ++ (64 ∷ 1 ∷ 0 ∷ 32 ∷ 255 ∷ 255 ∷ 255 ∷ 255 ∷ 12 ∷ 1 ∷ 0 ∷ 8 ∷ []) ++ replicate 68 0 ++ (2 ∷ []) ++ replicate 15 0 ++ (1 ∷ 0 ∷ 0 ∷ 0 ∷ 7 ∷ []) ++ replicate 23 0 ++ (2 ∷ []) ++ replicate 7 0 ++ (64 ∷ 2 ∷ 0 ∷ 32 ∷ 255 ∷ 255 ∷ 255 ∷ 255 ∷ 24 ∷ 2 ∷ 0 ∷ 8 ∷ []) ++ replicate 56 0) 1264
unfolding plain state setup_nine8 header_bytes task_front task_back device_bytes first_from any_below with_call offered sent replied taken_by run ending after_events turn ended stepped begun start with_registers_noted ticked interrupted owner_of panicked timer_set timer_answered irq_controlled received syscall_noted syscall_made with_task without_call without_listen with_listen with_taken noted with_processor with_health stored copied looked given returned past_syscall bits_added bits_cleared woken posted with_timer clocked with_line closed faulted_as handed task_at line_at register arguments call_of listen_of dead_code_for is_out is_dead is_ready bad_byte chosen offer_by best_sender bytes_at with_bytes copied_memory first_bad words transfers first_refused stores_of loaded_all ones count effect rows narrow_of wide_rows wide_of
nine22 = record { front = refl; all = refl; none = refl }

setup_shut : Setup
setup_shut = record {
  tasks = record { priority = 0; entry = 134217729; stack = 536870976; start = true; regions = record { base = 134217728; size = 256; rights = record { read = true; write = false; execute = true; device = false } } ∷ record { base = 536870912; size = 256; rights = record { read = true; write = true; execute = false; device = false } } ∷ [] } ∷ record { priority = 1; entry = 134217985; stack = 536871232; start = true; regions = record { base = 134217984; size = 256; rights = record { read = true; write = false; execute = true; device = false } } ∷ record { base = 536871168; size = 256; rights = record { read = true; write = true; execute = false; device = false } } ∷ [] } ∷ record { priority = 2; entry = 134218241; stack = 536871488; start = true; regions = record { base = 134218240; size = 256; rights = record { read = true; write = false; execute = true; device = false } } ∷ record { base = 536871424; size = 256; rights = record { read = true; write = true; execute = false; device = false } } ∷ [] } ∷ [];
  lines = [];
  fault_bits = 1;
  ram = 768;
  line_count = 64;
  flash = (1 ∷ 38 ∷ 1 ∷ 32 ∷ 131 ∷ 70 ∷ 0 ∷ 223 ∷ []) ++ replicate 248 0 ++ (2 ∷ 36 ∷ 36 ∷ 4 ∷ 9 ∷ 52 ∷ 109 ∷ 70 ∷ 3 ∷ 38 ∷ 0 ∷ 223 ∷ []) ++ replicate 244 0 ++ (1 ∷ 36 ∷ 228 ∷ 7 ∷ 39 ∷ 28 ∷ 0 ∷ 36 ∷ 1 ∷ 32 ∷ 131 ∷ 70 ∷ 0 ∷ 223 ∷ 254 ∷ 231 ∷ []) ++ replicate 240 0;
}

shut : IsSavedAs setup_shut 30 ((72 ∷ 66 ∷ 83 ∷ 49 ∷ 17 ∷ 0 ∷ 0 ∷ 0 ∷ 3 ∷ 0 ∷ 0 ∷ 0 ∷ 0 ∷ 3 ∷ []) ++ replicate 10 0 ++ (2 ∷ 0 ∷ 0 ∷ 0 ∷ 2 ∷ []) ++ replicate 74 0 ++ (3 ∷ []) ++ replicate 8 0 ++ (1 ∷ []) ++ replicate 23 0 ++ (1 ∷ []) ++ replicate 19 0 ++ (1 ∷ []) ++ replicate 7 0 ++ (64 ∷ 0 ∷ 0 ∷ 32 ∷ 255 ∷ 255 ∷ 255 ∷ 255 ∷ 8 ∷ 0 ∷ 0 ∷ 8 ∷ []) ++ replicate 24 0 ++ (1 ∷ []) ++ replicate 34 0 ++ (1 ∷ []) ++ replicate 24 0 ++ (9 ∷ 0 ∷ 2 ∷ 0 ∷ 64 ∷ 1 ∷ 0 ∷ 32 ∷ 3 ∷ []) ++ replicate 27 0 ++ (64 ∷ 1 ∷ 0 ∷ 32 ∷ 255 ∷ 255 ∷ 255 ∷ 255 ∷ 12 ∷ 1 ∷ 0 ∷ 8 ∷ []) ++ replicate 24 0 ++ (1 ∷ 0 ∷ 0 ∷ 0 ∷ 2 ∷ 0 ∷ 9 ∷ 0 ∷ 64 ∷ 1 ∷ 0 ∷ 32 ∷ 3 ∷ []) ++ replicate 22 0 ++ (5 ∷ []) ++ replicate 8 0 ++ (1 ∷ []) ++ replicate 30 0 ++ (128 ∷ []) ++ replicate 12 0 ++ (1 ∷ []) ++ replicate 7 0 ++ (64 ∷ 2 ∷ 0 ∷ 32 ∷ 255 ∷ 255 ∷ 255 ∷ 255 ∷ 14 ∷ 2 ∷ 0 ∷ 8 ∷ []) ++ replicate 56 0) 1264
unfolding plain state setup_shut header_bytes task_front task_back device_bytes first_from any_below with_call offered sent replied taken_by run ending after_events turn ended stepped begun start with_registers_noted ticked interrupted owner_of panicked timer_set timer_answered irq_controlled received syscall_noted syscall_made with_task without_call without_listen with_listen with_taken noted with_processor with_health stored copied looked given returned past_syscall bits_added bits_cleared woken posted with_timer clocked with_line closed faulted_as handed task_at line_at register arguments call_of listen_of dead_code_for is_out is_dead is_ready bad_byte chosen offer_by best_sender bytes_at with_bytes copied_memory first_bad words transfers first_refused stores_of loaded_all ones count effect rows narrow_of wide_rows wide_of
shut = record { front = refl; all = refl; none = refl }
