-- Five tasks of mixed priority with timers, an interrupt line and receives, by computing; the lines come from another program.
use Rattle.std.proofs.Common.{◌≡◌, ℕ, true, false, List, [], ◌∷◌, ◌++◌, Some, refl}
use Rattle.std.specs.Prelude.{replicate}
use Rattle.kernel_abi.specs.declared.Handled.TheVariants as handled
use Rattle.kernel_abi.specs.declared.FromIndex.TheVariants as from_index
use Rattle.kernel_abi.specs.declared.Note.{Note}
use Rattle.kernel_abi.specs.declared.Note.TheVariants as note
use Rattle.run_script.specs.declared.events.Event.TheVariants.{Tick, Irq}
use Rattle.task_table.specs.model.State.{Setup}
use Rattle.task_table.specs.model.Start.{start}
use Rattle.board_model.specs.declared.outcomes.End.TheVariants.{Bound}
use Rattle.board_model.specs.declared.outcomes.Level.TheVariants.{Calls}
use Rattle.board_model.specs.Script.{Scenario}
use Rattle.board_model.specs.Run.{Run, run}
use Rattle.board_model.proofs.Computed.{computed}

unfoldable pub setup : Setup
setup = record {
  tasks =
      record { priority = 0; entry = 134217729; stack = 536870976; start = true; regions = record { base = 134217728; size = 256; rights = record { read = true; write = false; execute = true; device = false } } ∷ record { base = 536870912; size = 256; rights = record { read = true; write = true; execute = false; device = false } } ∷ [] } ∷
      record { priority = 1; entry = 134217985; stack = 536871232; start = true; regions = record { base = 134217984; size = 256; rights = record { read = true; write = false; execute = true; device = false } } ∷ record { base = 536871168; size = 256; rights = record { read = true; write = true; execute = false; device = false } } ∷ [] } ∷
      record { priority = 2; entry = 134218241; stack = 536871488; start = true; regions = record { base = 134218240; size = 256; rights = record { read = true; write = false; execute = true; device = false } } ∷ record { base = 536871424; size = 256; rights = record { read = true; write = true; execute = false; device = false } } ∷ [] } ∷
      record { priority = 2; entry = 134218497; stack = 536871744; start = true; regions = record { base = 134218496; size = 256; rights = record { read = true; write = false; execute = true; device = false } } ∷ record { base = 536871680; size = 256; rights = record { read = true; write = true; execute = false; device = false } } ∷ [] } ∷
      record { priority = 3; entry = 134218753; stack = 536872000; start = true; regions = record { base = 134218752; size = 256; rights = record { read = true; write = false; execute = true; device = false } } ∷ record { base = 536871936; size = 256; rights = record { read = true; write = true; execute = false; device = false } } ∷ [] } ∷
      [];
  lines = record { line = 7; owner = 2; bits = 1; device = 0 } ∷ [];
  fault_bits = 1;
  ram = 1280;
  line_count = 32;
  flash =
      (0 ∷ 36 ∷ 0 ∷ 37 ∷ 1 ∷ 38 ∷ 0 ∷ 39 ∷ 1 ∷ 32 ∷ 131 ∷ 70 ∷ 0 ∷ 223 ∷ 247 ∷ 231 ∷ []) ++ replicate 240 0 ++
      (0 ∷ 35 ∷ 9 ∷ 32 ∷ 131 ∷ 70 ∷ 0 ∷ 223 ∷ 165 ∷ 28 ∷ 0 ∷ 38 ∷ 1 ∷ 36 ∷ 2 ∷ 39 ∷ 3 ∷ 32 ∷ 131 ∷ 70 ∷ 0 ∷ 223 ∷ 0 ∷ 36 ∷ 0 ∷ 37 ∷ 2 ∷ 38 ∷ 0 ∷ 39 ∷ 1 ∷ 32 ∷ 131 ∷ 70 ∷ 0 ∷ 223 ∷ 1 ∷ 51 ∷ 236 ∷ 231 ∷ []) ++ replicate 216 0 ++
      (1 ∷ 36 ∷ 1 ∷ 37 ∷ 7 ∷ 32 ∷ 131 ∷ 70 ∷ 0 ∷ 223 ∷ 108 ∷ 70 ∷ 8 ∷ 37 ∷ 1 ∷ 38 ∷ 1 ∷ 39 ∷ 255 ∷ 7 ∷ 4 ∷ 55 ∷ 1 ∷ 32 ∷ 131 ∷ 70 ∷ 0 ∷ 223 ∷ 240 ∷ 231 ∷ []) ++ replicate 226 0 ++
      (0 ∷ 35 ∷ 110 ∷ 70 ∷ 8 ∷ 62 ∷ 51 ∷ 96 ∷ 1 ∷ 51 ∷ 4 ∷ 43 ∷ 251 ∷ 209 ∷ 72 ∷ 181 ∷ 72 ∷ 188 ∷ 1 ∷ 176 ∷ 1 ∷ 36 ∷ 0 ∷ 37 ∷ 4 ∷ 39 ∷ 0 ∷ 38 ∷ 3 ∷ 32 ∷ 131 ∷ 70 ∷ 0 ∷ 223 ∷ 0 ∷ 36 ∷ 4 ∷ 38 ∷ 0 ∷ 39 ∷ 1 ∷ 32 ∷ 131 ∷ 70 ∷ 0 ∷ 223 ∷ 6 ∷ 38 ∷ 231 ∷ 67 ∷ 0 ∷ 37 ∷ 0 ∷ 223 ∷ 3 ∷ 222 ∷ []) ++ replicate 200 0 ++
      (40 ∷ 35 ∷ 1 ∷ 59 ∷ 253 ∷ 209 ∷ 88 ∷ 104 ∷ []) ++ replicate 248 0;
}

unfoldable pub scenario : Scenario
scenario = record {
  setup = setup;
  script = record { every = Some 30; events = (5, Irq 7) ∷ (90, Irq 7) ∷ (90, Irq 7) ∷ (91, Tick) ∷ (150, Irq 8) ∷ (171, Irq 7) ∷ [] };
  devices = [];
}

expected : List (ℕ × Note)
expected =
    (5, note.Irq 7 handled.Held) ∷
    (6, note.Syscall 0 1 (0 ∷ 0 ∷ 1 ∷ 0 ∷ 0 ∷ 0 ∷ 0 ∷ [])) ∷
    (6, note.Listen 0 from_index.Any 1) ∷
    (10, note.Syscall 1 9 (0 ∷ 0 ∷ 0 ∷ 0 ∷ 0 ∷ 0 ∷ 0 ∷ [])) ∷
    (10, note.Ret 1 (0 ∷ 0 ∷ 0 ∷ 0 ∷ 0 ∷ 0 ∷ [])) ∷
    (17, note.Syscall 1 3 (1 ∷ 2 ∷ 0 ∷ 2 ∷ 0 ∷ 0 ∷ 0 ∷ [])) ∷
    (17, note.Ret 1 (1 ∷ 2 ∷ 0 ∷ 2 ∷ 0 ∷ 0 ∷ [])) ∷
    (24, note.Syscall 1 1 (0 ∷ 0 ∷ 2 ∷ 0 ∷ 0 ∷ 0 ∷ 0 ∷ [])) ∷
    (24, note.Listen 1 from_index.Any 2) ∷
    (29, note.Syscall 2 7 (1 ∷ 1 ∷ 0 ∷ 0 ∷ 0 ∷ 0 ∷ 0 ∷ [])) ∷
    (29, note.Post 2 1 1) ∷
    (29, note.Ret 2 (1 ∷ 1 ∷ 0 ∷ 0 ∷ 0 ∷ 0 ∷ [])) ∷
    (30, note.Tick 1) ∷
    (38, note.Syscall 2 1 (536871488 ∷ 8 ∷ 1 ∷ 2147483652 ∷ 0 ∷ 0 ∷ 0 ∷ [])) ∷
    (38, note.Ret 2 (0 ∷ 65535 ∷ 1 ∷ 0 ∷ 0 ∷ 0 ∷ [])) ∷
    (44, note.Syscall 2 7 (1 ∷ 1 ∷ 1 ∷ 0 ∷ 0 ∷ 0 ∷ 0 ∷ [])) ∷
    (44, note.Ret 2 (1 ∷ 1 ∷ 1 ∷ 0 ∷ 0 ∷ 0 ∷ [])) ∷
    (53, note.Syscall 2 1 (536871488 ∷ 8 ∷ 1 ∷ 2147483652 ∷ 0 ∷ 0 ∷ 0 ∷ [])) ∷
    (53, note.Listen 2 (from_index.One 4) 1) ∷
    (60, note.Tick 2) ∷
    (60, note.Post 1 2 2) ∷
    (60, note.Ret 1 (0 ∷ 65535 ∷ 2 ∷ 0 ∷ 0 ∷ 0 ∷ [])) ∷
    (64, note.Syscall 1 9 (0 ∷ 65535 ∷ 2 ∷ 0 ∷ 0 ∷ 0 ∷ 0 ∷ [])) ∷
    (64, note.Ret 1 (2 ∷ 0 ∷ 0 ∷ 0 ∷ 0 ∷ 0 ∷ [])) ∷
    (71, note.Syscall 1 3 (1 ∷ 4 ∷ 0 ∷ 2 ∷ 0 ∷ 0 ∷ 0 ∷ [])) ∷
    (71, note.Ret 1 (1 ∷ 4 ∷ 0 ∷ 2 ∷ 0 ∷ 0 ∷ [])) ∷
    (78, note.Syscall 1 1 (0 ∷ 0 ∷ 2 ∷ 0 ∷ 0 ∷ 0 ∷ 0 ∷ [])) ∷
    (78, note.Listen 1 from_index.Any 2) ∷
    (90, note.Tick 3) ∷
    (90, note.Irq 7 handled.Posted) ∷
    (90, note.Post 2 1 1) ∷
    (90, note.Ret 2 (0 ∷ 65535 ∷ 1 ∷ 0 ∷ 0 ∷ 0 ∷ [])) ∷
    (90, note.Irq 7 handled.Held) ∷
    (91, note.Tick 4) ∷
    (91, note.Post 1 2 2) ∷
    (91, note.Ret 1 (0 ∷ 65535 ∷ 2 ∷ 0 ∷ 0 ∷ 0 ∷ [])) ∷
    (95, note.Syscall 1 9 (0 ∷ 65535 ∷ 2 ∷ 0 ∷ 0 ∷ 0 ∷ 0 ∷ [])) ∷
    (95, note.Ret 1 (4 ∷ 0 ∷ 0 ∷ 0 ∷ 0 ∷ 0 ∷ [])) ∷
    (102, note.Syscall 1 3 (1 ∷ 6 ∷ 0 ∷ 2 ∷ 0 ∷ 0 ∷ 0 ∷ [])) ∷
    (102, note.Ret 1 (1 ∷ 6 ∷ 0 ∷ 2 ∷ 0 ∷ 0 ∷ [])) ∷
    (109, note.Syscall 1 1 (0 ∷ 0 ∷ 2 ∷ 0 ∷ 0 ∷ 0 ∷ 0 ∷ [])) ∷
    (109, note.Listen 1 from_index.Any 2) ∷
    (115, note.Syscall 2 7 (1 ∷ 1 ∷ 1 ∷ 0 ∷ 0 ∷ 0 ∷ 0 ∷ [])) ∷
    (115, note.Post 2 1 1) ∷
    (115, note.Ret 2 (1 ∷ 1 ∷ 1 ∷ 0 ∷ 0 ∷ 0 ∷ [])) ∷
    (120, note.Tick 5) ∷
    (124, note.Syscall 2 1 (536871488 ∷ 8 ∷ 1 ∷ 2147483652 ∷ 0 ∷ 0 ∷ 0 ∷ [])) ∷
    (124, note.Ret 2 (0 ∷ 65535 ∷ 1 ∷ 0 ∷ 0 ∷ 0 ∷ [])) ∷
    (130, note.Syscall 2 7 (1 ∷ 1 ∷ 1 ∷ 0 ∷ 0 ∷ 0 ∷ 0 ∷ [])) ∷
    (130, note.Ret 2 (1 ∷ 1 ∷ 1 ∷ 0 ∷ 0 ∷ 0 ∷ [])) ∷
    (139, note.Syscall 2 1 (536871488 ∷ 8 ∷ 1 ∷ 2147483652 ∷ 0 ∷ 0 ∷ 0 ∷ [])) ∷
    (139, note.Listen 2 (from_index.One 4) 1) ∷
    (150, note.Tick 6) ∷
    (150, note.Post 1 2 2) ∷
    (150, note.Ret 1 (0 ∷ 65535 ∷ 2 ∷ 0 ∷ 0 ∷ 0 ∷ [])) ∷
    (150, note.Irq 8 handled.Unowned) ∷
    (154, note.Syscall 1 9 (0 ∷ 65535 ∷ 2 ∷ 0 ∷ 0 ∷ 0 ∷ 0 ∷ [])) ∷
    (154, note.Ret 1 (6 ∷ 0 ∷ 0 ∷ 0 ∷ 0 ∷ 0 ∷ [])) ∷
    (161, note.Syscall 1 3 (1 ∷ 8 ∷ 0 ∷ 2 ∷ 0 ∷ 0 ∷ 0 ∷ [])) ∷
    (161, note.Ret 1 (1 ∷ 8 ∷ 0 ∷ 2 ∷ 0 ∷ 0 ∷ [])) ∷
    (168, note.Syscall 1 1 (0 ∷ 0 ∷ 2 ∷ 0 ∷ 0 ∷ 0 ∷ 0 ∷ [])) ∷
    (168, note.Listen 1 from_index.Any 2) ∷
    (169, note.Syscall 3 3 (1 ∷ 0 ∷ 0 ∷ 4 ∷ 0 ∷ 0 ∷ 0 ∷ [])) ∷
    (169, note.Post 3 4 4) ∷
    (169, note.Ret 3 (1 ∷ 0 ∷ 0 ∷ 4 ∷ 0 ∷ 0 ∷ [])) ∷
    (171, note.Irq 7 handled.Posted) ∷
    (171, note.Post 2 1 1) ∷
    (171, note.Ret 2 (0 ∷ 65535 ∷ 1 ∷ 0 ∷ 0 ∷ 0 ∷ [])) ∷
    (175, note.Syscall 3 1 (0 ∷ 0 ∷ 4 ∷ 0 ∷ 0 ∷ 0 ∷ 0 ∷ [])) ∷
    (175, note.Ret 3 (0 ∷ 65535 ∷ 4 ∷ 0 ∷ 0 ∷ 0 ∷ [])) ∷
    (179, note.Syscall 3 1 (0 ∷ 0 ∷ 6 ∷ 4294967295 ∷ 0 ∷ 0 ∷ 0 ∷ [])) ∷
    (179, note.Listen 3 from_index.Kernel 6) ∷
    (180, note.Tick 7) ∷
    (185, note.Syscall 2 7 (1 ∷ 1 ∷ 1 ∷ 0 ∷ 0 ∷ 0 ∷ 0 ∷ [])) ∷
    (185, note.Ret 2 (1 ∷ 1 ∷ 1 ∷ 0 ∷ 0 ∷ 0 ∷ [])) ∷
    (194, note.Syscall 2 1 (536871488 ∷ 8 ∷ 1 ∷ 2147483652 ∷ 0 ∷ 0 ∷ 0 ∷ [])) ∷
    (194, note.Listen 2 (from_index.One 4) 1) ∷
    (210, note.Tick 8) ∷
    (210, note.Post 1 2 2) ∷
    (210, note.Ret 1 (0 ∷ 65535 ∷ 2 ∷ 0 ∷ 0 ∷ 0 ∷ [])) ∷
    (214, note.Syscall 1 9 (0 ∷ 65535 ∷ 2 ∷ 0 ∷ 0 ∷ 0 ∷ 0 ∷ [])) ∷
    (214, note.Ret 1 (8 ∷ 0 ∷ 0 ∷ 0 ∷ 0 ∷ 0 ∷ [])) ∷
    (221, note.Syscall 1 3 (1 ∷ 10 ∷ 0 ∷ 2 ∷ 0 ∷ 0 ∷ 0 ∷ [])) ∷
    (221, note.Ret 1 (1 ∷ 10 ∷ 0 ∷ 2 ∷ 0 ∷ 0 ∷ [])) ∷
    (228, note.Syscall 1 1 (0 ∷ 0 ∷ 2 ∷ 0 ∷ 0 ∷ 0 ∷ 0 ∷ [])) ∷
    (228, note.Listen 1 from_index.Any 2) ∷
    (240, note.Tick 9) ∷
    (270, note.Tick 10) ∷
    (270, note.Post 1 2 2) ∷
    (270, note.Ret 1 (0 ∷ 65535 ∷ 2 ∷ 0 ∷ 0 ∷ 0 ∷ [])) ∷
    (274, note.Syscall 1 9 (0 ∷ 65535 ∷ 2 ∷ 0 ∷ 0 ∷ 0 ∷ 0 ∷ [])) ∷
    (274, note.Ret 1 (10 ∷ 0 ∷ 0 ∷ 0 ∷ 0 ∷ 0 ∷ [])) ∷
    (281, note.Syscall 1 3 (1 ∷ 12 ∷ 0 ∷ 2 ∷ 0 ∷ 0 ∷ 0 ∷ [])) ∷
    (281, note.Ret 1 (1 ∷ 12 ∷ 0 ∷ 2 ∷ 0 ∷ 0 ∷ [])) ∷
    (288, note.Syscall 1 1 (0 ∷ 0 ∷ 2 ∷ 0 ∷ 0 ∷ 0 ∷ 0 ∷ [])) ∷
    (288, note.Listen 1 from_index.Any 2) ∷
    (300, note.Tick 11) ∷
    (314, note.Fault 4 record { number = 3; x = 4; y = 0 }) ∷
    (314, note.Post 0 1 1) ∷
    (314, note.Ret 0 (0 ∷ 65535 ∷ 1 ∷ 0 ∷ 0 ∷ 0 ∷ [])) ∷
    (322, note.Syscall 0 1 (0 ∷ 0 ∷ 1 ∷ 0 ∷ 0 ∷ 0 ∷ 0 ∷ [])) ∷
    (322, note.Listen 0 from_index.Any 1) ∷
    (330, note.Tick 12) ∷
    (330, note.Post 1 2 2) ∷
    (330, note.Ret 1 (0 ∷ 65535 ∷ 2 ∷ 0 ∷ 0 ∷ 0 ∷ [])) ∷
    (334, note.Syscall 1 9 (0 ∷ 65535 ∷ 2 ∷ 0 ∷ 0 ∷ 0 ∷ 0 ∷ [])) ∷
    (334, note.Ret 1 (12 ∷ 0 ∷ 0 ∷ 0 ∷ 0 ∷ 0 ∷ [])) ∷
    []

-- the notes, how the run ended, and the time then
IsTrace : Run → Type 0
IsTrace r = (r.notes ≡ expected) × (r.end ≡ Bound) × (r.last.now ≡ 12)

agrees : IsTrace (run Calls scenario 340 (start setup))
unfolding setup scenario expected IsTrace computed
agrees = (refl, refl, refl)
