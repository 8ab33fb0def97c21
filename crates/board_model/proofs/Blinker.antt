-- The blinker of examples/ with its timer and its button, by computing; the lines come from another program.
use Rattle.std.proofs.Common.{◌≡◌, ℕ, true, false, List, [], ◌∷◌, ◌++◌, Some, refl}
use Rattle.std.specs.Prelude.{replicate}
use Rattle.kernel_abi.specs.declared.Handled.TheVariants as handled
use Rattle.kernel_abi.specs.declared.FromIndex.TheVariants as from_index
use Rattle.kernel_abi.specs.declared.Note.{Note}
use Rattle.kernel_abi.specs.declared.Note.TheVariants as note
use Rattle.run_script.specs.declared.events.Event.TheVariants.{Irq}
use Rattle.task_table.specs.model.State.{Setup}
use Rattle.task_table.specs.model.Start.{start}
use Rattle.board_model.specs.declared.outcomes.End.TheVariants.{Bound}
use Rattle.board_model.specs.declared.outcomes.Level.TheVariants.{Calls}
use Rattle.board_model.specs.Script.{Scenario}
use Rattle.board_model.specs.Run.{Run, run}
use Rattle.board_model.proofs.Computed.{computed}

setup : Setup
setup = record {
  tasks =
      record { priority = 0; entry = 134217729; stack = 536870976; start = true; regions = record { base = 134217728; size = 256; rights = record { read = true; write = false; execute = true; device = false } } ∷ record { base = 536870912; size = 256; rights = record { read = true; write = true; execute = false; device = false } } ∷ [] } ∷
      record { priority = 1; entry = 134217985; stack = 536871232; start = true; regions = record { base = 134217984; size = 256; rights = record { read = true; write = false; execute = true; device = false } } ∷ record { base = 536871168; size = 256; rights = record { read = true; write = true; execute = false; device = false } } ∷ record { base = 1342177280; size = 256; rights = record { read = true; write = true; execute = false; device = true } } ∷ [] } ∷
      [];
  lines = record { line = 5; owner = 1; bits = 2; device = 0 } ∷ [];
  fault_bits = 1;
  ram = 512;
  line_count = 32;
  flash =
      (0 ∷ 36 ∷ 0 ∷ 37 ∷ 1 ∷ 38 ∷ 3 ∷ 79 ∷ 1 ∷ 32 ∷ 131 ∷ 70 ∷ 0 ∷ 223 ∷ 8 ∷ 32 ∷ 131 ∷ 70 ∷ 0 ∷ 223 ∷ 255 ∷ 255 ∷ 0 ∷ 128 ∷ []) ++ replicate 232 0 ++
      (24 ∷ 75 ∷ 4 ∷ 34 ∷ 0 ∷ 33 ∷ 2 ∷ 36 ∷ 1 ∷ 37 ∷ 7 ∷ 32 ∷ 131 ∷ 70 ∷ 0 ∷ 223 ∷ 9 ∷ 32 ∷ 131 ∷ 70 ∷ 0 ∷ 223 ∷ 0 ∷ 32 ∷ 164 ∷ 24 ∷ 69 ∷ 65 ∷ 46 ∷ 70 ∷ 37 ∷ 70 ∷ 1 ∷ 36 ∷ 1 ∷ 39 ∷ 3 ∷ 32 ∷ 131 ∷ 70 ∷ 0 ∷ 223 ∷ 0 ∷ 36 ∷ 0 ∷ 37 ∷ 1 ∷ 38 ∷ 2 ∷ 32 ∷ 6 ∷ 67 ∷ 13 ∷ 79 ∷ 1 ∷ 32 ∷ 131 ∷ 70 ∷ 0 ∷ 223 ∷ 2 ∷ 32 ∷ 6 ∷ 66 ∷ 7 ∷ 208 ∷ 82 ∷ 8 ∷ 0 ∷ 209 ∷ 4 ∷ 34 ∷ 2 ∷ 36 ∷ 1 ∷ 37 ∷ 7 ∷ 32 ∷ 131 ∷ 70 ∷ 0 ∷ 223 ∷ 1 ∷ 32 ∷ 6 ∷ 66 ∷ 232 ∷ 208 ∷ 1 ∷ 49 ∷ 25 ∷ 96 ∷ 2 ∷ 72 ∷ 1 ∷ 96 ∷ 214 ∷ 231 ∷ 0 ∷ 0 ∷ 0 ∷ 0 ∷ 0 ∷ 80 ∷ 64 ∷ 1 ∷ 0 ∷ 32 ∷ 255 ∷ 255 ∷ 0 ∷ 128 ∷ []) ++ replicate 144 0;
}

scenario : Scenario
scenario = record {
  setup = setup;
  script = record { every = Some 30; events = (200, Irq 5) ∷ (400, Irq 5) ∷ (403, Irq 5) ∷ (500, Irq 9) ∷ [] };
  devices = [];
}

expected : List (ℕ × Note)
expected =
    (6, note.Syscall 0 1 (0 ∷ 0 ∷ 1 ∷ 2147549183 ∷ 0 ∷ 0 ∷ 0 ∷ [])) ∷
    (6, note.Listen 0 from_index.Kernel 1) ∷
    (14, note.Syscall 1 7 (2 ∷ 1 ∷ 0 ∷ 0 ∷ 0 ∷ 0 ∷ 0 ∷ [])) ∷
    (14, note.Ret 1 (2 ∷ 1 ∷ 0 ∷ 0 ∷ 0 ∷ 0 ∷ [])) ∷
    (17, note.Syscall 1 9 (2 ∷ 1 ∷ 0 ∷ 0 ∷ 0 ∷ 0 ∷ 0 ∷ [])) ∷
    (17, note.Ret 1 (0 ∷ 0 ∷ 0 ∷ 0 ∷ 0 ∷ 0 ∷ [])) ∷
    (27, note.Syscall 1 3 (1 ∷ 4 ∷ 0 ∷ 1 ∷ 0 ∷ 0 ∷ 0 ∷ [])) ∷
    (27, note.Ret 1 (1 ∷ 4 ∷ 0 ∷ 1 ∷ 0 ∷ 0 ∷ [])) ∷
    (30, note.Tick 1) ∷
    (36, note.Syscall 1 1 (0 ∷ 0 ∷ 3 ∷ 2147549183 ∷ 0 ∷ 0 ∷ 0 ∷ [])) ∷
    (36, note.Listen 1 from_index.Kernel 3) ∷
    (60, note.Tick 2) ∷
    (90, note.Tick 3) ∷
    (120, note.Tick 4) ∷
    (120, note.Post 1 1 1) ∷
    (120, note.Ret 1 (0 ∷ 65535 ∷ 1 ∷ 0 ∷ 0 ∷ 0 ∷ [])) ∷
    (133, note.Syscall 1 9 (0 ∷ 65535 ∷ 1 ∷ 0 ∷ 0 ∷ 0 ∷ 0 ∷ [])) ∷
    (133, note.Ret 1 (4 ∷ 0 ∷ 0 ∷ 0 ∷ 0 ∷ 0 ∷ [])) ∷
    (143, note.Syscall 1 3 (1 ∷ 8 ∷ 0 ∷ 1 ∷ 0 ∷ 0 ∷ 0 ∷ [])) ∷
    (143, note.Ret 1 (1 ∷ 8 ∷ 0 ∷ 1 ∷ 0 ∷ 0 ∷ [])) ∷
    (150, note.Tick 5) ∷
    (152, note.Syscall 1 1 (0 ∷ 0 ∷ 3 ∷ 2147549183 ∷ 0 ∷ 0 ∷ 0 ∷ [])) ∷
    (152, note.Listen 1 from_index.Kernel 3) ∷
    (180, note.Tick 6) ∷
    (200, note.Irq 5 handled.Posted) ∷
    (200, note.Post 1 2 2) ∷
    (200, note.Ret 1 (0 ∷ 65535 ∷ 2 ∷ 0 ∷ 0 ∷ 0 ∷ [])) ∷
    (209, note.Syscall 1 7 (2 ∷ 1 ∷ 2 ∷ 0 ∷ 0 ∷ 0 ∷ 0 ∷ [])) ∷
    (209, note.Ret 1 (2 ∷ 1 ∷ 2 ∷ 0 ∷ 0 ∷ 0 ∷ [])) ∷
    (210, note.Tick 7) ∷
    (221, note.Syscall 1 1 (0 ∷ 0 ∷ 3 ∷ 2147549183 ∷ 0 ∷ 0 ∷ 0 ∷ [])) ∷
    (221, note.Listen 1 from_index.Kernel 3) ∷
    (240, note.Tick 8) ∷
    (240, note.Post 1 1 1) ∷
    (240, note.Ret 1 (0 ∷ 65535 ∷ 1 ∷ 0 ∷ 0 ∷ 0 ∷ [])) ∷
    (253, note.Syscall 1 9 (0 ∷ 65535 ∷ 1 ∷ 0 ∷ 0 ∷ 0 ∷ 0 ∷ [])) ∷
    (253, note.Ret 1 (8 ∷ 0 ∷ 0 ∷ 0 ∷ 0 ∷ 0 ∷ [])) ∷
    (263, note.Syscall 1 3 (1 ∷ 10 ∷ 0 ∷ 1 ∷ 0 ∷ 0 ∷ 0 ∷ [])) ∷
    (263, note.Ret 1 (1 ∷ 10 ∷ 0 ∷ 1 ∷ 0 ∷ 0 ∷ [])) ∷
    (270, note.Tick 9) ∷
    (272, note.Syscall 1 1 (0 ∷ 0 ∷ 3 ∷ 2147549183 ∷ 0 ∷ 0 ∷ 0 ∷ [])) ∷
    (272, note.Listen 1 from_index.Kernel 3) ∷
    (300, note.Tick 10) ∷
    (300, note.Post 1 1 1) ∷
    (300, note.Ret 1 (0 ∷ 65535 ∷ 1 ∷ 0 ∷ 0 ∷ 0 ∷ [])) ∷
    (313, note.Syscall 1 9 (0 ∷ 65535 ∷ 1 ∷ 0 ∷ 0 ∷ 0 ∷ 0 ∷ [])) ∷
    (313, note.Ret 1 (10 ∷ 0 ∷ 0 ∷ 0 ∷ 0 ∷ 0 ∷ [])) ∷
    (323, note.Syscall 1 3 (1 ∷ 12 ∷ 0 ∷ 1 ∷ 0 ∷ 0 ∷ 0 ∷ [])) ∷
    (323, note.Ret 1 (1 ∷ 12 ∷ 0 ∷ 1 ∷ 0 ∷ 0 ∷ [])) ∷
    (330, note.Tick 11) ∷
    (332, note.Syscall 1 1 (0 ∷ 0 ∷ 3 ∷ 2147549183 ∷ 0 ∷ 0 ∷ 0 ∷ [])) ∷
    (332, note.Listen 1 from_index.Kernel 3) ∷
    (360, note.Tick 12) ∷
    (360, note.Post 1 1 1) ∷
    (360, note.Ret 1 (0 ∷ 65535 ∷ 1 ∷ 0 ∷ 0 ∷ 0 ∷ [])) ∷
    (373, note.Syscall 1 9 (0 ∷ 65535 ∷ 1 ∷ 0 ∷ 0 ∷ 0 ∷ 0 ∷ [])) ∷
    (373, note.Ret 1 (12 ∷ 0 ∷ 0 ∷ 0 ∷ 0 ∷ 0 ∷ [])) ∷
    (383, note.Syscall 1 3 (1 ∷ 14 ∷ 0 ∷ 1 ∷ 0 ∷ 0 ∷ 0 ∷ [])) ∷
    (383, note.Ret 1 (1 ∷ 14 ∷ 0 ∷ 1 ∷ 0 ∷ 0 ∷ [])) ∷
    (390, note.Tick 13) ∷
    (392, note.Syscall 1 1 (0 ∷ 0 ∷ 3 ∷ 2147549183 ∷ 0 ∷ 0 ∷ 0 ∷ [])) ∷
    (392, note.Listen 1 from_index.Kernel 3) ∷
    (400, note.Irq 5 handled.Posted) ∷
    (400, note.Post 1 2 2) ∷
    (400, note.Ret 1 (0 ∷ 65535 ∷ 2 ∷ 0 ∷ 0 ∷ 0 ∷ [])) ∷
    (403, note.Irq 5 handled.Held) ∷
    (409, note.Syscall 1 7 (2 ∷ 1 ∷ 2 ∷ 0 ∷ 0 ∷ 0 ∷ 0 ∷ [])) ∷
    (409, note.Post 1 2 2) ∷
    (409, note.Ret 1 (2 ∷ 1 ∷ 2 ∷ 0 ∷ 0 ∷ 0 ∷ [])) ∷
    (420, note.Tick 14) ∷
    (420, note.Post 1 1 3) ∷
    (421, note.Syscall 1 1 (0 ∷ 0 ∷ 3 ∷ 2147549183 ∷ 0 ∷ 0 ∷ 0 ∷ [])) ∷
    (421, note.Ret 1 (0 ∷ 65535 ∷ 3 ∷ 0 ∷ 0 ∷ 0 ∷ [])) ∷
    (432, note.Syscall 1 7 (2 ∷ 1 ∷ 3 ∷ 0 ∷ 0 ∷ 0 ∷ 0 ∷ [])) ∷
    (432, note.Ret 1 (2 ∷ 1 ∷ 3 ∷ 0 ∷ 0 ∷ 0 ∷ [])) ∷
    (443, note.Syscall 1 9 (2 ∷ 1 ∷ 3 ∷ 0 ∷ 0 ∷ 0 ∷ 0 ∷ [])) ∷
    (443, note.Ret 1 (14 ∷ 0 ∷ 0 ∷ 0 ∷ 0 ∷ 0 ∷ [])) ∷
    (450, note.Tick 15) ∷
    (453, note.Syscall 1 3 (1 ∷ 18 ∷ 0 ∷ 1 ∷ 0 ∷ 0 ∷ 0 ∷ [])) ∷
    (453, note.Ret 1 (1 ∷ 18 ∷ 0 ∷ 1 ∷ 0 ∷ 0 ∷ [])) ∷
    (462, note.Syscall 1 1 (0 ∷ 0 ∷ 3 ∷ 2147549183 ∷ 0 ∷ 0 ∷ 0 ∷ [])) ∷
    (462, note.Listen 1 from_index.Kernel 3) ∷
    (480, note.Tick 16) ∷
    (500, note.Irq 9 handled.Unowned) ∷
    (510, note.Tick 17) ∷
    (540, note.Tick 18) ∷
    (540, note.Post 1 1 1) ∷
    (540, note.Ret 1 (0 ∷ 65535 ∷ 1 ∷ 0 ∷ 0 ∷ 0 ∷ [])) ∷
    (553, note.Syscall 1 9 (0 ∷ 65535 ∷ 1 ∷ 0 ∷ 0 ∷ 0 ∷ 0 ∷ [])) ∷
    (553, note.Ret 1 (18 ∷ 0 ∷ 0 ∷ 0 ∷ 0 ∷ 0 ∷ [])) ∷
    (563, note.Syscall 1 3 (1 ∷ 22 ∷ 0 ∷ 1 ∷ 0 ∷ 0 ∷ 0 ∷ [])) ∷
    (563, note.Ret 1 (1 ∷ 22 ∷ 0 ∷ 1 ∷ 0 ∷ 0 ∷ [])) ∷
    (570, note.Tick 19) ∷
    (572, note.Syscall 1 1 (0 ∷ 0 ∷ 3 ∷ 2147549183 ∷ 0 ∷ 0 ∷ 0 ∷ [])) ∷
    (572, note.Listen 1 from_index.Kernel 3) ∷
    []

-- the notes, how the run ended, and the time then
IsTrace : Run → Type 0
IsTrace r = (r.notes ≡ expected) × (r.end ≡ Bound) × (r.last.now ≡ 19)

agrees : IsTrace (run Calls scenario 600 (start setup))
unfolding setup scenario expected IsTrace computed
agrees = (refl, refl, refl)
