-- A client that sends three messages to a server, which doubles a word, by computing; the lines come from another program.
use Rattle.std.proofs.Common.{◌≡◌, ℕ, true, false, List, [], ◌∷◌, ◌++◌, None, refl}
use Rattle.std.specs.Prelude.{replicate}
use Rattle.kernel_abi.specs.declared.Ending.TheVariants as ending
use Rattle.kernel_abi.specs.declared.FromIndex.TheVariants as from_index
use Rattle.kernel_abi.specs.declared.Note.{Note}
use Rattle.kernel_abi.specs.declared.Note.TheVariants as note
use Rattle.task_table.specs.model.State.{Setup}
use Rattle.task_table.specs.model.Start.{start}
use Rattle.board_model.specs.declared.outcomes.End.TheVariants.{Still}
use Rattle.board_model.specs.declared.outcomes.Level.TheVariants.{Calls}
use Rattle.board_model.specs.Script.{Scenario}
use Rattle.board_model.specs.Run.{Run, run}
use Rattle.board_model.proofs.Computed.{computed}

setup : Setup
setup = record {
  tasks =
      record { priority = 0; entry = 134217729; stack = 536870976; start = true; regions = record { base = 134217728; size = 256; rights = record { read = true; write = false; execute = true; device = false } } ∷ record { base = 536870912; size = 256; rights = record { read = true; write = true; execute = false; device = false } } ∷ [] } ∷
      record { priority = 1; entry = 134217985; stack = 536871232; start = true; regions = record { base = 134217984; size = 256; rights = record { read = true; write = false; execute = true; device = false } } ∷ record { base = 536871168; size = 256; rights = record { read = true; write = true; execute = false; device = false } } ∷ [] } ∷
      record { priority = 2; entry = 134218241; stack = 536871488; start = true; regions = record { base = 134218240; size = 256; rights = record { read = true; write = false; execute = true; device = false } } ∷ record { base = 536871424; size = 256; rights = record { read = true; write = true; execute = false; device = false } } ∷ [] } ∷
      [];
  lines = [];
  fault_bits = 1;
  ram = 768;
  line_count = 32;
  flash =
      (1 ∷ 38 ∷ 1 ∷ 32 ∷ 131 ∷ 70 ∷ 0 ∷ 223 ∷ []) ++ replicate 248 0 ++
      (108 ∷ 70 ∷ 8 ∷ 37 ∷ 0 ∷ 38 ∷ 0 ∷ 39 ∷ 1 ∷ 32 ∷ 131 ∷ 70 ∷ 0 ∷ 223 ∷ 0 ∷ 153 ∷ 73 ∷ 24 ∷ 0 ∷ 145 ∷ 44 ∷ 70 ∷ 53 ∷ 70 ∷ 110 ∷ 70 ∷ 4 ∷ 39 ∷ 2 ∷ 32 ∷ 131 ∷ 70 ∷ 0 ∷ 223 ∷ 237 ∷ 231 ∷ []) ++ replicate 220 0 ++
      (3 ∷ 35 ∷ 3 ∷ 33 ∷ 0 ∷ 145 ∷ 1 ∷ 36 ∷ 36 ∷ 4 ∷ 5 ∷ 52 ∷ 109 ∷ 70 ∷ 4 ∷ 38 ∷ 111 ∷ 70 ∷ 4 ∷ 32 ∷ 128 ∷ 70 ∷ 0 ∷ 32 ∷ 129 ∷ 70 ∷ 130 ∷ 70 ∷ 131 ∷ 70 ∷ 0 ∷ 223 ∷ 1 ∷ 59 ∷ 240 ∷ 209 ∷ 2 ∷ 79 ∷ 0 ∷ 37 ∷ 0 ∷ 38 ∷ 1 ∷ 32 ∷ 131 ∷ 70 ∷ 0 ∷ 223 ∷ 255 ∷ 255 ∷ 0 ∷ 128 ∷ []) ++ replicate 204 0;
}

scenario : Scenario
scenario = record { setup = setup; script = record { every = None; events = [] }; devices = [] }

expected : List (ℕ × Note)
expected =
    (3, note.Syscall 0 1 (0 ∷ 0 ∷ 1 ∷ 0 ∷ 0 ∷ 0 ∷ 0 ∷ [])) ∷
    (3, note.Listen 0 from_index.Any 1) ∷
    (10, note.Syscall 1 1 (536871232 ∷ 8 ∷ 0 ∷ 0 ∷ 0 ∷ 0 ∷ 0 ∷ [])) ∷
    (10, note.Listen 1 from_index.Any 0) ∷
    (26, note.Syscall 2 0 (65541 ∷ 536871488 ∷ 4 ∷ 536871488 ∷ 4 ∷ 0 ∷ 0 ∷ [])) ∷
    (26, note.Offer 1 2 1) ∷
    (26, note.Take 1 4) ∷
    (26, note.Ret 1 (0 ∷ 2 ∷ 5 ∷ 4 ∷ 4 ∷ 0 ∷ [])) ∷
    (36, note.Syscall 1 2 (2 ∷ 5 ∷ 536871232 ∷ 4 ∷ 4 ∷ 0 ∷ 0 ∷ [])) ∷
    (36, note.Close 1 ending.Reply) ∷
    (36, note.Ret 2 (5 ∷ 4 ∷ 4 ∷ 536871488 ∷ 4 ∷ 0 ∷ [])) ∷
    (36, note.Ret 1 (2 ∷ 5 ∷ 536871232 ∷ 4 ∷ 4 ∷ 0 ∷ [])) ∷
    (44, note.Syscall 1 1 (536871232 ∷ 8 ∷ 0 ∷ 0 ∷ 4 ∷ 0 ∷ 0 ∷ [])) ∷
    (44, note.Listen 1 from_index.Any 0) ∷
    (59, note.Syscall 2 0 (65541 ∷ 536871488 ∷ 4 ∷ 536871488 ∷ 4 ∷ 0 ∷ 0 ∷ [])) ∷
    (59, note.Offer 2 2 1) ∷
    (59, note.Take 2 4) ∷
    (59, note.Ret 1 (0 ∷ 2 ∷ 5 ∷ 4 ∷ 4 ∷ 0 ∷ [])) ∷
    (69, note.Syscall 1 2 (2 ∷ 5 ∷ 536871232 ∷ 4 ∷ 4 ∷ 0 ∷ 0 ∷ [])) ∷
    (69, note.Close 2 ending.Reply) ∷
    (69, note.Ret 2 (5 ∷ 4 ∷ 4 ∷ 536871488 ∷ 4 ∷ 0 ∷ [])) ∷
    (69, note.Ret 1 (2 ∷ 5 ∷ 536871232 ∷ 4 ∷ 4 ∷ 0 ∷ [])) ∷
    (77, note.Syscall 1 1 (536871232 ∷ 8 ∷ 0 ∷ 0 ∷ 4 ∷ 0 ∷ 0 ∷ [])) ∷
    (77, note.Listen 1 from_index.Any 0) ∷
    (92, note.Syscall 2 0 (65541 ∷ 536871488 ∷ 4 ∷ 536871488 ∷ 4 ∷ 0 ∷ 0 ∷ [])) ∷
    (92, note.Offer 3 2 1) ∷
    (92, note.Take 3 4) ∷
    (92, note.Ret 1 (0 ∷ 2 ∷ 5 ∷ 4 ∷ 4 ∷ 0 ∷ [])) ∷
    (102, note.Syscall 1 2 (2 ∷ 5 ∷ 536871232 ∷ 4 ∷ 4 ∷ 0 ∷ 0 ∷ [])) ∷
    (102, note.Close 3 ending.Reply) ∷
    (102, note.Ret 2 (5 ∷ 4 ∷ 4 ∷ 536871488 ∷ 4 ∷ 0 ∷ [])) ∷
    (102, note.Ret 1 (2 ∷ 5 ∷ 536871232 ∷ 4 ∷ 4 ∷ 0 ∷ [])) ∷
    (110, note.Syscall 1 1 (536871232 ∷ 8 ∷ 0 ∷ 0 ∷ 4 ∷ 0 ∷ 0 ∷ [])) ∷
    (110, note.Listen 1 from_index.Any 0) ∷
    (118, note.Syscall 2 1 (5 ∷ 0 ∷ 0 ∷ 2147549183 ∷ 4 ∷ 0 ∷ 0 ∷ [])) ∷
    (118, note.Listen 2 from_index.Kernel 0) ∷
    []

-- the notes, how the run ended, and after how many turns
IsTrace : Run → Type 0
IsTrace r = (r.notes ≡ expected) × (r.end ≡ Still) × (r.last.turn ≡ 119)

agrees : IsTrace (run Calls scenario 200 (start setup))
unfolding setup scenario expected IsTrace computed
agrees = (refl, refl, refl)
