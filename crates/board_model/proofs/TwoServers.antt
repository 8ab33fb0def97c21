-- Five clients of mixed priority at two servers, by computing; the lines come from another program.
use Rattle.std.proofs.Common.{◌≡◌, ℕ, true, false, List, [], ◌∷◌, ◌++◌, None, refl}
use Rattle.std.specs.Prelude.{replicate}
use Rattle.kernel_abi.specs.declared.Ending.TheVariants as ending
use Rattle.kernel_abi.specs.declared.FromIndex.TheVariants as from_index
use Rattle.kernel_abi.specs.declared.Note.{Note}
use Rattle.kernel_abi.specs.declared.Note.TheVariants as note
use Rattle.task_table.specs.model.State.{Setup}
use Rattle.task_table.specs.model.Start.{start}
use Rattle.board_model.specs.declared.outcomes.End.TheVariants.{Bound}
use Rattle.board_model.specs.declared.outcomes.Level.TheVariants.{Calls}
use Rattle.board_model.specs.Script.{Scenario}
use Rattle.board_model.specs.Run.{Run, run}
use Rattle.board_model.proofs.Computed.{computed}

setup : Setup
setup = record {
  tasks =
      record { priority = 0; entry = 134217729; stack = 536870976; start = true; regions = record { base = 134217728; size = 256; rights = record { read = true; write = false; execute = true; device = false } } ∷ record { base = 536870912; size = 256; rights = record { read = true; write = true; execute = false; device = false } } ∷ [] } ∷
      record { priority = 6; entry = 134217985; stack = 536871232; start = true; regions = record { base = 134217984; size = 256; rights = record { read = true; write = false; execute = true; device = false } } ∷ record { base = 536871168; size = 256; rights = record { read = true; write = true; execute = false; device = false } } ∷ [] } ∷
      record { priority = 4; entry = 134218241; stack = 536871488; start = true; regions = record { base = 134218240; size = 256; rights = record { read = true; write = false; execute = true; device = false } } ∷ record { base = 536871424; size = 256; rights = record { read = true; write = true; execute = false; device = false } } ∷ [] } ∷
      record { priority = 5; entry = 134218497; stack = 536871744; start = true; regions = record { base = 134218496; size = 256; rights = record { read = true; write = false; execute = true; device = false } } ∷ record { base = 536871680; size = 256; rights = record { read = true; write = true; execute = false; device = false } } ∷ [] } ∷
      record { priority = 3; entry = 134218753; stack = 536872000; start = true; regions = record { base = 134218752; size = 256; rights = record { read = true; write = false; execute = true; device = false } } ∷ record { base = 536871936; size = 256; rights = record { read = true; write = true; execute = false; device = false } } ∷ [] } ∷
      record { priority = 5; entry = 134219009; stack = 536872256; start = true; regions = record { base = 134219008; size = 256; rights = record { read = true; write = false; execute = true; device = false } } ∷ record { base = 536872192; size = 256; rights = record { read = true; write = true; execute = false; device = false } } ∷ [] } ∷
      record { priority = 4; entry = 134219265; stack = 536872512; start = true; regions = record { base = 134219264; size = 256; rights = record { read = true; write = false; execute = true; device = false } } ∷ record { base = 536872448; size = 256; rights = record { read = true; write = true; execute = false; device = false } } ∷ [] } ∷
      record { priority = 3; entry = 134219521; stack = 536872768; start = true; regions = record { base = 134219520; size = 256; rights = record { read = true; write = false; execute = true; device = false } } ∷ record { base = 536872704; size = 256; rights = record { read = true; write = true; execute = false; device = false } } ∷ [] } ∷
      [];
  lines = [];
  fault_bits = 1;
  ram = 2048;
  line_count = 32;
  flash =
      (1 ∷ 38 ∷ 1 ∷ 32 ∷ 131 ∷ 70 ∷ 0 ∷ 223 ∷ []) ++ replicate 248 0 ++
      (108 ∷ 70 ∷ 8 ∷ 37 ∷ 0 ∷ 38 ∷ 0 ∷ 39 ∷ 1 ∷ 32 ∷ 131 ∷ 70 ∷ 0 ∷ 223 ∷ 0 ∷ 153 ∷ 73 ∷ 24 ∷ 0 ∷ 145 ∷ 44 ∷ 70 ∷ 53 ∷ 70 ∷ 110 ∷ 70 ∷ 4 ∷ 39 ∷ 2 ∷ 32 ∷ 131 ∷ 70 ∷ 0 ∷ 223 ∷ 237 ∷ 231 ∷ []) ++ replicate 220 0 ++
      (108 ∷ 70 ∷ 8 ∷ 37 ∷ 0 ∷ 38 ∷ 0 ∷ 39 ∷ 1 ∷ 32 ∷ 131 ∷ 70 ∷ 0 ∷ 223 ∷ 0 ∷ 153 ∷ 73 ∷ 24 ∷ 0 ∷ 145 ∷ 44 ∷ 70 ∷ 53 ∷ 70 ∷ 110 ∷ 70 ∷ 4 ∷ 39 ∷ 2 ∷ 32 ∷ 131 ∷ 70 ∷ 0 ∷ 223 ∷ 237 ∷ 231 ∷ []) ++ replicate 220 0 ++
      (2 ∷ 35 ∷ 7 ∷ 33 ∷ 0 ∷ 145 ∷ 1 ∷ 36 ∷ 36 ∷ 4 ∷ 1 ∷ 52 ∷ 109 ∷ 70 ∷ 4 ∷ 38 ∷ 111 ∷ 70 ∷ 4 ∷ 32 ∷ 128 ∷ 70 ∷ 0 ∷ 32 ∷ 129 ∷ 70 ∷ 130 ∷ 70 ∷ 131 ∷ 70 ∷ 0 ∷ 223 ∷ 1 ∷ 59 ∷ 240 ∷ 209 ∷ 2 ∷ 79 ∷ 0 ∷ 37 ∷ 0 ∷ 38 ∷ 1 ∷ 32 ∷ 131 ∷ 70 ∷ 0 ∷ 223 ∷ 255 ∷ 255 ∷ 0 ∷ 128 ∷ []) ++ replicate 204 0 ++
      (3 ∷ 35 ∷ 9 ∷ 33 ∷ 0 ∷ 145 ∷ 2 ∷ 36 ∷ 36 ∷ 4 ∷ 2 ∷ 52 ∷ 109 ∷ 70 ∷ 4 ∷ 38 ∷ 111 ∷ 70 ∷ 4 ∷ 32 ∷ 128 ∷ 70 ∷ 0 ∷ 32 ∷ 129 ∷ 70 ∷ 130 ∷ 70 ∷ 131 ∷ 70 ∷ 0 ∷ 223 ∷ 1 ∷ 59 ∷ 240 ∷ 209 ∷ 2 ∷ 79 ∷ 0 ∷ 37 ∷ 0 ∷ 38 ∷ 1 ∷ 32 ∷ 131 ∷ 70 ∷ 0 ∷ 223 ∷ 255 ∷ 255 ∷ 0 ∷ 128 ∷ []) ++ replicate 204 0 ++
      (2 ∷ 35 ∷ 11 ∷ 33 ∷ 0 ∷ 145 ∷ 1 ∷ 36 ∷ 36 ∷ 4 ∷ 3 ∷ 52 ∷ 109 ∷ 70 ∷ 4 ∷ 38 ∷ 111 ∷ 70 ∷ 4 ∷ 32 ∷ 128 ∷ 70 ∷ 0 ∷ 32 ∷ 129 ∷ 70 ∷ 130 ∷ 70 ∷ 131 ∷ 70 ∷ 0 ∷ 223 ∷ 1 ∷ 59 ∷ 240 ∷ 209 ∷ 2 ∷ 79 ∷ 0 ∷ 37 ∷ 0 ∷ 38 ∷ 1 ∷ 32 ∷ 131 ∷ 70 ∷ 0 ∷ 223 ∷ 255 ∷ 255 ∷ 0 ∷ 128 ∷ []) ++ replicate 204 0 ++
      (1 ∷ 35 ∷ 13 ∷ 33 ∷ 0 ∷ 145 ∷ 2 ∷ 36 ∷ 36 ∷ 4 ∷ 4 ∷ 52 ∷ 109 ∷ 70 ∷ 4 ∷ 38 ∷ 111 ∷ 70 ∷ 4 ∷ 32 ∷ 128 ∷ 70 ∷ 0 ∷ 32 ∷ 129 ∷ 70 ∷ 130 ∷ 70 ∷ 131 ∷ 70 ∷ 0 ∷ 223 ∷ 1 ∷ 59 ∷ 240 ∷ 209 ∷ 2 ∷ 79 ∷ 0 ∷ 37 ∷ 0 ∷ 38 ∷ 1 ∷ 32 ∷ 131 ∷ 70 ∷ 0 ∷ 223 ∷ 255 ∷ 255 ∷ 0 ∷ 128 ∷ []) ++ replicate 204 0 ++
      (2 ∷ 35 ∷ 15 ∷ 33 ∷ 0 ∷ 145 ∷ 1 ∷ 36 ∷ 36 ∷ 4 ∷ 5 ∷ 52 ∷ 109 ∷ 70 ∷ 4 ∷ 38 ∷ 111 ∷ 70 ∷ 4 ∷ 32 ∷ 128 ∷ 70 ∷ 0 ∷ 32 ∷ 129 ∷ 70 ∷ 130 ∷ 70 ∷ 131 ∷ 70 ∷ 0 ∷ 223 ∷ 1 ∷ 59 ∷ 240 ∷ 209 ∷ 2 ∷ 79 ∷ 0 ∷ 37 ∷ 0 ∷ 38 ∷ 1 ∷ 32 ∷ 131 ∷ 70 ∷ 0 ∷ 223 ∷ 255 ∷ 255 ∷ 0 ∷ 128 ∷ []) ++ replicate 204 0;
}

scenario : Scenario
scenario = record { setup = setup; script = record { every = None; events = [] }; devices = [] }

expected : List (ℕ × Note)
expected =
    (3, note.Syscall 0 1 (0 ∷ 0 ∷ 1 ∷ 0 ∷ 0 ∷ 0 ∷ 0 ∷ [])) ∷
    (3, note.Listen 0 from_index.Any 1) ∷
    (19, note.Syscall 4 0 (131074 ∷ 536872000 ∷ 4 ∷ 536872000 ∷ 4 ∷ 0 ∷ 0 ∷ [])) ∷
    (19, note.Offer 1 4 2) ∷
    (35, note.Syscall 7 0 (65541 ∷ 536872768 ∷ 4 ∷ 536872768 ∷ 4 ∷ 0 ∷ 0 ∷ [])) ∷
    (35, note.Offer 2 7 1) ∷
    (42, note.Syscall 2 1 (536871488 ∷ 8 ∷ 0 ∷ 0 ∷ 0 ∷ 0 ∷ 0 ∷ [])) ∷
    (42, note.Take 1 4) ∷
    (42, note.Ret 2 (0 ∷ 4 ∷ 2 ∷ 4 ∷ 4 ∷ 0 ∷ [])) ∷
    (52, note.Syscall 2 2 (4 ∷ 2 ∷ 536871488 ∷ 4 ∷ 4 ∷ 0 ∷ 0 ∷ [])) ∷
    (52, note.Close 1 ending.Reply) ∷
    (52, note.Ret 4 (2 ∷ 4 ∷ 4 ∷ 536872000 ∷ 4 ∷ 0 ∷ [])) ∷
    (52, note.Ret 2 (4 ∷ 2 ∷ 536871488 ∷ 4 ∷ 4 ∷ 0 ∷ [])) ∷
    (67, note.Syscall 4 0 (131074 ∷ 536872000 ∷ 4 ∷ 536872000 ∷ 4 ∷ 0 ∷ 0 ∷ [])) ∷
    (67, note.Offer 3 4 2) ∷
    (83, note.Syscall 6 0 (131076 ∷ 536872512 ∷ 4 ∷ 536872512 ∷ 4 ∷ 0 ∷ 0 ∷ [])) ∷
    (83, note.Offer 4 6 2) ∷
    (91, note.Syscall 2 1 (536871488 ∷ 8 ∷ 0 ∷ 0 ∷ 4 ∷ 0 ∷ 0 ∷ [])) ∷
    (91, note.Take 3 4) ∷
    (91, note.Ret 2 (0 ∷ 4 ∷ 2 ∷ 4 ∷ 4 ∷ 0 ∷ [])) ∷
    (101, note.Syscall 2 2 (4 ∷ 2 ∷ 536871488 ∷ 4 ∷ 4 ∷ 0 ∷ 0 ∷ [])) ∷
    (101, note.Close 3 ending.Reply) ∷
    (101, note.Ret 4 (2 ∷ 4 ∷ 4 ∷ 536872000 ∷ 4 ∷ 0 ∷ [])) ∷
    (101, note.Ret 2 (4 ∷ 2 ∷ 536871488 ∷ 4 ∷ 4 ∷ 0 ∷ [])) ∷
    (116, note.Syscall 4 0 (131074 ∷ 536872000 ∷ 4 ∷ 536872000 ∷ 4 ∷ 0 ∷ 0 ∷ [])) ∷
    (116, note.Offer 5 4 2) ∷
    (124, note.Syscall 2 1 (536871488 ∷ 8 ∷ 0 ∷ 0 ∷ 4 ∷ 0 ∷ 0 ∷ [])) ∷
    (124, note.Take 5 4) ∷
    (124, note.Ret 2 (0 ∷ 4 ∷ 2 ∷ 4 ∷ 4 ∷ 0 ∷ [])) ∷
    (134, note.Syscall 2 2 (4 ∷ 2 ∷ 536871488 ∷ 4 ∷ 4 ∷ 0 ∷ 0 ∷ [])) ∷
    (134, note.Close 5 ending.Reply) ∷
    (134, note.Ret 4 (2 ∷ 4 ∷ 4 ∷ 536872000 ∷ 4 ∷ 0 ∷ [])) ∷
    (134, note.Ret 2 (4 ∷ 2 ∷ 536871488 ∷ 4 ∷ 4 ∷ 0 ∷ [])) ∷
    (142, note.Syscall 4 1 (2 ∷ 0 ∷ 0 ∷ 2147549183 ∷ 4 ∷ 0 ∷ 0 ∷ [])) ∷
    (142, note.Listen 4 from_index.Kernel 0) ∷
    (150, note.Syscall 2 1 (536871488 ∷ 8 ∷ 0 ∷ 0 ∷ 4 ∷ 0 ∷ 0 ∷ [])) ∷
    (150, note.Take 4 4) ∷
    (150, note.Ret 2 (0 ∷ 6 ∷ 4 ∷ 4 ∷ 4 ∷ 0 ∷ [])) ∷
    (160, note.Syscall 2 2 (6 ∷ 4 ∷ 536871488 ∷ 4 ∷ 4 ∷ 0 ∷ 0 ∷ [])) ∷
    (160, note.Close 4 ending.Reply) ∷
    (160, note.Ret 6 (4 ∷ 4 ∷ 4 ∷ 536872512 ∷ 4 ∷ 0 ∷ [])) ∷
    (160, note.Ret 2 (6 ∷ 4 ∷ 536871488 ∷ 4 ∷ 4 ∷ 0 ∷ [])) ∷
    (168, note.Syscall 2 1 (536871488 ∷ 8 ∷ 0 ∷ 0 ∷ 4 ∷ 0 ∷ 0 ∷ [])) ∷
    (168, note.Listen 2 from_index.Any 0) ∷
    (176, note.Syscall 6 1 (4 ∷ 0 ∷ 0 ∷ 2147549183 ∷ 4 ∷ 0 ∷ 0 ∷ [])) ∷
    (176, note.Listen 6 from_index.Kernel 0) ∷
    (192, note.Syscall 3 0 (65537 ∷ 536871744 ∷ 4 ∷ 536871744 ∷ 4 ∷ 0 ∷ 0 ∷ [])) ∷
    (192, note.Offer 6 3 1) ∷
    (208, note.Syscall 5 0 (65539 ∷ 536872256 ∷ 4 ∷ 536872256 ∷ 4 ∷ 0 ∷ 0 ∷ [])) ∷
    (208, note.Offer 7 5 1) ∷
    (215, note.Syscall 1 1 (536871232 ∷ 8 ∷ 0 ∷ 0 ∷ 0 ∷ 0 ∷ 0 ∷ [])) ∷
    (215, note.Take 2 4) ∷
    (215, note.Ret 1 (0 ∷ 7 ∷ 5 ∷ 4 ∷ 4 ∷ 0 ∷ [])) ∷
    (225, note.Syscall 1 2 (7 ∷ 5 ∷ 536871232 ∷ 4 ∷ 4 ∷ 0 ∷ 0 ∷ [])) ∷
    (225, note.Close 2 ending.Reply) ∷
    (225, note.Ret 7 (5 ∷ 4 ∷ 4 ∷ 536872768 ∷ 4 ∷ 0 ∷ [])) ∷
    (225, note.Ret 1 (7 ∷ 5 ∷ 536871232 ∷ 4 ∷ 4 ∷ 0 ∷ [])) ∷
    (240, note.Syscall 7 0 (65541 ∷ 536872768 ∷ 4 ∷ 536872768 ∷ 4 ∷ 0 ∷ 0 ∷ [])) ∷
    (240, note.Offer 8 7 1) ∷
    (248, note.Syscall 1 1 (536871232 ∷ 8 ∷ 0 ∷ 0 ∷ 4 ∷ 0 ∷ 0 ∷ [])) ∷
    (248, note.Take 8 4) ∷
    (248, note.Ret 1 (0 ∷ 7 ∷ 5 ∷ 4 ∷ 4 ∷ 0 ∷ [])) ∷
    (258, note.Syscall 1 2 (7 ∷ 5 ∷ 536871232 ∷ 4 ∷ 4 ∷ 0 ∷ 0 ∷ [])) ∷
    (258, note.Close 8 ending.Reply) ∷
    (258, note.Ret 7 (5 ∷ 4 ∷ 4 ∷ 536872768 ∷ 4 ∷ 0 ∷ [])) ∷
    (258, note.Ret 1 (7 ∷ 5 ∷ 536871232 ∷ 4 ∷ 4 ∷ 0 ∷ [])) ∷
    (266, note.Syscall 7 1 (5 ∷ 0 ∷ 0 ∷ 2147549183 ∷ 4 ∷ 0 ∷ 0 ∷ [])) ∷
    (266, note.Listen 7 from_index.Kernel 0) ∷
    (274, note.Syscall 1 1 (536871232 ∷ 8 ∷ 0 ∷ 0 ∷ 4 ∷ 0 ∷ 0 ∷ [])) ∷
    (274, note.Take 6 4) ∷
    (274, note.Ret 1 (0 ∷ 3 ∷ 1 ∷ 4 ∷ 4 ∷ 0 ∷ [])) ∷
    (284, note.Syscall 1 2 (3 ∷ 1 ∷ 536871232 ∷ 4 ∷ 4 ∷ 0 ∷ 0 ∷ [])) ∷
    (284, note.Close 6 ending.Reply) ∷
    (284, note.Ret 3 (1 ∷ 4 ∷ 4 ∷ 536871744 ∷ 4 ∷ 0 ∷ [])) ∷
    (284, note.Ret 1 (3 ∷ 1 ∷ 536871232 ∷ 4 ∷ 4 ∷ 0 ∷ [])) ∷
    (299, note.Syscall 3 0 (65537 ∷ 536871744 ∷ 4 ∷ 536871744 ∷ 4 ∷ 0 ∷ 0 ∷ [])) ∷
    (299, note.Offer 9 3 1) ∷
    (307, note.Syscall 1 1 (536871232 ∷ 8 ∷ 0 ∷ 0 ∷ 4 ∷ 0 ∷ 0 ∷ [])) ∷
    (307, note.Take 9 4) ∷
    (307, note.Ret 1 (0 ∷ 3 ∷ 1 ∷ 4 ∷ 4 ∷ 0 ∷ [])) ∷
    (317, note.Syscall 1 2 (3 ∷ 1 ∷ 536871232 ∷ 4 ∷ 4 ∷ 0 ∷ 0 ∷ [])) ∷
    (317, note.Close 9 ending.Reply) ∷
    (317, note.Ret 3 (1 ∷ 4 ∷ 4 ∷ 536871744 ∷ 4 ∷ 0 ∷ [])) ∷
    (317, note.Ret 1 (3 ∷ 1 ∷ 536871232 ∷ 4 ∷ 4 ∷ 0 ∷ [])) ∷
    (325, note.Syscall 3 1 (1 ∷ 0 ∷ 0 ∷ 2147549183 ∷ 4 ∷ 0 ∷ 0 ∷ [])) ∷
    (325, note.Listen 3 from_index.Kernel 0) ∷
    (333, note.Syscall 1 1 (536871232 ∷ 8 ∷ 0 ∷ 0 ∷ 4 ∷ 0 ∷ 0 ∷ [])) ∷
    (333, note.Take 7 4) ∷
    (333, note.Ret 1 (0 ∷ 5 ∷ 3 ∷ 4 ∷ 4 ∷ 0 ∷ [])) ∷
    []

-- the notes, how the run ended, and after how many turns
IsTrace : Run → Type 0
IsTrace r = (r.notes ≡ expected) × (r.end ≡ Bound) × (r.last.turn ≡ 340)

agrees : IsTrace (run Calls scenario 340 (start setup))
unfolding setup scenario expected IsTrace computed
agrees = (refl, refl, refl)
