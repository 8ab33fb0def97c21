-- The first turns of the five tasks with each instruction noted, by computing; the lines come from another program.
use Rattle.std.proofs.Common.{◌≡◌, ℕ, true, false, List, [], ◌∷◌, refl}
use Rattle.kernel_abi.specs.declared.Handled.TheVariants as handled
use Rattle.kernel_abi.specs.declared.FromIndex.TheVariants as from_index
use Rattle.kernel_abi.specs.declared.Note.{Note}
use Rattle.kernel_abi.specs.declared.Note.TheVariants as note
use Rattle.task_table.specs.model.Start.{start}
use Rattle.board_model.specs.declared.outcomes.End.TheVariants.{Bound}
use Rattle.board_model.specs.declared.outcomes.Level.TheVariants.{All}
use Rattle.board_model.specs.Run.{Run, run}
use Rattle.board_model.proofs.FiveTasks.{setup, scenario}
use Rattle.board_model.proofs.Computed.{computed}

expected : List (ℕ × Note)
expected =
    (0, note.Insn 0 134217728 9216) ∷
    (0, note.Low (0 ∷ 0 ∷ 0 ∷ 0 ∷ 0 ∷ 0 ∷ 0 ∷ 0 ∷ [])) ∷
    (0, note.High (0 ∷ 0 ∷ 0 ∷ 0 ∷ 0 ∷ 536870976 ∷ 4294967295 ∷ 134217730 ∷ []) false true false false) ∷
    (1, note.Insn 0 134217730 9472) ∷
    (1, note.Low (0 ∷ 0 ∷ 0 ∷ 0 ∷ 0 ∷ 0 ∷ 0 ∷ 0 ∷ [])) ∷
    (1, note.High (0 ∷ 0 ∷ 0 ∷ 0 ∷ 0 ∷ 536870976 ∷ 4294967295 ∷ 134217732 ∷ []) false true false false) ∷
    (2, note.Insn 0 134217732 9729) ∷
    (2, note.Low (0 ∷ 0 ∷ 0 ∷ 0 ∷ 0 ∷ 0 ∷ 1 ∷ 0 ∷ [])) ∷
    (2, note.High (0 ∷ 0 ∷ 0 ∷ 0 ∷ 0 ∷ 536870976 ∷ 4294967295 ∷ 134217734 ∷ []) false false false false) ∷
    (3, note.Insn 0 134217734 9984) ∷
    (3, note.Low (0 ∷ 0 ∷ 0 ∷ 0 ∷ 0 ∷ 0 ∷ 1 ∷ 0 ∷ [])) ∷
    (3, note.High (0 ∷ 0 ∷ 0 ∷ 0 ∷ 0 ∷ 536870976 ∷ 4294967295 ∷ 134217736 ∷ []) false true false false) ∷
    (4, note.Insn 0 134217736 8193) ∷
    (4, note.Low (1 ∷ 0 ∷ 0 ∷ 0 ∷ 0 ∷ 0 ∷ 1 ∷ 0 ∷ [])) ∷
    (4, note.High (0 ∷ 0 ∷ 0 ∷ 0 ∷ 0 ∷ 536870976 ∷ 4294967295 ∷ 134217738 ∷ []) false false false false) ∷
    (5, note.Irq 7 handled.Held) ∷
    (5, note.Insn 0 134217738 18051) ∷
    (5, note.Low (1 ∷ 0 ∷ 0 ∷ 0 ∷ 0 ∷ 0 ∷ 1 ∷ 0 ∷ [])) ∷
    (5, note.High (0 ∷ 0 ∷ 0 ∷ 1 ∷ 0 ∷ 536870976 ∷ 4294967295 ∷ 134217740 ∷ []) false false false false) ∷
    (6, note.Insn 0 134217740 57088) ∷
    (6, note.Syscall 0 1 (0 ∷ 0 ∷ 1 ∷ 0 ∷ 0 ∷ 0 ∷ 0 ∷ [])) ∷
    (6, note.Listen 0 from_index.Any 1) ∷
    (6, note.Low (1 ∷ 0 ∷ 0 ∷ 0 ∷ 0 ∷ 0 ∷ 1 ∷ 0 ∷ [])) ∷
    (6, note.High (0 ∷ 0 ∷ 0 ∷ 1 ∷ 0 ∷ 536870976 ∷ 4294967295 ∷ 134217742 ∷ []) false false false false) ∷
    (7, note.Insn 1 134217984 8960) ∷
    (7, note.Low (0 ∷ 0 ∷ 0 ∷ 0 ∷ 0 ∷ 0 ∷ 0 ∷ 0 ∷ [])) ∷
    (7, note.High (0 ∷ 0 ∷ 0 ∷ 0 ∷ 0 ∷ 536871232 ∷ 4294967295 ∷ 134217986 ∷ []) false true false false) ∷
    (8, note.Insn 1 134217986 8201) ∷
    (8, note.Low (9 ∷ 0 ∷ 0 ∷ 0 ∷ 0 ∷ 0 ∷ 0 ∷ 0 ∷ [])) ∷
    (8, note.High (0 ∷ 0 ∷ 0 ∷ 0 ∷ 0 ∷ 536871232 ∷ 4294967295 ∷ 134217988 ∷ []) false false false false) ∷
    (9, note.Insn 1 134217988 18051) ∷
    (9, note.Low (9 ∷ 0 ∷ 0 ∷ 0 ∷ 0 ∷ 0 ∷ 0 ∷ 0 ∷ [])) ∷
    (9, note.High (0 ∷ 0 ∷ 0 ∷ 9 ∷ 0 ∷ 536871232 ∷ 4294967295 ∷ 134217990 ∷ []) false false false false) ∷
    (10, note.Insn 1 134217990 57088) ∷
    (10, note.Syscall 1 9 (0 ∷ 0 ∷ 0 ∷ 0 ∷ 0 ∷ 0 ∷ 0 ∷ [])) ∷
    (10, note.Ret 1 (0 ∷ 0 ∷ 0 ∷ 0 ∷ 0 ∷ 0 ∷ [])) ∷
    (10, note.Low (9 ∷ 0 ∷ 0 ∷ 0 ∷ 0 ∷ 0 ∷ 0 ∷ 0 ∷ [])) ∷
    (10, note.High (0 ∷ 0 ∷ 0 ∷ 9 ∷ 0 ∷ 536871232 ∷ 4294967295 ∷ 134217992 ∷ []) false false false false) ∷
    (11, note.Insn 1 134217992 7333) ∷
    (11, note.Low (9 ∷ 0 ∷ 0 ∷ 0 ∷ 0 ∷ 2 ∷ 0 ∷ 0 ∷ [])) ∷
    (11, note.High (0 ∷ 0 ∷ 0 ∷ 9 ∷ 0 ∷ 536871232 ∷ 4294967295 ∷ 134217994 ∷ []) false false false false) ∷
    (12, note.Insn 1 134217994 9728) ∷
    (12, note.Low (9 ∷ 0 ∷ 0 ∷ 0 ∷ 0 ∷ 2 ∷ 0 ∷ 0 ∷ [])) ∷
    (12, note.High (0 ∷ 0 ∷ 0 ∷ 9 ∷ 0 ∷ 536871232 ∷ 4294967295 ∷ 134217996 ∷ []) false true false false) ∷
    (13, note.Insn 1 134217996 9217) ∷
    (13, note.Low (9 ∷ 0 ∷ 0 ∷ 0 ∷ 1 ∷ 2 ∷ 0 ∷ 0 ∷ [])) ∷
    (13, note.High (0 ∷ 0 ∷ 0 ∷ 9 ∷ 0 ∷ 536871232 ∷ 4294967295 ∷ 134217998 ∷ []) false false false false) ∷
    (14, note.Insn 1 134217998 9986) ∷
    (14, note.Low (9 ∷ 0 ∷ 0 ∷ 0 ∷ 1 ∷ 2 ∷ 0 ∷ 2 ∷ [])) ∷
    (14, note.High (0 ∷ 0 ∷ 0 ∷ 9 ∷ 0 ∷ 536871232 ∷ 4294967295 ∷ 134218000 ∷ []) false false false false) ∷
    (15, note.Insn 1 134218000 8195) ∷
    (15, note.Low (3 ∷ 0 ∷ 0 ∷ 0 ∷ 1 ∷ 2 ∷ 0 ∷ 2 ∷ [])) ∷
    (15, note.High (0 ∷ 0 ∷ 0 ∷ 9 ∷ 0 ∷ 536871232 ∷ 4294967295 ∷ 134218002 ∷ []) false false false false) ∷
    (16, note.Insn 1 134218002 18051) ∷
    (16, note.Low (3 ∷ 0 ∷ 0 ∷ 0 ∷ 1 ∷ 2 ∷ 0 ∷ 2 ∷ [])) ∷
    (16, note.High (0 ∷ 0 ∷ 0 ∷ 3 ∷ 0 ∷ 536871232 ∷ 4294967295 ∷ 134218004 ∷ []) false false false false) ∷
    (17, note.Insn 1 134218004 57088) ∷
    (17, note.Syscall 1 3 (1 ∷ 2 ∷ 0 ∷ 2 ∷ 0 ∷ 0 ∷ 0 ∷ [])) ∷
    (17, note.Ret 1 (1 ∷ 2 ∷ 0 ∷ 2 ∷ 0 ∷ 0 ∷ [])) ∷
    (17, note.Low (3 ∷ 0 ∷ 0 ∷ 0 ∷ 1 ∷ 2 ∷ 0 ∷ 2 ∷ [])) ∷
    (17, note.High (0 ∷ 0 ∷ 0 ∷ 3 ∷ 0 ∷ 536871232 ∷ 4294967295 ∷ 134218006 ∷ []) false false false false) ∷
    (18, note.Insn 1 134218006 9216) ∷
    (18, note.Low (3 ∷ 0 ∷ 0 ∷ 0 ∷ 0 ∷ 2 ∷ 0 ∷ 2 ∷ [])) ∷
    (18, note.High (0 ∷ 0 ∷ 0 ∷ 3 ∷ 0 ∷ 536871232 ∷ 4294967295 ∷ 134218008 ∷ []) false true false false) ∷
    (19, note.Insn 1 134218008 9472) ∷
    (19, note.Low (3 ∷ 0 ∷ 0 ∷ 0 ∷ 0 ∷ 0 ∷ 0 ∷ 2 ∷ [])) ∷
    (19, note.High (0 ∷ 0 ∷ 0 ∷ 3 ∷ 0 ∷ 536871232 ∷ 4294967295 ∷ 134218010 ∷ []) false true false false) ∷
    (20, note.Insn 1 134218010 9730) ∷
    (20, note.Low (3 ∷ 0 ∷ 0 ∷ 0 ∷ 0 ∷ 0 ∷ 2 ∷ 2 ∷ [])) ∷
    (20, note.High (0 ∷ 0 ∷ 0 ∷ 3 ∷ 0 ∷ 536871232 ∷ 4294967295 ∷ 134218012 ∷ []) false false false false) ∷
    (21, note.Insn 1 134218012 9984) ∷
    (21, note.Low (3 ∷ 0 ∷ 0 ∷ 0 ∷ 0 ∷ 0 ∷ 2 ∷ 0 ∷ [])) ∷
    (21, note.High (0 ∷ 0 ∷ 0 ∷ 3 ∷ 0 ∷ 536871232 ∷ 4294967295 ∷ 134218014 ∷ []) false true false false) ∷
    (22, note.Insn 1 134218014 8193) ∷
    (22, note.Low (1 ∷ 0 ∷ 0 ∷ 0 ∷ 0 ∷ 0 ∷ 2 ∷ 0 ∷ [])) ∷
    (22, note.High (0 ∷ 0 ∷ 0 ∷ 3 ∷ 0 ∷ 536871232 ∷ 4294967295 ∷ 134218016 ∷ []) false false false false) ∷
    (23, note.Insn 1 134218016 18051) ∷
    (23, note.Low (1 ∷ 0 ∷ 0 ∷ 0 ∷ 0 ∷ 0 ∷ 2 ∷ 0 ∷ [])) ∷
    (23, note.High (0 ∷ 0 ∷ 0 ∷ 1 ∷ 0 ∷ 536871232 ∷ 4294967295 ∷ 134218018 ∷ []) false false false false) ∷
    (24, note.Insn 1 134218018 57088) ∷
    (24, note.Syscall 1 1 (0 ∷ 0 ∷ 2 ∷ 0 ∷ 0 ∷ 0 ∷ 0 ∷ [])) ∷
    (24, note.Listen 1 from_index.Any 2) ∷
    (24, note.Low (1 ∷ 0 ∷ 0 ∷ 0 ∷ 0 ∷ 0 ∷ 2 ∷ 0 ∷ [])) ∷
    (24, note.High (0 ∷ 0 ∷ 0 ∷ 1 ∷ 0 ∷ 536871232 ∷ 4294967295 ∷ 134218020 ∷ []) false false false false) ∷
    (25, note.Insn 2 134218240 9217) ∷
    (25, note.Low (0 ∷ 0 ∷ 0 ∷ 0 ∷ 1 ∷ 0 ∷ 0 ∷ 0 ∷ [])) ∷
    (25, note.High (0 ∷ 0 ∷ 0 ∷ 0 ∷ 0 ∷ 536871488 ∷ 4294967295 ∷ 134218242 ∷ []) false false false false) ∷
    (26, note.Insn 2 134218242 9473) ∷
    (26, note.Low (0 ∷ 0 ∷ 0 ∷ 0 ∷ 1 ∷ 1 ∷ 0 ∷ 0 ∷ [])) ∷
    (26, note.High (0 ∷ 0 ∷ 0 ∷ 0 ∷ 0 ∷ 536871488 ∷ 4294967295 ∷ 134218244 ∷ []) false false false false) ∷
    (27, note.Insn 2 134218244 8199) ∷
    (27, note.Low (7 ∷ 0 ∷ 0 ∷ 0 ∷ 1 ∷ 1 ∷ 0 ∷ 0 ∷ [])) ∷
    (27, note.High (0 ∷ 0 ∷ 0 ∷ 0 ∷ 0 ∷ 536871488 ∷ 4294967295 ∷ 134218246 ∷ []) false false false false) ∷
    (28, note.Insn 2 134218246 18051) ∷
    (28, note.Low (7 ∷ 0 ∷ 0 ∷ 0 ∷ 1 ∷ 1 ∷ 0 ∷ 0 ∷ [])) ∷
    (28, note.High (0 ∷ 0 ∷ 0 ∷ 7 ∷ 0 ∷ 536871488 ∷ 4294967295 ∷ 134218248 ∷ []) false false false false) ∷
    (29, note.Insn 2 134218248 57088) ∷
    (29, note.Syscall 2 7 (1 ∷ 1 ∷ 0 ∷ 0 ∷ 0 ∷ 0 ∷ 0 ∷ [])) ∷
    (29, note.Post 2 1 1) ∷
    (29, note.Ret 2 (1 ∷ 1 ∷ 0 ∷ 0 ∷ 0 ∷ 0 ∷ [])) ∷
    (29, note.Low (7 ∷ 0 ∷ 0 ∷ 0 ∷ 1 ∷ 1 ∷ 0 ∷ 0 ∷ [])) ∷
    (29, note.High (0 ∷ 0 ∷ 0 ∷ 7 ∷ 0 ∷ 536871488 ∷ 4294967295 ∷ 134218250 ∷ []) false false false false) ∷
    (30, note.Tick 1) ∷
    (30, note.Insn 2 134218250 18028) ∷
    (30, note.Low (7 ∷ 0 ∷ 0 ∷ 0 ∷ 536871488 ∷ 1 ∷ 0 ∷ 0 ∷ [])) ∷
    (30, note.High (0 ∷ 0 ∷ 0 ∷ 7 ∷ 0 ∷ 536871488 ∷ 4294967295 ∷ 134218252 ∷ []) false false false false) ∷
    (31, note.Insn 2 134218252 9480) ∷
    (31, note.Low (7 ∷ 0 ∷ 0 ∷ 0 ∷ 536871488 ∷ 8 ∷ 0 ∷ 0 ∷ [])) ∷
    (31, note.High (0 ∷ 0 ∷ 0 ∷ 7 ∷ 0 ∷ 536871488 ∷ 4294967295 ∷ 134218254 ∷ []) false false false false) ∷
    (32, note.Insn 2 134218254 9729) ∷
    (32, note.Low (7 ∷ 0 ∷ 0 ∷ 0 ∷ 536871488 ∷ 8 ∷ 1 ∷ 0 ∷ [])) ∷
    (32, note.High (0 ∷ 0 ∷ 0 ∷ 7 ∷ 0 ∷ 536871488 ∷ 4294967295 ∷ 134218256 ∷ []) false false false false) ∷
    (33, note.Insn 2 134218256 9985) ∷
    (33, note.Low (7 ∷ 0 ∷ 0 ∷ 0 ∷ 536871488 ∷ 8 ∷ 1 ∷ 1 ∷ [])) ∷
    (33, note.High (0 ∷ 0 ∷ 0 ∷ 7 ∷ 0 ∷ 536871488 ∷ 4294967295 ∷ 134218258 ∷ []) false false false false) ∷
    (34, note.Insn 2 134218258 2047) ∷
    (34, note.Low (7 ∷ 0 ∷ 0 ∷ 0 ∷ 536871488 ∷ 8 ∷ 1 ∷ 2147483648 ∷ [])) ∷
    (34, note.High (0 ∷ 0 ∷ 0 ∷ 7 ∷ 0 ∷ 536871488 ∷ 4294967295 ∷ 134218260 ∷ []) true false false false) ∷
    (35, note.Insn 2 134218260 14084) ∷
    (35, note.Low (7 ∷ 0 ∷ 0 ∷ 0 ∷ 536871488 ∷ 8 ∷ 1 ∷ 2147483652 ∷ [])) ∷
    (35, note.High (0 ∷ 0 ∷ 0 ∷ 7 ∷ 0 ∷ 536871488 ∷ 4294967295 ∷ 134218262 ∷ []) true false false false) ∷
    (36, note.Insn 2 134218262 8193) ∷
    (36, note.Low (1 ∷ 0 ∷ 0 ∷ 0 ∷ 536871488 ∷ 8 ∷ 1 ∷ 2147483652 ∷ [])) ∷
    (36, note.High (0 ∷ 0 ∷ 0 ∷ 7 ∷ 0 ∷ 536871488 ∷ 4294967295 ∷ 134218264 ∷ []) false false false false) ∷
    (37, note.Insn 2 134218264 18051) ∷
    (37, note.Low (1 ∷ 0 ∷ 0 ∷ 0 ∷ 536871488 ∷ 8 ∷ 1 ∷ 2147483652 ∷ [])) ∷
    (37, note.High (0 ∷ 0 ∷ 0 ∷ 1 ∷ 0 ∷ 536871488 ∷ 4294967295 ∷ 134218266 ∷ []) false false false false) ∷
    (38, note.Insn 2 134218266 57088) ∷
    (38, note.Syscall 2 1 (536871488 ∷ 8 ∷ 1 ∷ 2147483652 ∷ 0 ∷ 0 ∷ 0 ∷ [])) ∷
    (38, note.Ret 2 (0 ∷ 65535 ∷ 1 ∷ 0 ∷ 0 ∷ 0 ∷ [])) ∷
    (38, note.Low (1 ∷ 0 ∷ 0 ∷ 0 ∷ 0 ∷ 65535 ∷ 1 ∷ 0 ∷ [])) ∷
    (38, note.High (0 ∷ 0 ∷ 0 ∷ 1 ∷ 0 ∷ 536871488 ∷ 4294967295 ∷ 134218268 ∷ []) false false false false) ∷
    (39, note.Insn 2 134218268 59376) ∷
    (39, note.Low (1 ∷ 0 ∷ 0 ∷ 0 ∷ 0 ∷ 65535 ∷ 1 ∷ 0 ∷ [])) ∷
    (39, note.High (0 ∷ 0 ∷ 0 ∷ 1 ∷ 0 ∷ 536871488 ∷ 4294967295 ∷ 134218240 ∷ []) false false false false) ∷
    []

-- the notes, how the run ended, and the time then
IsTrace : Run → Type 0
IsTrace r = (r.notes ≡ expected) × (r.end ≡ Bound) × (r.last.now ≡ 1)

agrees : IsTrace (run All scenario 40 (start setup))
unfolding setup scenario expected IsTrace computed
agrees = (refl, refl, refl)
