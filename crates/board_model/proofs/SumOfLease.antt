-- A server that sums a leased buffer piece by piece and writes the sum back, by computing; the lines come from another program.
use Rattle.std.proofs.Common.{◌≡◌, ℕ, true, false, List, [], ◌∷◌, ◌++◌, None, refl}
use Rattle.std.specs.Prelude.{replicate}
use Rattle.kernel_abi.specs.declared.Borrow.TheVariants as borrow
use Rattle.kernel_abi.specs.declared.Ending.TheVariants as ending
use Rattle.kernel_abi.specs.declared.FromIndex.TheVariants as from_index
use Rattle.kernel_abi.specs.declared.Note.{Note}
use Rattle.kernel_abi.specs.declared.Note.TheVariants as note
use Rattle.task_table.specs.model.State.{Setup}
use Rattle.task_table.specs.model.Start.{start}
use Rattle.board_model.specs.declared.outcomes.End.TheVariants.{Still}
use Rattle.board_model.specs.declared.outcomes.Level.TheVariants.{Calls}
use Rattle.board_model.specs.Script.{Scenario}
use Rattle.board_model.specs.Run.{Run, run}
use Rattle.board_model.proofs.Computed.{computed}

setup : Setup
setup = record {
  tasks =
      record { priority = 0; entry = 134217729; stack = 536870976; start = true; regions = record { base = 134217728; size = 256; rights = record { read = true; write = false; execute = true; device = false } } ∷ record { base = 536870912; size = 256; rights = record { read = true; write = true; execute = false; device = false } } ∷ [] } ∷
      record { priority = 1; entry = 134217985; stack = 536871232; start = true; regions = record { base = 134217984; size = 256; rights = record { read = true; write = false; execute = true; device = false } } ∷ record { base = 536871168; size = 256; rights = record { read = true; write = true; execute = false; device = false } } ∷ [] } ∷
      record { priority = 2; entry = 134218241; stack = 536871488; start = true; regions = record { base = 134218240; size = 256; rights = record { read = true; write = false; execute = true; device = false } } ∷ record { base = 536871424; size = 256; rights = record { read = true; write = true; execute = false; device = false } } ∷ [] } ∷
      [];
  lines = [];
  fault_bits = 1;
  ram = 768;
  line_count = 32;
  flash =
      (1 ∷ 38 ∷ 1 ∷ 32 ∷ 131 ∷ 70 ∷ 0 ∷ 223 ∷ []) ++ replicate 249 0 ++
      (36 ∷ 0 ∷ 37 ∷ 0 ∷ 38 ∷ 0 ∷ 39 ∷ 1 ∷ 32 ∷ 131 ∷ 70 ∷ 0 ∷ 223 ∷ 43 ∷ 70 ∷ 0 ∷ 38 ∷ 0 ∷ 34 ∷ 28 ∷ 70 ∷ 0 ∷ 37 ∷ 111 ∷ 70 ∷ 16 ∷ 32 ∷ 128 ∷ 70 ∷ 4 ∷ 32 ∷ 131 ∷ 70 ∷ 0 ∷ 223 ∷ 0 ∷ 45 ∷ 7 ∷ 208 ∷ 118 ∷ 25 ∷ 1 ∷ 61 ∷ 105 ∷ 70 ∷ 72 ∷ 93 ∷ 18 ∷ 24 ∷ 0 ∷ 45 ∷ 249 ∷ 209 ∷ 237 ∷ 231 ∷ 0 ∷ 146 ∷ 28 ∷ 70 ∷ 1 ∷ 37 ∷ 0 ∷ 38 ∷ 111 ∷ 70 ∷ 4 ∷ 32 ∷ 128 ∷ 70 ∷ 5 ∷ 32 ∷ 131 ∷ 70 ∷ 0 ∷ 223 ∷ 28 ∷ 70 ∷ 21 ∷ 70 ∷ 0 ∷ 38 ∷ 0 ∷ 39 ∷ 2 ∷ 32 ∷ 131 ∷ 70 ∷ 0 ∷ 223 ∷ 209 ∷ 231 ∷ []) ++ replicate 164 0 ++
      (19 ∷ 73 ∷ 64 ∷ 34 ∷ 1 ∷ 58 ∷ 208 ∷ 28 ∷ 136 ∷ 84 ∷ 0 ∷ 42 ∷ 250 ∷ 209 ∷ 8 ∷ 70 ∷ 64 ∷ 48 ∷ 16 ∷ 74 ∷ 1 ∷ 35 ∷ 8 ∷ 194 ∷ 2 ∷ 194 ∷ 64 ∷ 35 ∷ 8 ∷ 194 ∷ 2 ∷ 35 ∷ 8 ∷ 194 ∷ 1 ∷ 194 ∷ 4 ∷ 35 ∷ 8 ∷ 194 ∷ 1 ∷ 36 ∷ 36 ∷ 4 ∷ 0 ∷ 37 ∷ 0 ∷ 38 ∷ 0 ∷ 39 ∷ 184 ∷ 70 ∷ 7 ∷ 74 ∷ 145 ∷ 70 ∷ 2 ∷ 32 ∷ 130 ∷ 70 ∷ 187 ∷ 70 ∷ 0 ∷ 223 ∷ 9 ∷ 108 ∷ 5 ∷ 79 ∷ 0 ∷ 37 ∷ 0 ∷ 38 ∷ 1 ∷ 32 ∷ 131 ∷ 70 ∷ 0 ∷ 223 ∷ 0 ∷ 0 ∷ 0 ∷ 2 ∷ 0 ∷ 32 ∷ 128 ∷ 2 ∷ 0 ∷ 32 ∷ 255 ∷ 255 ∷ 0 ∷ 128 ∷ []) ++ replicate 164 0;
}

scenario : Scenario
scenario = record { setup = setup; script = record { every = None; events = [] }; devices = [] }

expected : List (ℕ × Note)
expected =
    (3, note.Syscall 0 1 (0 ∷ 0 ∷ 1 ∷ 0 ∷ 0 ∷ 0 ∷ 0 ∷ [])) ∷
    (3, note.Listen 0 from_index.Any 1) ∷
    (10, note.Syscall 1 1 (0 ∷ 0 ∷ 0 ∷ 0 ∷ 0 ∷ 0 ∷ 0 ∷ [])) ∷
    (10, note.Listen 1 from_index.Any 0) ∷
    (357, note.Syscall 2 0 (65536 ∷ 0 ∷ 0 ∷ 0 ∷ 0 ∷ 536871552 ∷ 2 ∷ [])) ∷
    (357, note.Offer 1 2 1) ∷
    (357, note.Take 1 0) ∷
    (357, note.Ret 1 (0 ∷ 2 ∷ 0 ∷ 0 ∷ 0 ∷ 2 ∷ [])) ∷
    (368, note.Syscall 1 4 (2 ∷ 0 ∷ 0 ∷ 536871232 ∷ 16 ∷ 2 ∷ 0 ∷ [])) ∷
    (368, note.Borrow 1 borrow.Read 0 0 16) ∷
    (368, note.Ret 1 (0 ∷ 16 ∷ 0 ∷ 536871232 ∷ 16 ∷ 2 ∷ [])) ∷
    (476, note.Syscall 1 4 (2 ∷ 0 ∷ 16 ∷ 536871232 ∷ 16 ∷ 2 ∷ 0 ∷ [])) ∷
    (476, note.Borrow 1 borrow.Read 0 16 16) ∷
    (476, note.Ret 1 (0 ∷ 16 ∷ 16 ∷ 536871232 ∷ 16 ∷ 2 ∷ [])) ∷
    (584, note.Syscall 1 4 (2 ∷ 0 ∷ 32 ∷ 536871232 ∷ 16 ∷ 2 ∷ 0 ∷ [])) ∷
    (584, note.Borrow 1 borrow.Read 0 32 16) ∷
    (584, note.Ret 1 (0 ∷ 16 ∷ 32 ∷ 536871232 ∷ 16 ∷ 2 ∷ [])) ∷
    (692, note.Syscall 1 4 (2 ∷ 0 ∷ 48 ∷ 536871232 ∷ 16 ∷ 2 ∷ 0 ∷ [])) ∷
    (692, note.Borrow 1 borrow.Read 0 48 16) ∷
    (692, note.Ret 1 (0 ∷ 16 ∷ 48 ∷ 536871232 ∷ 16 ∷ 2 ∷ [])) ∷
    (800, note.Syscall 1 4 (2 ∷ 0 ∷ 64 ∷ 536871232 ∷ 16 ∷ 2 ∷ 0 ∷ [])) ∷
    (800, note.Borrow 1 borrow.Read 0 64 0) ∷
    (800, note.Ret 1 (0 ∷ 0 ∷ 64 ∷ 536871232 ∷ 16 ∷ 2 ∷ [])) ∷
    (812, note.Syscall 1 5 (2 ∷ 1 ∷ 0 ∷ 536871232 ∷ 4 ∷ 2 ∷ 0 ∷ [])) ∷
    (812, note.Borrow 1 borrow.Write 1 0 4) ∷
    (812, note.Ret 1 (0 ∷ 4 ∷ 0 ∷ 536871232 ∷ 4 ∷ 2 ∷ [])) ∷
    (819, note.Syscall 1 2 (2 ∷ 2208 ∷ 0 ∷ 0 ∷ 4 ∷ 2 ∷ 0 ∷ [])) ∷
    (819, note.Close 1 ending.Reply) ∷
    (819, note.Ret 2 (2208 ∷ 0 ∷ 0 ∷ 0 ∷ 0 ∷ 536871552 ∷ [])) ∷
    (819, note.Ret 1 (2 ∷ 2208 ∷ 0 ∷ 0 ∷ 4 ∷ 2 ∷ [])) ∷
    (827, note.Syscall 1 1 (0 ∷ 0 ∷ 0 ∷ 0 ∷ 4 ∷ 2 ∷ 0 ∷ [])) ∷
    (827, note.Listen 1 from_index.Any 0) ∷
    (834, note.Syscall 2 1 (2208 ∷ 0 ∷ 0 ∷ 2147549183 ∷ 0 ∷ 536871552 ∷ 2 ∷ [])) ∷
    (834, note.Listen 2 from_index.Kernel 0) ∷
    []

-- the notes, how the run ended, and after how many turns
IsTrace : Run → Type 0
IsTrace r = (r.notes ≡ expected) × (r.end ≡ Still) × (r.last.turn ≡ 835)

agrees : IsTrace (run Calls scenario 1000 (start setup))
unfolding setup scenario expected IsTrace computed
agrees = (refl, refl, refl)
