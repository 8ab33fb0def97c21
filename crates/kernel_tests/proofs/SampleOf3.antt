-- The first 400 turns of the large sample of seed 3, by computing; the notes come from another program.
use Rattle.std.proofs.Common.{◌≡◌, ℕ, true, false, List, [], ◌∷◌, ◌++◌, Some, refl}
use Rattle.std.specs.Prelude.{replicate}
use Rattle.kernel_abi.specs.declared.Handled.TheVariants as handled
use Rattle.kernel_abi.specs.declared.FromIndex.TheVariants as from_index
use Rattle.kernel_abi.specs.declared.Note.{Note}
use Rattle.kernel_abi.specs.declared.Note.TheVariants as note
use Rattle.task_table.specs.model.Start.{start}
use Rattle.task_table.specs.model.State.{Setup}
use Rattle.board_model.specs.Run.{run}
use Rattle.board_model.specs.Script.{Scenario}
use Rattle.board_model.specs.declared.outcomes.Level.TheVariants.{Calls}
use Rattle.run_script.specs.declared.events.Event.TheVariants.{Irq}
use Rattle.board_model.proofs.Computed.{computed}

setup : Setup
setup = record {
  tasks =
      record { priority = 0; entry = 134217729; stack = 536870976; start = true; regions = record { base = 134217728; size = 256; rights = record { read = true; write = false; execute = true; device = false } } ∷ record { base = 536870912; size = 256; rights = record { read = true; write = true; execute = false; device = false } } ∷ [] } ∷
      record { priority = 1; entry = 134217985; stack = 536871232; start = true; regions = record { base = 134217984; size = 256; rights = record { read = true; write = false; execute = true; device = false } } ∷ record { base = 536871168; size = 256; rights = record { read = true; write = true; execute = false; device = false } } ∷ [] } ∷
      record { priority = 1; entry = 134218241; stack = 536871488; start = true; regions = record { base = 134218240; size = 256; rights = record { read = true; write = false; execute = true; device = false } } ∷ record { base = 536871424; size = 256; rights = record { read = true; write = true; execute = false; device = false } } ∷ [] } ∷
      record { priority = 1; entry = 134218497; stack = 536871744; start = true; regions = record { base = 134218496; size = 256; rights = record { read = true; write = false; execute = true; device = false } } ∷ record { base = 536871680; size = 256; rights = record { read = true; write = true; execute = false; device = false } } ∷ [] } ∷
      record { priority = 1; entry = 134218753; stack = 536872000; start = true; regions = record { base = 134218752; size = 256; rights = record { read = true; write = false; execute = true; device = false } } ∷ record { base = 536871936; size = 256; rights = record { read = true; write = true; execute = false; device = false } } ∷ [] } ∷
      record { priority = 1; entry = 134219009; stack = 536872256; start = true; regions = record { base = 134219008; size = 256; rights = record { read = true; write = false; execute = true; device = false } } ∷ record { base = 536872192; size = 256; rights = record { read = true; write = true; execute = false; device = false } } ∷ [] } ∷
      record { priority = 1; entry = 134219265; stack = 536872512; start = true; regions = record { base = 134219264; size = 256; rights = record { read = true; write = false; execute = true; device = false } } ∷ record { base = 536872448; size = 256; rights = record { read = true; write = true; execute = false; device = false } } ∷ [] } ∷
      record { priority = 1; entry = 134219521; stack = 536872768; start = true; regions = record { base = 134219520; size = 256; rights = record { read = true; write = false; execute = true; device = false } } ∷ record { base = 536872704; size = 256; rights = record { read = true; write = true; execute = false; device = false } } ∷ [] } ∷
      record { priority = 2; entry = 134219777; stack = 536873024; start = true; regions = record { base = 134219776; size = 256; rights = record { read = true; write = false; execute = true; device = false } } ∷ record { base = 536872960; size = 256; rights = record { read = true; write = true; execute = false; device = false } } ∷ [] } ∷
      record { priority = 4; entry = 134220033; stack = 536873280; start = true; regions = record { base = 134220032; size = 256; rights = record { read = true; write = false; execute = true; device = false } } ∷ record { base = 536873216; size = 256; rights = record { read = true; write = true; execute = false; device = false } } ∷ [] } ∷
      record { priority = 4; entry = 134220289; stack = 536873536; start = true; regions = record { base = 134220288; size = 256; rights = record { read = true; write = false; execute = true; device = false } } ∷ record { base = 536873472; size = 256; rights = record { read = true; write = true; execute = false; device = false } } ∷ [] } ∷
      record { priority = 5; entry = 134220545; stack = 536873792; start = true; regions = record { base = 134220544; size = 256; rights = record { read = true; write = false; execute = true; device = false } } ∷ record { base = 536873728; size = 256; rights = record { read = true; write = true; execute = false; device = false } } ∷ [] } ∷
      record { priority = 2; entry = 134220801; stack = 536874048; start = true; regions = record { base = 134220800; size = 256; rights = record { read = true; write = false; execute = true; device = false } } ∷ record { base = 536873984; size = 256; rights = record { read = true; write = true; execute = false; device = false } } ∷ [] } ∷
      record { priority = 4; entry = 134221057; stack = 536874304; start = true; regions = record { base = 134221056; size = 256; rights = record { read = true; write = false; execute = true; device = false } } ∷ record { base = 536874240; size = 256; rights = record { read = true; write = true; execute = false; device = false } } ∷ [] } ∷
      record { priority = 4; entry = 134221313; stack = 536874560; start = true; regions = record { base = 134221312; size = 256; rights = record { read = true; write = false; execute = true; device = false } } ∷ record { base = 536874496; size = 256; rights = record { read = true; write = true; execute = false; device = false } } ∷ [] } ∷
      record { priority = 3; entry = 134221569; stack = 536874816; start = true; regions = record { base = 134221568; size = 256; rights = record { read = true; write = false; execute = true; device = false } } ∷ record { base = 536874752; size = 256; rights = record { read = true; write = true; execute = false; device = false } } ∷ [] } ∷
      record { priority = 2; entry = 134221825; stack = 536875072; start = true; regions = record { base = 134221824; size = 256; rights = record { read = true; write = false; execute = true; device = false } } ∷ record { base = 536875008; size = 256; rights = record { read = true; write = true; execute = false; device = false } } ∷ [] } ∷
      record { priority = 2; entry = 134222081; stack = 536875328; start = true; regions = record { base = 134222080; size = 256; rights = record { read = true; write = false; execute = true; device = false } } ∷ record { base = 536875264; size = 256; rights = record { read = true; write = true; execute = false; device = false } } ∷ [] } ∷
      record { priority = 4; entry = 134222337; stack = 536875584; start = true; regions = record { base = 134222336; size = 256; rights = record { read = true; write = false; execute = true; device = false } } ∷ record { base = 536875520; size = 256; rights = record { read = true; write = true; execute = false; device = false } } ∷ [] } ∷
      record { priority = 2; entry = 134222593; stack = 536875840; start = true; regions = record { base = 134222592; size = 256; rights = record { read = true; write = false; execute = true; device = false } } ∷ record { base = 536875776; size = 256; rights = record { read = true; write = true; execute = false; device = false } } ∷ [] } ∷
      record { priority = 4; entry = 134222849; stack = 536876096; start = true; regions = record { base = 134222848; size = 256; rights = record { read = true; write = false; execute = true; device = false } } ∷ record { base = 536876032; size = 256; rights = record { read = true; write = true; execute = false; device = false } } ∷ [] } ∷
      record { priority = 4; entry = 134223105; stack = 536876352; start = true; regions = record { base = 134223104; size = 256; rights = record { read = true; write = false; execute = true; device = false } } ∷ record { base = 536876288; size = 256; rights = record { read = true; write = true; execute = false; device = false } } ∷ [] } ∷
      record { priority = 2; entry = 134223361; stack = 536876608; start = true; regions = record { base = 134223360; size = 256; rights = record { read = true; write = false; execute = true; device = false } } ∷ record { base = 536876544; size = 256; rights = record { read = true; write = true; execute = false; device = false } } ∷ [] } ∷
      record { priority = 3; entry = 134223617; stack = 536876864; start = true; regions = record { base = 134223616; size = 256; rights = record { read = true; write = false; execute = true; device = false } } ∷ record { base = 536876800; size = 256; rights = record { read = true; write = true; execute = false; device = false } } ∷ [] } ∷
      record { priority = 2; entry = 134223873; stack = 536877120; start = true; regions = record { base = 134223872; size = 256; rights = record { read = true; write = false; execute = true; device = false } } ∷ record { base = 536877056; size = 256; rights = record { read = true; write = true; execute = false; device = false } } ∷ [] } ∷
      record { priority = 2; entry = 134224129; stack = 536877376; start = true; regions = record { base = 134224128; size = 256; rights = record { read = true; write = false; execute = true; device = false } } ∷ record { base = 536877312; size = 256; rights = record { read = true; write = true; execute = false; device = false } } ∷ [] } ∷
      record { priority = 5; entry = 134224385; stack = 536877632; start = true; regions = record { base = 134224384; size = 256; rights = record { read = true; write = false; execute = true; device = false } } ∷ record { base = 536877568; size = 256; rights = record { read = true; write = true; execute = false; device = false } } ∷ [] } ∷
      record { priority = 4; entry = 134224641; stack = 536877888; start = true; regions = record { base = 134224640; size = 256; rights = record { read = true; write = false; execute = true; device = false } } ∷ record { base = 536877824; size = 256; rights = record { read = true; write = true; execute = false; device = false } } ∷ [] } ∷
      record { priority = 3; entry = 134224897; stack = 536878144; start = true; regions = record { base = 134224896; size = 256; rights = record { read = true; write = false; execute = true; device = false } } ∷ record { base = 536878080; size = 256; rights = record { read = true; write = true; execute = false; device = false } } ∷ [] } ∷
      record { priority = 4; entry = 134225153; stack = 536878400; start = true; regions = record { base = 134225152; size = 256; rights = record { read = true; write = false; execute = true; device = false } } ∷ record { base = 536878336; size = 256; rights = record { read = true; write = true; execute = false; device = false } } ∷ [] } ∷
      record { priority = 4; entry = 134225409; stack = 536878656; start = true; regions = record { base = 134225408; size = 256; rights = record { read = true; write = false; execute = true; device = false } } ∷ record { base = 536878592; size = 256; rights = record { read = true; write = true; execute = false; device = false } } ∷ [] } ∷
      record { priority = 2; entry = 134225665; stack = 536878912; start = true; regions = record { base = 134225664; size = 256; rights = record { read = true; write = false; execute = true; device = false } } ∷ record { base = 536878848; size = 256; rights = record { read = true; write = true; execute = false; device = false } } ∷ [] } ∷
      [];
  lines = record { line = 0; owner = 1; bits = 1; device = 0 } ∷ record { line = 1; owner = 2; bits = 1; device = 0 } ∷ record { line = 2; owner = 3; bits = 1; device = 0 } ∷ record { line = 3; owner = 4; bits = 1; device = 0 } ∷ record { line = 4; owner = 5; bits = 1; device = 0 } ∷ record { line = 5; owner = 6; bits = 1; device = 0 } ∷ record { line = 6; owner = 7; bits = 1; device = 0 } ∷ [];
  fault_bits = 1;
  ram = 8192;
  line_count = 32;
  flash =
      (0 ∷ 36 ∷ 0 ∷ 37 ∷ 1 ∷ 38 ∷ 0 ∷ 39 ∷ 1 ∷ 32 ∷ 131 ∷ 70 ∷ 0 ∷ 223 ∷ 1 ∷ 35 ∷ 0 ∷ 147 ∷ 13 ∷ 76 ∷ 109 ∷ 70 ∷ 4 ∷ 38 ∷ 4 ∷ 175 ∷ 16 ∷ 32 ∷ 128 ∷ 70 ∷ 0 ∷ 32 ∷ 129 ∷ 70 ∷ 130 ∷ 70 ∷ 131 ∷ 70 ∷ 0 ∷ 223 ∷ 4 ∷ 152 ∷ 2 ∷ 40 ∷ 7 ∷ 209 ∷ 1 ∷ 32 ∷ 1 ∷ 144 ∷ 6 ∷ 76 ∷ 109 ∷ 70 ∷ 8 ∷ 38 ∷ 0 ∷ 39 ∷ 184 ∷ 70 ∷ 0 ∷ 223 ∷ 1 ∷ 51 ∷ 32 ∷ 43 ∷ 229 ∷ 209 ∷ 220 ∷ 231 ∷ 0 ∷ 0 ∷ 1 ∷ 0 ∷ 255 ∷ 255 ∷ 2 ∷ 0 ∷ 255 ∷ 255 ∷ []) ++ replicate 176 0 ++
      (1 ∷ 36 ∷ 1 ∷ 37 ∷ 7 ∷ 32 ∷ 131 ∷ 70 ∷ 0 ∷ 223 ∷ 108 ∷ 70 ∷ 16 ∷ 37 ∷ 1 ∷ 38 ∷ 0 ∷ 39 ∷ 1 ∷ 32 ∷ 131 ∷ 70 ∷ 0 ∷ 223 ∷ 20 ∷ 72 ∷ 133 ∷ 66 ∷ 240 ∷ 208 ∷ 43 ∷ 70 ∷ 50 ∷ 70 ∷ 1 ∷ 42 ∷ 13 ∷ 208 ∷ 2 ∷ 42 ∷ 13 ∷ 208 ∷ 3 ∷ 42 ∷ 21 ∷ 208 ∷ 4 ∷ 42 ∷ 25 ∷ 208 ∷ 28 ∷ 70 ∷ 0 ∷ 37 ∷ 110 ∷ 70 ∷ 4 ∷ 39 ∷ 2 ∷ 32 ∷ 131 ∷ 70 ∷ 0 ∷ 223 ∷ 222 ∷ 231 ∷ 4 ∷ 32 ∷ 0 ∷ 224 ∷ 5 ∷ 32 ∷ 131 ∷ 70 ∷ 28 ∷ 70 ∷ 0 ∷ 37 ∷ 27 ∷ 38 ∷ 8 ∷ 175 ∷ 16 ∷ 32 ∷ 128 ∷ 70 ∷ 0 ∷ 223 ∷ 235 ∷ 231 ∷ 28 ∷ 70 ∷ 0 ∷ 37 ∷ 12 ∷ 32 ∷ 131 ∷ 70 ∷ 0 ∷ 223 ∷ 204 ∷ 231 ∷ 8 ∷ 32 ∷ 131 ∷ 70 ∷ 0 ∷ 223 ∷ 255 ∷ 255 ∷ []) ++ replicate 146 0 ++
      (1 ∷ 36 ∷ 1 ∷ 37 ∷ 7 ∷ 32 ∷ 131 ∷ 70 ∷ 0 ∷ 223 ∷ 108 ∷ 70 ∷ 16 ∷ 37 ∷ 1 ∷ 38 ∷ 0 ∷ 39 ∷ 1 ∷ 32 ∷ 131 ∷ 70 ∷ 0 ∷ 223 ∷ 20 ∷ 72 ∷ 133 ∷ 66 ∷ 240 ∷ 208 ∷ 43 ∷ 70 ∷ 50 ∷ 70 ∷ 1 ∷ 42 ∷ 13 ∷ 208 ∷ 2 ∷ 42 ∷ 13 ∷ 208 ∷ 3 ∷ 42 ∷ 21 ∷ 208 ∷ 4 ∷ 42 ∷ 25 ∷ 208 ∷ 28 ∷ 70 ∷ 0 ∷ 37 ∷ 110 ∷ 70 ∷ 4 ∷ 39 ∷ 2 ∷ 32 ∷ 131 ∷ 70 ∷ 0 ∷ 223 ∷ 222 ∷ 231 ∷ 4 ∷ 32 ∷ 0 ∷ 224 ∷ 5 ∷ 32 ∷ 131 ∷ 70 ∷ 28 ∷ 70 ∷ 0 ∷ 37 ∷ 9 ∷ 38 ∷ 8 ∷ 175 ∷ 16 ∷ 32 ∷ 128 ∷ 70 ∷ 0 ∷ 223 ∷ 235 ∷ 231 ∷ 28 ∷ 70 ∷ 0 ∷ 37 ∷ 12 ∷ 32 ∷ 131 ∷ 70 ∷ 0 ∷ 223 ∷ 204 ∷ 231 ∷ 8 ∷ 32 ∷ 131 ∷ 70 ∷ 0 ∷ 223 ∷ 255 ∷ 255 ∷ []) ++ replicate 146 0 ++
      (1 ∷ 36 ∷ 1 ∷ 37 ∷ 7 ∷ 32 ∷ 131 ∷ 70 ∷ 0 ∷ 223 ∷ 108 ∷ 70 ∷ 16 ∷ 37 ∷ 1 ∷ 38 ∷ 0 ∷ 39 ∷ 1 ∷ 32 ∷ 131 ∷ 70 ∷ 0 ∷ 223 ∷ 20 ∷ 72 ∷ 133 ∷ 66 ∷ 240 ∷ 208 ∷ 43 ∷ 70 ∷ 50 ∷ 70 ∷ 1 ∷ 42 ∷ 13 ∷ 208 ∷ 2 ∷ 42 ∷ 13 ∷ 208 ∷ 3 ∷ 42 ∷ 21 ∷ 208 ∷ 4 ∷ 42 ∷ 25 ∷ 208 ∷ 28 ∷ 70 ∷ 0 ∷ 37 ∷ 110 ∷ 70 ∷ 4 ∷ 39 ∷ 2 ∷ 32 ∷ 131 ∷ 70 ∷ 0 ∷ 223 ∷ 222 ∷ 231 ∷ 4 ∷ 32 ∷ 0 ∷ 224 ∷ 5 ∷ 32 ∷ 131 ∷ 70 ∷ 28 ∷ 70 ∷ 0 ∷ 37 ∷ 16 ∷ 38 ∷ 8 ∷ 175 ∷ 16 ∷ 32 ∷ 128 ∷ 70 ∷ 0 ∷ 223 ∷ 235 ∷ 231 ∷ 28 ∷ 70 ∷ 0 ∷ 37 ∷ 12 ∷ 32 ∷ 131 ∷ 70 ∷ 0 ∷ 223 ∷ 204 ∷ 231 ∷ 8 ∷ 32 ∷ 131 ∷ 70 ∷ 0 ∷ 223 ∷ 255 ∷ 255 ∷ []) ++ replicate 146 0 ++
      (1 ∷ 36 ∷ 1 ∷ 37 ∷ 7 ∷ 32 ∷ 131 ∷ 70 ∷ 0 ∷ 223 ∷ 108 ∷ 70 ∷ 16 ∷ 37 ∷ 1 ∷ 38 ∷ 0 ∷ 39 ∷ 1 ∷ 32 ∷ 131 ∷ 70 ∷ 0 ∷ 223 ∷ 20 ∷ 72 ∷ 133 ∷ 66 ∷ 240 ∷ 208 ∷ 43 ∷ 70 ∷ 50 ∷ 70 ∷ 1 ∷ 42 ∷ 13 ∷ 208 ∷ 2 ∷ 42 ∷ 13 ∷ 208 ∷ 3 ∷ 42 ∷ 21 ∷ 208 ∷ 4 ∷ 42 ∷ 25 ∷ 208 ∷ 28 ∷ 70 ∷ 0 ∷ 37 ∷ 110 ∷ 70 ∷ 4 ∷ 39 ∷ 2 ∷ 32 ∷ 131 ∷ 70 ∷ 0 ∷ 223 ∷ 222 ∷ 231 ∷ 4 ∷ 32 ∷ 0 ∷ 224 ∷ 5 ∷ 32 ∷ 131 ∷ 70 ∷ 28 ∷ 70 ∷ 0 ∷ 37 ∷ 7 ∷ 38 ∷ 8 ∷ 175 ∷ 16 ∷ 32 ∷ 128 ∷ 70 ∷ 0 ∷ 223 ∷ 235 ∷ 231 ∷ 28 ∷ 70 ∷ 0 ∷ 37 ∷ 12 ∷ 32 ∷ 131 ∷ 70 ∷ 0 ∷ 223 ∷ 204 ∷ 231 ∷ 8 ∷ 32 ∷ 131 ∷ 70 ∷ 0 ∷ 223 ∷ 255 ∷ 255 ∷ []) ++ replicate 146 0 ++
      (1 ∷ 36 ∷ 1 ∷ 37 ∷ 7 ∷ 32 ∷ 131 ∷ 70 ∷ 0 ∷ 223 ∷ 108 ∷ 70 ∷ 16 ∷ 37 ∷ 1 ∷ 38 ∷ 0 ∷ 39 ∷ 1 ∷ 32 ∷ 131 ∷ 70 ∷ 0 ∷ 223 ∷ 20 ∷ 72 ∷ 133 ∷ 66 ∷ 240 ∷ 208 ∷ 43 ∷ 70 ∷ 50 ∷ 70 ∷ 1 ∷ 42 ∷ 13 ∷ 208 ∷ 2 ∷ 42 ∷ 13 ∷ 208 ∷ 3 ∷ 42 ∷ 21 ∷ 208 ∷ 4 ∷ 42 ∷ 25 ∷ 208 ∷ 28 ∷ 70 ∷ 0 ∷ 37 ∷ 110 ∷ 70 ∷ 4 ∷ 39 ∷ 2 ∷ 32 ∷ 131 ∷ 70 ∷ 0 ∷ 223 ∷ 222 ∷ 231 ∷ 4 ∷ 32 ∷ 0 ∷ 224 ∷ 5 ∷ 32 ∷ 131 ∷ 70 ∷ 28 ∷ 70 ∷ 0 ∷ 37 ∷ 11 ∷ 38 ∷ 8 ∷ 175 ∷ 16 ∷ 32 ∷ 128 ∷ 70 ∷ 0 ∷ 223 ∷ 235 ∷ 231 ∷ 28 ∷ 70 ∷ 0 ∷ 37 ∷ 12 ∷ 32 ∷ 131 ∷ 70 ∷ 0 ∷ 223 ∷ 204 ∷ 231 ∷ 8 ∷ 32 ∷ 131 ∷ 70 ∷ 0 ∷ 223 ∷ 255 ∷ 255 ∷ []) ++ replicate 146 0 ++
      (1 ∷ 36 ∷ 1 ∷ 37 ∷ 7 ∷ 32 ∷ 131 ∷ 70 ∷ 0 ∷ 223 ∷ 108 ∷ 70 ∷ 16 ∷ 37 ∷ 1 ∷ 38 ∷ 0 ∷ 39 ∷ 1 ∷ 32 ∷ 131 ∷ 70 ∷ 0 ∷ 223 ∷ 20 ∷ 72 ∷ 133 ∷ 66 ∷ 240 ∷ 208 ∷ 43 ∷ 70 ∷ 50 ∷ 70 ∷ 1 ∷ 42 ∷ 13 ∷ 208 ∷ 2 ∷ 42 ∷ 13 ∷ 208 ∷ 3 ∷ 42 ∷ 21 ∷ 208 ∷ 4 ∷ 42 ∷ 25 ∷ 208 ∷ 28 ∷ 70 ∷ 0 ∷ 37 ∷ 110 ∷ 70 ∷ 4 ∷ 39 ∷ 2 ∷ 32 ∷ 131 ∷ 70 ∷ 0 ∷ 223 ∷ 222 ∷ 231 ∷ 4 ∷ 32 ∷ 0 ∷ 224 ∷ 5 ∷ 32 ∷ 131 ∷ 70 ∷ 28 ∷ 70 ∷ 0 ∷ 37 ∷ 4 ∷ 38 ∷ 8 ∷ 175 ∷ 16 ∷ 32 ∷ 128 ∷ 70 ∷ 0 ∷ 223 ∷ 235 ∷ 231 ∷ 28 ∷ 70 ∷ 0 ∷ 37 ∷ 12 ∷ 32 ∷ 131 ∷ 70 ∷ 0 ∷ 223 ∷ 204 ∷ 231 ∷ 8 ∷ 32 ∷ 131 ∷ 70 ∷ 0 ∷ 223 ∷ 255 ∷ 255 ∷ []) ++ replicate 146 0 ++
      (1 ∷ 36 ∷ 1 ∷ 37 ∷ 7 ∷ 32 ∷ 131 ∷ 70 ∷ 0 ∷ 223 ∷ 108 ∷ 70 ∷ 16 ∷ 37 ∷ 1 ∷ 38 ∷ 0 ∷ 39 ∷ 1 ∷ 32 ∷ 131 ∷ 70 ∷ 0 ∷ 223 ∷ 20 ∷ 72 ∷ 133 ∷ 66 ∷ 240 ∷ 208 ∷ 43 ∷ 70 ∷ 50 ∷ 70 ∷ 1 ∷ 42 ∷ 13 ∷ 208 ∷ 2 ∷ 42 ∷ 13 ∷ 208 ∷ 3 ∷ 42 ∷ 21 ∷ 208 ∷ 4 ∷ 42 ∷ 25 ∷ 208 ∷ 28 ∷ 70 ∷ 0 ∷ 37 ∷ 110 ∷ 70 ∷ 4 ∷ 39 ∷ 2 ∷ 32 ∷ 131 ∷ 70 ∷ 0 ∷ 223 ∷ 222 ∷ 231 ∷ 4 ∷ 32 ∷ 0 ∷ 224 ∷ 5 ∷ 32 ∷ 131 ∷ 70 ∷ 28 ∷ 70 ∷ 0 ∷ 37 ∷ 15 ∷ 38 ∷ 8 ∷ 175 ∷ 16 ∷ 32 ∷ 128 ∷ 70 ∷ 0 ∷ 223 ∷ 235 ∷ 231 ∷ 28 ∷ 70 ∷ 0 ∷ 37 ∷ 12 ∷ 32 ∷ 131 ∷ 70 ∷ 0 ∷ 223 ∷ 204 ∷ 231 ∷ 8 ∷ 32 ∷ 131 ∷ 70 ∷ 0 ∷ 223 ∷ 255 ∷ 255 ∷ []) ++ replicate 146 0 ++
      (3 ∷ 32 ∷ 12 ∷ 144 ∷ 16 ∷ 168 ∷ 13 ∷ 144 ∷ 32 ∷ 32 ∷ 14 ∷ 144 ∷ 5 ∷ 36 ∷ 10 ∷ 32 ∷ 131 ∷ 70 ∷ 0 ∷ 223 ∷ 36 ∷ 4 ∷ 1 ∷ 52 ∷ 109 ∷ 70 ∷ 19 ∷ 38 ∷ 8 ∷ 175 ∷ 4 ∷ 32 ∷ 128 ∷ 70 ∷ 12 ∷ 168 ∷ 129 ∷ 70 ∷ 1 ∷ 32 ∷ 130 ∷ 70 ∷ 0 ∷ 32 ∷ 131 ∷ 70 ∷ 0 ∷ 223 ∷ 9 ∷ 32 ∷ 131 ∷ 70 ∷ 0 ∷ 223 ∷ 46 ∷ 70 ∷ 1 ∷ 52 ∷ 37 ∷ 70 ∷ 1 ∷ 36 ∷ 1 ∷ 39 ∷ 3 ∷ 32 ∷ 131 ∷ 70 ∷ 0 ∷ 223 ∷ 0 ∷ 36 ∷ 0 ∷ 37 ∷ 1 ∷ 38 ∷ 2 ∷ 79 ∷ 1 ∷ 32 ∷ 131 ∷ 70 ∷ 0 ∷ 223 ∷ 218 ∷ 231 ∷ 0 ∷ 0 ∷ 255 ∷ 255 ∷ 0 ∷ 128 ∷ []) ++ replicate 164 0 ++
      (3 ∷ 32 ∷ 12 ∷ 144 ∷ 16 ∷ 168 ∷ 13 ∷ 144 ∷ 32 ∷ 32 ∷ 14 ∷ 144 ∷ 3 ∷ 36 ∷ 10 ∷ 32 ∷ 131 ∷ 70 ∷ 0 ∷ 223 ∷ 36 ∷ 4 ∷ 3 ∷ 52 ∷ 109 ∷ 70 ∷ 7 ∷ 38 ∷ 8 ∷ 175 ∷ 4 ∷ 32 ∷ 128 ∷ 70 ∷ 12 ∷ 168 ∷ 129 ∷ 70 ∷ 1 ∷ 32 ∷ 130 ∷ 70 ∷ 0 ∷ 32 ∷ 131 ∷ 70 ∷ 0 ∷ 223 ∷ 9 ∷ 32 ∷ 131 ∷ 70 ∷ 0 ∷ 223 ∷ 46 ∷ 70 ∷ 6 ∷ 52 ∷ 37 ∷ 70 ∷ 1 ∷ 36 ∷ 1 ∷ 39 ∷ 3 ∷ 32 ∷ 131 ∷ 70 ∷ 0 ∷ 223 ∷ 0 ∷ 36 ∷ 0 ∷ 37 ∷ 1 ∷ 38 ∷ 2 ∷ 79 ∷ 1 ∷ 32 ∷ 131 ∷ 70 ∷ 0 ∷ 223 ∷ 218 ∷ 231 ∷ 0 ∷ 0 ∷ 255 ∷ 255 ∷ 0 ∷ 128 ∷ []) ++ replicate 164 0 ++
      (3 ∷ 32 ∷ 12 ∷ 144 ∷ 16 ∷ 168 ∷ 13 ∷ 144 ∷ 32 ∷ 32 ∷ 14 ∷ 144 ∷ 3 ∷ 36 ∷ 10 ∷ 32 ∷ 131 ∷ 70 ∷ 0 ∷ 223 ∷ 36 ∷ 4 ∷ 3 ∷ 52 ∷ 109 ∷ 70 ∷ 27 ∷ 38 ∷ 8 ∷ 175 ∷ 4 ∷ 32 ∷ 128 ∷ 70 ∷ 12 ∷ 168 ∷ 129 ∷ 70 ∷ 1 ∷ 32 ∷ 130 ∷ 70 ∷ 0 ∷ 32 ∷ 131 ∷ 70 ∷ 0 ∷ 223 ∷ 9 ∷ 32 ∷ 131 ∷ 70 ∷ 0 ∷ 223 ∷ 46 ∷ 70 ∷ 6 ∷ 52 ∷ 37 ∷ 70 ∷ 1 ∷ 36 ∷ 1 ∷ 39 ∷ 3 ∷ 32 ∷ 131 ∷ 70 ∷ 0 ∷ 223 ∷ 0 ∷ 36 ∷ 0 ∷ 37 ∷ 1 ∷ 38 ∷ 2 ∷ 79 ∷ 1 ∷ 32 ∷ 131 ∷ 70 ∷ 0 ∷ 223 ∷ 218 ∷ 231 ∷ 0 ∷ 0 ∷ 255 ∷ 255 ∷ 0 ∷ 128 ∷ []) ++ replicate 164 0 ++
      (3 ∷ 32 ∷ 12 ∷ 144 ∷ 16 ∷ 168 ∷ 13 ∷ 144 ∷ 32 ∷ 32 ∷ 14 ∷ 144 ∷ 2 ∷ 36 ∷ 10 ∷ 32 ∷ 131 ∷ 70 ∷ 0 ∷ 223 ∷ 36 ∷ 4 ∷ 3 ∷ 52 ∷ 109 ∷ 70 ∷ 14 ∷ 38 ∷ 8 ∷ 175 ∷ 4 ∷ 32 ∷ 128 ∷ 70 ∷ 12 ∷ 168 ∷ 129 ∷ 70 ∷ 1 ∷ 32 ∷ 130 ∷ 70 ∷ 0 ∷ 32 ∷ 131 ∷ 70 ∷ 0 ∷ 223 ∷ 9 ∷ 32 ∷ 131 ∷ 70 ∷ 0 ∷ 223 ∷ 46 ∷ 70 ∷ 4 ∷ 52 ∷ 37 ∷ 70 ∷ 1 ∷ 36 ∷ 1 ∷ 39 ∷ 3 ∷ 32 ∷ 131 ∷ 70 ∷ 0 ∷ 223 ∷ 0 ∷ 36 ∷ 0 ∷ 37 ∷ 1 ∷ 38 ∷ 2 ∷ 79 ∷ 1 ∷ 32 ∷ 131 ∷ 70 ∷ 0 ∷ 223 ∷ 218 ∷ 231 ∷ 0 ∷ 0 ∷ 255 ∷ 255 ∷ 0 ∷ 128 ∷ []) ++ replicate 164 0 ++
      (3 ∷ 32 ∷ 12 ∷ 144 ∷ 16 ∷ 168 ∷ 13 ∷ 144 ∷ 32 ∷ 32 ∷ 14 ∷ 144 ∷ 5 ∷ 36 ∷ 10 ∷ 32 ∷ 131 ∷ 70 ∷ 0 ∷ 223 ∷ 36 ∷ 4 ∷ 3 ∷ 52 ∷ 109 ∷ 70 ∷ 10 ∷ 38 ∷ 8 ∷ 175 ∷ 4 ∷ 32 ∷ 128 ∷ 70 ∷ 12 ∷ 168 ∷ 129 ∷ 70 ∷ 1 ∷ 32 ∷ 130 ∷ 70 ∷ 0 ∷ 32 ∷ 131 ∷ 70 ∷ 0 ∷ 223 ∷ 9 ∷ 32 ∷ 131 ∷ 70 ∷ 0 ∷ 223 ∷ 46 ∷ 70 ∷ 7 ∷ 52 ∷ 37 ∷ 70 ∷ 1 ∷ 36 ∷ 1 ∷ 39 ∷ 3 ∷ 32 ∷ 131 ∷ 70 ∷ 0 ∷ 223 ∷ 0 ∷ 36 ∷ 0 ∷ 37 ∷ 1 ∷ 38 ∷ 2 ∷ 79 ∷ 1 ∷ 32 ∷ 131 ∷ 70 ∷ 0 ∷ 223 ∷ 218 ∷ 231 ∷ 0 ∷ 0 ∷ 255 ∷ 255 ∷ 0 ∷ 128 ∷ []) ++ replicate 164 0 ++
      (3 ∷ 32 ∷ 12 ∷ 144 ∷ 16 ∷ 168 ∷ 13 ∷ 144 ∷ 32 ∷ 32 ∷ 14 ∷ 144 ∷ 2 ∷ 36 ∷ 10 ∷ 32 ∷ 131 ∷ 70 ∷ 0 ∷ 223 ∷ 36 ∷ 4 ∷ 2 ∷ 52 ∷ 109 ∷ 70 ∷ 18 ∷ 38 ∷ 8 ∷ 175 ∷ 4 ∷ 32 ∷ 128 ∷ 70 ∷ 12 ∷ 168 ∷ 129 ∷ 70 ∷ 1 ∷ 32 ∷ 130 ∷ 70 ∷ 0 ∷ 32 ∷ 131 ∷ 70 ∷ 0 ∷ 223 ∷ 9 ∷ 32 ∷ 131 ∷ 70 ∷ 0 ∷ 223 ∷ 46 ∷ 70 ∷ 5 ∷ 52 ∷ 37 ∷ 70 ∷ 1 ∷ 36 ∷ 1 ∷ 39 ∷ 3 ∷ 32 ∷ 131 ∷ 70 ∷ 0 ∷ 223 ∷ 0 ∷ 36 ∷ 0 ∷ 37 ∷ 1 ∷ 38 ∷ 2 ∷ 79 ∷ 1 ∷ 32 ∷ 131 ∷ 70 ∷ 0 ∷ 223 ∷ 218 ∷ 231 ∷ 0 ∷ 0 ∷ 255 ∷ 255 ∷ 0 ∷ 128 ∷ []) ++ replicate 164 0 ++
      (3 ∷ 32 ∷ 12 ∷ 144 ∷ 16 ∷ 168 ∷ 13 ∷ 144 ∷ 32 ∷ 32 ∷ 14 ∷ 144 ∷ 7 ∷ 36 ∷ 10 ∷ 32 ∷ 131 ∷ 70 ∷ 0 ∷ 223 ∷ 36 ∷ 4 ∷ 3 ∷ 52 ∷ 109 ∷ 70 ∷ 17 ∷ 38 ∷ 8 ∷ 175 ∷ 4 ∷ 32 ∷ 128 ∷ 70 ∷ 12 ∷ 168 ∷ 129 ∷ 70 ∷ 1 ∷ 32 ∷ 130 ∷ 70 ∷ 0 ∷ 32 ∷ 131 ∷ 70 ∷ 0 ∷ 223 ∷ 9 ∷ 32 ∷ 131 ∷ 70 ∷ 0 ∷ 223 ∷ 46 ∷ 70 ∷ 7 ∷ 52 ∷ 37 ∷ 70 ∷ 1 ∷ 36 ∷ 1 ∷ 39 ∷ 3 ∷ 32 ∷ 131 ∷ 70 ∷ 0 ∷ 223 ∷ 0 ∷ 36 ∷ 0 ∷ 37 ∷ 1 ∷ 38 ∷ 2 ∷ 79 ∷ 1 ∷ 32 ∷ 131 ∷ 70 ∷ 0 ∷ 223 ∷ 218 ∷ 231 ∷ 0 ∷ 0 ∷ 255 ∷ 255 ∷ 0 ∷ 128 ∷ []) ++ replicate 164 0 ++
      (3 ∷ 32 ∷ 12 ∷ 144 ∷ 16 ∷ 168 ∷ 13 ∷ 144 ∷ 32 ∷ 32 ∷ 14 ∷ 144 ∷ 5 ∷ 36 ∷ 10 ∷ 32 ∷ 131 ∷ 70 ∷ 0 ∷ 223 ∷ 36 ∷ 4 ∷ 1 ∷ 52 ∷ 109 ∷ 70 ∷ 8 ∷ 38 ∷ 8 ∷ 175 ∷ 4 ∷ 32 ∷ 128 ∷ 70 ∷ 12 ∷ 168 ∷ 129 ∷ 70 ∷ 1 ∷ 32 ∷ 130 ∷ 70 ∷ 0 ∷ 32 ∷ 131 ∷ 70 ∷ 0 ∷ 223 ∷ 9 ∷ 32 ∷ 131 ∷ 70 ∷ 0 ∷ 223 ∷ 46 ∷ 70 ∷ 4 ∷ 52 ∷ 37 ∷ 70 ∷ 1 ∷ 36 ∷ 1 ∷ 39 ∷ 3 ∷ 32 ∷ 131 ∷ 70 ∷ 0 ∷ 223 ∷ 0 ∷ 36 ∷ 0 ∷ 37 ∷ 1 ∷ 38 ∷ 2 ∷ 79 ∷ 1 ∷ 32 ∷ 131 ∷ 70 ∷ 0 ∷ 223 ∷ 218 ∷ 231 ∷ 0 ∷ 0 ∷ 255 ∷ 255 ∷ 0 ∷ 128 ∷ []) ++ replicate 164 0 ++
      (3 ∷ 32 ∷ 12 ∷ 144 ∷ 16 ∷ 168 ∷ 13 ∷ 144 ∷ 32 ∷ 32 ∷ 14 ∷ 144 ∷ 5 ∷ 36 ∷ 10 ∷ 32 ∷ 131 ∷ 70 ∷ 0 ∷ 223 ∷ 36 ∷ 4 ∷ 1 ∷ 52 ∷ 109 ∷ 70 ∷ 16 ∷ 38 ∷ 8 ∷ 175 ∷ 4 ∷ 32 ∷ 128 ∷ 70 ∷ 12 ∷ 168 ∷ 129 ∷ 70 ∷ 1 ∷ 32 ∷ 130 ∷ 70 ∷ 0 ∷ 32 ∷ 131 ∷ 70 ∷ 0 ∷ 223 ∷ 9 ∷ 32 ∷ 131 ∷ 70 ∷ 0 ∷ 223 ∷ 46 ∷ 70 ∷ 5 ∷ 52 ∷ 37 ∷ 70 ∷ 1 ∷ 36 ∷ 1 ∷ 39 ∷ 3 ∷ 32 ∷ 131 ∷ 70 ∷ 0 ∷ 223 ∷ 0 ∷ 36 ∷ 0 ∷ 37 ∷ 1 ∷ 38 ∷ 2 ∷ 79 ∷ 1 ∷ 32 ∷ 131 ∷ 70 ∷ 0 ∷ 223 ∷ 218 ∷ 231 ∷ 0 ∷ 0 ∷ 255 ∷ 255 ∷ 0 ∷ 128 ∷ []) ++ replicate 164 0 ++
      (3 ∷ 32 ∷ 12 ∷ 144 ∷ 16 ∷ 168 ∷ 13 ∷ 144 ∷ 32 ∷ 32 ∷ 14 ∷ 144 ∷ 6 ∷ 36 ∷ 10 ∷ 32 ∷ 131 ∷ 70 ∷ 0 ∷ 223 ∷ 36 ∷ 4 ∷ 5 ∷ 52 ∷ 109 ∷ 70 ∷ 15 ∷ 38 ∷ 8 ∷ 175 ∷ 4 ∷ 32 ∷ 128 ∷ 70 ∷ 12 ∷ 168 ∷ 129 ∷ 70 ∷ 1 ∷ 32 ∷ 130 ∷ 70 ∷ 0 ∷ 32 ∷ 131 ∷ 70 ∷ 0 ∷ 223 ∷ 9 ∷ 32 ∷ 131 ∷ 70 ∷ 0 ∷ 223 ∷ 46 ∷ 70 ∷ 8 ∷ 52 ∷ 37 ∷ 70 ∷ 1 ∷ 36 ∷ 1 ∷ 39 ∷ 3 ∷ 32 ∷ 131 ∷ 70 ∷ 0 ∷ 223 ∷ 0 ∷ 36 ∷ 0 ∷ 37 ∷ 1 ∷ 38 ∷ 2 ∷ 79 ∷ 1 ∷ 32 ∷ 131 ∷ 70 ∷ 0 ∷ 223 ∷ 218 ∷ 231 ∷ 0 ∷ 0 ∷ 255 ∷ 255 ∷ 0 ∷ 128 ∷ []) ++ replicate 164 0 ++
      (3 ∷ 32 ∷ 12 ∷ 144 ∷ 16 ∷ 168 ∷ 13 ∷ 144 ∷ 32 ∷ 32 ∷ 14 ∷ 144 ∷ 3 ∷ 36 ∷ 10 ∷ 32 ∷ 131 ∷ 70 ∷ 0 ∷ 223 ∷ 36 ∷ 4 ∷ 1 ∷ 52 ∷ 109 ∷ 70 ∷ 26 ∷ 38 ∷ 8 ∷ 175 ∷ 4 ∷ 32 ∷ 128 ∷ 70 ∷ 12 ∷ 168 ∷ 129 ∷ 70 ∷ 1 ∷ 32 ∷ 130 ∷ 70 ∷ 0 ∷ 32 ∷ 131 ∷ 70 ∷ 0 ∷ 223 ∷ 9 ∷ 32 ∷ 131 ∷ 70 ∷ 0 ∷ 223 ∷ 46 ∷ 70 ∷ 8 ∷ 52 ∷ 37 ∷ 70 ∷ 1 ∷ 36 ∷ 1 ∷ 39 ∷ 3 ∷ 32 ∷ 131 ∷ 70 ∷ 0 ∷ 223 ∷ 0 ∷ 36 ∷ 0 ∷ 37 ∷ 1 ∷ 38 ∷ 2 ∷ 79 ∷ 1 ∷ 32 ∷ 131 ∷ 70 ∷ 0 ∷ 223 ∷ 218 ∷ 231 ∷ 0 ∷ 0 ∷ 255 ∷ 255 ∷ 0 ∷ 128 ∷ []) ++ replicate 164 0 ++
      (3 ∷ 32 ∷ 12 ∷ 144 ∷ 16 ∷ 168 ∷ 13 ∷ 144 ∷ 32 ∷ 32 ∷ 14 ∷ 144 ∷ 7 ∷ 36 ∷ 10 ∷ 32 ∷ 131 ∷ 70 ∷ 0 ∷ 223 ∷ 36 ∷ 4 ∷ 0 ∷ 52 ∷ 109 ∷ 70 ∷ 4 ∷ 38 ∷ 8 ∷ 175 ∷ 4 ∷ 32 ∷ 128 ∷ 70 ∷ 12 ∷ 168 ∷ 129 ∷ 70 ∷ 1 ∷ 32 ∷ 130 ∷ 70 ∷ 0 ∷ 32 ∷ 131 ∷ 70 ∷ 0 ∷ 223 ∷ 9 ∷ 32 ∷ 131 ∷ 70 ∷ 0 ∷ 223 ∷ 46 ∷ 70 ∷ 6 ∷ 52 ∷ 37 ∷ 70 ∷ 1 ∷ 36 ∷ 1 ∷ 39 ∷ 3 ∷ 32 ∷ 131 ∷ 70 ∷ 0 ∷ 223 ∷ 0 ∷ 36 ∷ 0 ∷ 37 ∷ 1 ∷ 38 ∷ 2 ∷ 79 ∷ 1 ∷ 32 ∷ 131 ∷ 70 ∷ 0 ∷ 223 ∷ 218 ∷ 231 ∷ 0 ∷ 0 ∷ 255 ∷ 255 ∷ 0 ∷ 128 ∷ []) ++ replicate 164 0 ++
      (3 ∷ 32 ∷ 12 ∷ 144 ∷ 16 ∷ 168 ∷ 13 ∷ 144 ∷ 32 ∷ 32 ∷ 14 ∷ 144 ∷ 3 ∷ 36 ∷ 10 ∷ 32 ∷ 131 ∷ 70 ∷ 0 ∷ 223 ∷ 36 ∷ 4 ∷ 1 ∷ 52 ∷ 109 ∷ 70 ∷ 7 ∷ 38 ∷ 8 ∷ 175 ∷ 4 ∷ 32 ∷ 128 ∷ 70 ∷ 12 ∷ 168 ∷ 129 ∷ 70 ∷ 1 ∷ 32 ∷ 130 ∷ 70 ∷ 0 ∷ 32 ∷ 131 ∷ 70 ∷ 0 ∷ 223 ∷ 9 ∷ 32 ∷ 131 ∷ 70 ∷ 0 ∷ 223 ∷ 46 ∷ 70 ∷ 3 ∷ 52 ∷ 37 ∷ 70 ∷ 1 ∷ 36 ∷ 1 ∷ 39 ∷ 3 ∷ 32 ∷ 131 ∷ 70 ∷ 0 ∷ 223 ∷ 0 ∷ 36 ∷ 0 ∷ 37 ∷ 1 ∷ 38 ∷ 2 ∷ 79 ∷ 1 ∷ 32 ∷ 131 ∷ 70 ∷ 0 ∷ 223 ∷ 218 ∷ 231 ∷ 0 ∷ 0 ∷ 255 ∷ 255 ∷ 0 ∷ 128 ∷ []) ++ replicate 164 0 ++
      (3 ∷ 32 ∷ 12 ∷ 144 ∷ 16 ∷ 168 ∷ 13 ∷ 144 ∷ 32 ∷ 32 ∷ 14 ∷ 144 ∷ 2 ∷ 36 ∷ 10 ∷ 32 ∷ 131 ∷ 70 ∷ 0 ∷ 223 ∷ 36 ∷ 4 ∷ 3 ∷ 52 ∷ 109 ∷ 70 ∷ 8 ∷ 38 ∷ 8 ∷ 175 ∷ 4 ∷ 32 ∷ 128 ∷ 70 ∷ 12 ∷ 168 ∷ 129 ∷ 70 ∷ 1 ∷ 32 ∷ 130 ∷ 70 ∷ 0 ∷ 32 ∷ 131 ∷ 70 ∷ 0 ∷ 223 ∷ 9 ∷ 32 ∷ 131 ∷ 70 ∷ 0 ∷ 223 ∷ 46 ∷ 70 ∷ 6 ∷ 52 ∷ 37 ∷ 70 ∷ 1 ∷ 36 ∷ 1 ∷ 39 ∷ 3 ∷ 32 ∷ 131 ∷ 70 ∷ 0 ∷ 223 ∷ 0 ∷ 36 ∷ 0 ∷ 37 ∷ 1 ∷ 38 ∷ 2 ∷ 79 ∷ 1 ∷ 32 ∷ 131 ∷ 70 ∷ 0 ∷ 223 ∷ 218 ∷ 231 ∷ 0 ∷ 0 ∷ 255 ∷ 255 ∷ 0 ∷ 128 ∷ []) ++ replicate 164 0 ++
      (3 ∷ 32 ∷ 12 ∷ 144 ∷ 16 ∷ 168 ∷ 13 ∷ 144 ∷ 32 ∷ 32 ∷ 14 ∷ 144 ∷ 2 ∷ 36 ∷ 10 ∷ 32 ∷ 131 ∷ 70 ∷ 0 ∷ 223 ∷ 36 ∷ 4 ∷ 0 ∷ 52 ∷ 109 ∷ 70 ∷ 21 ∷ 38 ∷ 8 ∷ 175 ∷ 4 ∷ 32 ∷ 128 ∷ 70 ∷ 12 ∷ 168 ∷ 129 ∷ 70 ∷ 1 ∷ 32 ∷ 130 ∷ 70 ∷ 0 ∷ 32 ∷ 131 ∷ 70 ∷ 0 ∷ 223 ∷ 9 ∷ 32 ∷ 131 ∷ 70 ∷ 0 ∷ 223 ∷ 46 ∷ 70 ∷ 5 ∷ 52 ∷ 37 ∷ 70 ∷ 1 ∷ 36 ∷ 1 ∷ 39 ∷ 3 ∷ 32 ∷ 131 ∷ 70 ∷ 0 ∷ 223 ∷ 0 ∷ 36 ∷ 0 ∷ 37 ∷ 1 ∷ 38 ∷ 2 ∷ 79 ∷ 1 ∷ 32 ∷ 131 ∷ 70 ∷ 0 ∷ 223 ∷ 218 ∷ 231 ∷ 0 ∷ 0 ∷ 255 ∷ 255 ∷ 0 ∷ 128 ∷ []) ++ replicate 164 0 ++
      (3 ∷ 32 ∷ 12 ∷ 144 ∷ 16 ∷ 168 ∷ 13 ∷ 144 ∷ 32 ∷ 32 ∷ 14 ∷ 144 ∷ 6 ∷ 36 ∷ 10 ∷ 32 ∷ 131 ∷ 70 ∷ 0 ∷ 223 ∷ 36 ∷ 4 ∷ 0 ∷ 52 ∷ 109 ∷ 70 ∷ 9 ∷ 38 ∷ 8 ∷ 175 ∷ 4 ∷ 32 ∷ 128 ∷ 70 ∷ 12 ∷ 168 ∷ 129 ∷ 70 ∷ 1 ∷ 32 ∷ 130 ∷ 70 ∷ 0 ∷ 32 ∷ 131 ∷ 70 ∷ 0 ∷ 223 ∷ 9 ∷ 32 ∷ 131 ∷ 70 ∷ 0 ∷ 223 ∷ 46 ∷ 70 ∷ 4 ∷ 52 ∷ 37 ∷ 70 ∷ 1 ∷ 36 ∷ 1 ∷ 39 ∷ 3 ∷ 32 ∷ 131 ∷ 70 ∷ 0 ∷ 223 ∷ 0 ∷ 36 ∷ 0 ∷ 37 ∷ 1 ∷ 38 ∷ 2 ∷ 79 ∷ 1 ∷ 32 ∷ 131 ∷ 70 ∷ 0 ∷ 223 ∷ 218 ∷ 231 ∷ 0 ∷ 0 ∷ 255 ∷ 255 ∷ 0 ∷ 128 ∷ []) ++ replicate 164 0 ++
      (3 ∷ 32 ∷ 12 ∷ 144 ∷ 16 ∷ 168 ∷ 13 ∷ 144 ∷ 32 ∷ 32 ∷ 14 ∷ 144 ∷ 6 ∷ 36 ∷ 10 ∷ 32 ∷ 131 ∷ 70 ∷ 0 ∷ 223 ∷ 36 ∷ 4 ∷ 4 ∷ 52 ∷ 109 ∷ 70 ∷ 14 ∷ 38 ∷ 8 ∷ 175 ∷ 4 ∷ 32 ∷ 128 ∷ 70 ∷ 12 ∷ 168 ∷ 129 ∷ 70 ∷ 1 ∷ 32 ∷ 130 ∷ 70 ∷ 0 ∷ 32 ∷ 131 ∷ 70 ∷ 0 ∷ 223 ∷ 9 ∷ 32 ∷ 131 ∷ 70 ∷ 0 ∷ 223 ∷ 46 ∷ 70 ∷ 4 ∷ 52 ∷ 37 ∷ 70 ∷ 1 ∷ 36 ∷ 1 ∷ 39 ∷ 3 ∷ 32 ∷ 131 ∷ 70 ∷ 0 ∷ 223 ∷ 0 ∷ 36 ∷ 0 ∷ 37 ∷ 1 ∷ 38 ∷ 2 ∷ 79 ∷ 1 ∷ 32 ∷ 131 ∷ 70 ∷ 0 ∷ 223 ∷ 218 ∷ 231 ∷ 0 ∷ 0 ∷ 255 ∷ 255 ∷ 0 ∷ 128 ∷ []) ++ replicate 164 0 ++
      (3 ∷ 32 ∷ 12 ∷ 144 ∷ 16 ∷ 168 ∷ 13 ∷ 144 ∷ 32 ∷ 32 ∷ 14 ∷ 144 ∷ 7 ∷ 36 ∷ 10 ∷ 32 ∷ 131 ∷ 70 ∷ 0 ∷ 223 ∷ 36 ∷ 4 ∷ 1 ∷ 52 ∷ 109 ∷ 70 ∷ 30 ∷ 38 ∷ 8 ∷ 175 ∷ 4 ∷ 32 ∷ 128 ∷ 70 ∷ 12 ∷ 168 ∷ 129 ∷ 70 ∷ 1 ∷ 32 ∷ 130 ∷ 70 ∷ 0 ∷ 32 ∷ 131 ∷ 70 ∷ 0 ∷ 223 ∷ 9 ∷ 32 ∷ 131 ∷ 70 ∷ 0 ∷ 223 ∷ 46 ∷ 70 ∷ 5 ∷ 52 ∷ 37 ∷ 70 ∷ 1 ∷ 36 ∷ 1 ∷ 39 ∷ 3 ∷ 32 ∷ 131 ∷ 70 ∷ 0 ∷ 223 ∷ 0 ∷ 36 ∷ 0 ∷ 37 ∷ 1 ∷ 38 ∷ 2 ∷ 79 ∷ 1 ∷ 32 ∷ 131 ∷ 70 ∷ 0 ∷ 223 ∷ 218 ∷ 231 ∷ 0 ∷ 0 ∷ 255 ∷ 255 ∷ 0 ∷ 128 ∷ []) ++ replicate 164 0 ++
      (3 ∷ 32 ∷ 12 ∷ 144 ∷ 16 ∷ 168 ∷ 13 ∷ 144 ∷ 32 ∷ 32 ∷ 14 ∷ 144 ∷ 3 ∷ 36 ∷ 10 ∷ 32 ∷ 131 ∷ 70 ∷ 0 ∷ 223 ∷ 36 ∷ 4 ∷ 5 ∷ 52 ∷ 109 ∷ 70 ∷ 15 ∷ 38 ∷ 8 ∷ 175 ∷ 4 ∷ 32 ∷ 128 ∷ 70 ∷ 12 ∷ 168 ∷ 129 ∷ 70 ∷ 1 ∷ 32 ∷ 130 ∷ 70 ∷ 0 ∷ 32 ∷ 131 ∷ 70 ∷ 0 ∷ 223 ∷ 9 ∷ 32 ∷ 131 ∷ 70 ∷ 0 ∷ 223 ∷ 46 ∷ 70 ∷ 3 ∷ 52 ∷ 37 ∷ 70 ∷ 1 ∷ 36 ∷ 1 ∷ 39 ∷ 3 ∷ 32 ∷ 131 ∷ 70 ∷ 0 ∷ 223 ∷ 0 ∷ 36 ∷ 0 ∷ 37 ∷ 1 ∷ 38 ∷ 2 ∷ 79 ∷ 1 ∷ 32 ∷ 131 ∷ 70 ∷ 0 ∷ 223 ∷ 218 ∷ 231 ∷ 0 ∷ 0 ∷ 255 ∷ 255 ∷ 0 ∷ 128 ∷ []) ++ replicate 164 0 ++
      (3 ∷ 32 ∷ 12 ∷ 144 ∷ 16 ∷ 168 ∷ 13 ∷ 144 ∷ 32 ∷ 32 ∷ 14 ∷ 144 ∷ 7 ∷ 36 ∷ 10 ∷ 32 ∷ 131 ∷ 70 ∷ 0 ∷ 223 ∷ 36 ∷ 4 ∷ 4 ∷ 52 ∷ 109 ∷ 70 ∷ 9 ∷ 38 ∷ 8 ∷ 175 ∷ 4 ∷ 32 ∷ 128 ∷ 70 ∷ 12 ∷ 168 ∷ 129 ∷ 70 ∷ 1 ∷ 32 ∷ 130 ∷ 70 ∷ 0 ∷ 32 ∷ 131 ∷ 70 ∷ 0 ∷ 223 ∷ 9 ∷ 32 ∷ 131 ∷ 70 ∷ 0 ∷ 223 ∷ 46 ∷ 70 ∷ 3 ∷ 52 ∷ 37 ∷ 70 ∷ 1 ∷ 36 ∷ 1 ∷ 39 ∷ 3 ∷ 32 ∷ 131 ∷ 70 ∷ 0 ∷ 223 ∷ 0 ∷ 36 ∷ 0 ∷ 37 ∷ 1 ∷ 38 ∷ 2 ∷ 79 ∷ 1 ∷ 32 ∷ 131 ∷ 70 ∷ 0 ∷ 223 ∷ 218 ∷ 231 ∷ 0 ∷ 0 ∷ 255 ∷ 255 ∷ 0 ∷ 128 ∷ []) ++ replicate 164 0 ++
      (3 ∷ 32 ∷ 12 ∷ 144 ∷ 16 ∷ 168 ∷ 13 ∷ 144 ∷ 32 ∷ 32 ∷ 14 ∷ 144 ∷ 3 ∷ 36 ∷ 10 ∷ 32 ∷ 131 ∷ 70 ∷ 0 ∷ 223 ∷ 36 ∷ 4 ∷ 2 ∷ 52 ∷ 109 ∷ 70 ∷ 14 ∷ 38 ∷ 8 ∷ 175 ∷ 4 ∷ 32 ∷ 128 ∷ 70 ∷ 12 ∷ 168 ∷ 129 ∷ 70 ∷ 1 ∷ 32 ∷ 130 ∷ 70 ∷ 0 ∷ 32 ∷ 131 ∷ 70 ∷ 0 ∷ 223 ∷ 9 ∷ 32 ∷ 131 ∷ 70 ∷ 0 ∷ 223 ∷ 46 ∷ 70 ∷ 4 ∷ 52 ∷ 37 ∷ 70 ∷ 1 ∷ 36 ∷ 1 ∷ 39 ∷ 3 ∷ 32 ∷ 131 ∷ 70 ∷ 0 ∷ 223 ∷ 0 ∷ 36 ∷ 0 ∷ 37 ∷ 1 ∷ 38 ∷ 2 ∷ 79 ∷ 1 ∷ 32 ∷ 131 ∷ 70 ∷ 0 ∷ 223 ∷ 218 ∷ 231 ∷ 0 ∷ 0 ∷ 255 ∷ 255 ∷ 0 ∷ 128 ∷ []) ++ replicate 164 0 ++
      (3 ∷ 32 ∷ 12 ∷ 144 ∷ 16 ∷ 168 ∷ 13 ∷ 144 ∷ 32 ∷ 32 ∷ 14 ∷ 144 ∷ 5 ∷ 36 ∷ 10 ∷ 32 ∷ 131 ∷ 70 ∷ 0 ∷ 223 ∷ 36 ∷ 4 ∷ 1 ∷ 52 ∷ 109 ∷ 70 ∷ 21 ∷ 38 ∷ 8 ∷ 175 ∷ 4 ∷ 32 ∷ 128 ∷ 70 ∷ 12 ∷ 168 ∷ 129 ∷ 70 ∷ 1 ∷ 32 ∷ 130 ∷ 70 ∷ 0 ∷ 32 ∷ 131 ∷ 70 ∷ 0 ∷ 223 ∷ 9 ∷ 32 ∷ 131 ∷ 70 ∷ 0 ∷ 223 ∷ 46 ∷ 70 ∷ 8 ∷ 52 ∷ 37 ∷ 70 ∷ 1 ∷ 36 ∷ 1 ∷ 39 ∷ 3 ∷ 32 ∷ 131 ∷ 70 ∷ 0 ∷ 223 ∷ 0 ∷ 36 ∷ 0 ∷ 37 ∷ 1 ∷ 38 ∷ 2 ∷ 79 ∷ 1 ∷ 32 ∷ 131 ∷ 70 ∷ 0 ∷ 223 ∷ 218 ∷ 231 ∷ 0 ∷ 0 ∷ 255 ∷ 255 ∷ 0 ∷ 128 ∷ []) ++ replicate 164 0 ++
      (3 ∷ 32 ∷ 12 ∷ 144 ∷ 16 ∷ 168 ∷ 13 ∷ 144 ∷ 32 ∷ 32 ∷ 14 ∷ 144 ∷ 6 ∷ 36 ∷ 10 ∷ 32 ∷ 131 ∷ 70 ∷ 0 ∷ 223 ∷ 36 ∷ 4 ∷ 0 ∷ 52 ∷ 109 ∷ 70 ∷ 24 ∷ 38 ∷ 8 ∷ 175 ∷ 4 ∷ 32 ∷ 128 ∷ 70 ∷ 12 ∷ 168 ∷ 129 ∷ 70 ∷ 1 ∷ 32 ∷ 130 ∷ 70 ∷ 0 ∷ 32 ∷ 131 ∷ 70 ∷ 0 ∷ 223 ∷ 9 ∷ 32 ∷ 131 ∷ 70 ∷ 0 ∷ 223 ∷ 46 ∷ 70 ∷ 5 ∷ 52 ∷ 37 ∷ 70 ∷ 1 ∷ 36 ∷ 1 ∷ 39 ∷ 3 ∷ 32 ∷ 131 ∷ 70 ∷ 0 ∷ 223 ∷ 0 ∷ 36 ∷ 0 ∷ 37 ∷ 1 ∷ 38 ∷ 2 ∷ 79 ∷ 1 ∷ 32 ∷ 131 ∷ 70 ∷ 0 ∷ 223 ∷ 218 ∷ 231 ∷ 0 ∷ 0 ∷ 255 ∷ 255 ∷ 0 ∷ 128 ∷ []) ++ replicate 164 0 ++
      (3 ∷ 32 ∷ 12 ∷ 144 ∷ 16 ∷ 168 ∷ 13 ∷ 144 ∷ 32 ∷ 32 ∷ 14 ∷ 144 ∷ 4 ∷ 36 ∷ 10 ∷ 32 ∷ 131 ∷ 70 ∷ 0 ∷ 223 ∷ 36 ∷ 4 ∷ 4 ∷ 52 ∷ 109 ∷ 70 ∷ 27 ∷ 38 ∷ 8 ∷ 175 ∷ 4 ∷ 32 ∷ 128 ∷ 70 ∷ 12 ∷ 168 ∷ 129 ∷ 70 ∷ 1 ∷ 32 ∷ 130 ∷ 70 ∷ 0 ∷ 32 ∷ 131 ∷ 70 ∷ 0 ∷ 223 ∷ 9 ∷ 32 ∷ 131 ∷ 70 ∷ 0 ∷ 223 ∷ 46 ∷ 70 ∷ 4 ∷ 52 ∷ 37 ∷ 70 ∷ 1 ∷ 36 ∷ 1 ∷ 39 ∷ 3 ∷ 32 ∷ 131 ∷ 70 ∷ 0 ∷ 223 ∷ 0 ∷ 36 ∷ 0 ∷ 37 ∷ 1 ∷ 38 ∷ 2 ∷ 79 ∷ 1 ∷ 32 ∷ 131 ∷ 70 ∷ 0 ∷ 223 ∷ 218 ∷ 231 ∷ 0 ∷ 0 ∷ 255 ∷ 255 ∷ 0 ∷ 128 ∷ []) ++ replicate 164 0;
}

scenario : Scenario
scenario = record { setup = setup; script = record { every = Some 64; events = (28, Irq 0) ∷ (34, Irq 7) ∷ (50, Irq 7) ∷ (76, Irq 3) ∷ (95, Irq 0) ∷ (106, Irq 7) ∷ (116, Irq 3) ∷ (136, Irq 2) ∷ (153, Irq 4) ∷ (165, Irq 0) ∷ (179, Irq 5) ∷ (197, Irq 0) ∷ (216, Irq 5) ∷ (231, Irq 5) ∷ (242, Irq 1) ∷ (265, Irq 2) ∷ (274, Irq 2) ∷ (298, Irq 3) ∷ (311, Irq 7) ∷ (320, Irq 1) ∷ (350, Irq 4) ∷ (363, Irq 5) ∷ (380, Irq 2) ∷ (394, Irq 1) ∷ (409, Irq 0) ∷ (428, Irq 3) ∷ (446, Irq 2) ∷ [] }; devices = [] }

expected : List (ℕ × Note)
expected =
    (6, note.Syscall 0 1 (0 ∷ 0 ∷ 1 ∷ 0 ∷ 0 ∷ 0 ∷ 0 ∷ [])) ∷
    (6, note.Listen 0 from_index.Any 1) ∷
    (11, note.Syscall 1 7 (1 ∷ 1 ∷ 0 ∷ 0 ∷ 0 ∷ 0 ∷ 0 ∷ [])) ∷
    (11, note.Ret 1 (1 ∷ 1 ∷ 0 ∷ 0 ∷ 0 ∷ 0 ∷ [])) ∷
    (18, note.Syscall 1 1 (536871232 ∷ 16 ∷ 1 ∷ 0 ∷ 0 ∷ 0 ∷ 0 ∷ [])) ∷
    (18, note.Listen 1 from_index.Any 1) ∷
    (23, note.Syscall 2 7 (1 ∷ 1 ∷ 0 ∷ 0 ∷ 0 ∷ 0 ∷ 0 ∷ [])) ∷
    (23, note.Ret 2 (1 ∷ 1 ∷ 0 ∷ 0 ∷ 0 ∷ 0 ∷ [])) ∷
    (28, note.Irq 0 handled.Posted) ∷
    (28, note.Post 1 1 1) ∷
    (28, note.Ret 1 (0 ∷ 65535 ∷ 1 ∷ 0 ∷ 0 ∷ 0 ∷ [])) ∷
    (30, note.Syscall 2 1 (536871488 ∷ 16 ∷ 1 ∷ 0 ∷ 0 ∷ 0 ∷ 0 ∷ [])) ∷
    (30, note.Listen 2 from_index.Any 1) ∷
    (34, note.Irq 7 handled.Unowned) ∷
    (35, note.Syscall 3 7 (1 ∷ 1 ∷ 0 ∷ 0 ∷ 0 ∷ 0 ∷ 0 ∷ [])) ∷
    (35, note.Ret 3 (1 ∷ 1 ∷ 0 ∷ 0 ∷ 0 ∷ 0 ∷ [])) ∷
    (42, note.Syscall 3 1 (536871744 ∷ 16 ∷ 1 ∷ 0 ∷ 0 ∷ 0 ∷ 0 ∷ [])) ∷
    (42, note.Listen 3 from_index.Any 1) ∷
    (47, note.Syscall 4 7 (1 ∷ 1 ∷ 0 ∷ 0 ∷ 0 ∷ 0 ∷ 0 ∷ [])) ∷
    (47, note.Ret 4 (1 ∷ 1 ∷ 0 ∷ 0 ∷ 0 ∷ 0 ∷ [])) ∷
    (50, note.Irq 7 handled.Unowned) ∷
    (54, note.Syscall 4 1 (536872000 ∷ 16 ∷ 1 ∷ 0 ∷ 0 ∷ 0 ∷ 0 ∷ [])) ∷
    (54, note.Listen 4 from_index.Any 1) ∷
    (59, note.Syscall 5 7 (1 ∷ 1 ∷ 0 ∷ 0 ∷ 0 ∷ 0 ∷ 0 ∷ [])) ∷
    (59, note.Ret 5 (1 ∷ 1 ∷ 0 ∷ 0 ∷ 0 ∷ 0 ∷ [])) ∷
    (64, note.Tick 1) ∷
    (66, note.Syscall 5 1 (536872256 ∷ 16 ∷ 1 ∷ 0 ∷ 0 ∷ 0 ∷ 0 ∷ [])) ∷
    (66, note.Listen 5 from_index.Any 1) ∷
    (71, note.Syscall 6 7 (1 ∷ 1 ∷ 0 ∷ 0 ∷ 0 ∷ 0 ∷ 0 ∷ [])) ∷
    (71, note.Ret 6 (1 ∷ 1 ∷ 0 ∷ 0 ∷ 0 ∷ 0 ∷ [])) ∷
    (76, note.Irq 3 handled.Posted) ∷
    (76, note.Post 4 1 1) ∷
    (76, note.Ret 4 (0 ∷ 65535 ∷ 1 ∷ 0 ∷ 0 ∷ 0 ∷ [])) ∷
    (78, note.Syscall 6 1 (536872512 ∷ 16 ∷ 1 ∷ 0 ∷ 0 ∷ 0 ∷ 0 ∷ [])) ∷
    (78, note.Listen 6 from_index.Any 1) ∷
    (83, note.Syscall 7 7 (1 ∷ 1 ∷ 0 ∷ 0 ∷ 0 ∷ 0 ∷ 0 ∷ [])) ∷
    (83, note.Ret 7 (1 ∷ 1 ∷ 0 ∷ 0 ∷ 0 ∷ 0 ∷ [])) ∷
    (90, note.Syscall 7 1 (536872768 ∷ 16 ∷ 1 ∷ 0 ∷ 0 ∷ 0 ∷ 0 ∷ [])) ∷
    (90, note.Listen 7 from_index.Any 1) ∷
    (95, note.Irq 0 handled.Held) ∷
    (98, note.Syscall 1 7 (1 ∷ 1 ∷ 1 ∷ 0 ∷ 0 ∷ 0 ∷ 0 ∷ [])) ∷
    (98, note.Post 1 1 1) ∷
    (98, note.Ret 1 (1 ∷ 1 ∷ 1 ∷ 0 ∷ 0 ∷ 0 ∷ [])) ∷
    (105, note.Syscall 1 1 (536871232 ∷ 16 ∷ 1 ∷ 0 ∷ 0 ∷ 0 ∷ 0 ∷ [])) ∷
    (105, note.Ret 1 (0 ∷ 65535 ∷ 1 ∷ 0 ∷ 0 ∷ 0 ∷ [])) ∷
    (106, note.Irq 7 handled.Unowned) ∷
    (113, note.Syscall 1 7 (1 ∷ 1 ∷ 1 ∷ 0 ∷ 0 ∷ 0 ∷ 0 ∷ [])) ∷
    (113, note.Ret 1 (1 ∷ 1 ∷ 1 ∷ 0 ∷ 0 ∷ 0 ∷ [])) ∷
    (116, note.Irq 3 handled.Held) ∷
    (120, note.Syscall 1 1 (536871232 ∷ 16 ∷ 1 ∷ 0 ∷ 0 ∷ 0 ∷ 0 ∷ [])) ∷
    (120, note.Listen 1 from_index.Any 1) ∷
    (128, note.Tick 2) ∷
    (128, note.Syscall 4 7 (1 ∷ 1 ∷ 1 ∷ 0 ∷ 0 ∷ 0 ∷ 0 ∷ [])) ∷
    (128, note.Post 4 1 1) ∷
    (128, note.Ret 4 (1 ∷ 1 ∷ 1 ∷ 0 ∷ 0 ∷ 0 ∷ [])) ∷
    (135, note.Syscall 4 1 (536872000 ∷ 16 ∷ 1 ∷ 0 ∷ 0 ∷ 0 ∷ 0 ∷ [])) ∷
    (135, note.Ret 4 (0 ∷ 65535 ∷ 1 ∷ 0 ∷ 0 ∷ 0 ∷ [])) ∷
    (136, note.Irq 2 handled.Posted) ∷
    (136, note.Post 3 1 1) ∷
    (136, note.Ret 3 (0 ∷ 65535 ∷ 1 ∷ 0 ∷ 0 ∷ 0 ∷ [])) ∷
    (143, note.Syscall 4 7 (1 ∷ 1 ∷ 1 ∷ 0 ∷ 0 ∷ 0 ∷ 0 ∷ [])) ∷
    (143, note.Ret 4 (1 ∷ 1 ∷ 1 ∷ 0 ∷ 0 ∷ 0 ∷ [])) ∷
    (150, note.Syscall 4 1 (536872000 ∷ 16 ∷ 1 ∷ 0 ∷ 0 ∷ 0 ∷ 0 ∷ [])) ∷
    (150, note.Listen 4 from_index.Any 1) ∷
    (153, note.Irq 4 handled.Posted) ∷
    (153, note.Post 5 1 1) ∷
    (153, note.Ret 5 (0 ∷ 65535 ∷ 1 ∷ 0 ∷ 0 ∷ 0 ∷ [])) ∷
    (158, note.Syscall 3 7 (1 ∷ 1 ∷ 1 ∷ 0 ∷ 0 ∷ 0 ∷ 0 ∷ [])) ∷
    (158, note.Ret 3 (1 ∷ 1 ∷ 1 ∷ 0 ∷ 0 ∷ 0 ∷ [])) ∷
    (165, note.Irq 0 handled.Posted) ∷
    (165, note.Post 1 1 1) ∷
    (165, note.Ret 1 (0 ∷ 65535 ∷ 1 ∷ 0 ∷ 0 ∷ 0 ∷ [])) ∷
    (165, note.Syscall 3 1 (536871744 ∷ 16 ∷ 1 ∷ 0 ∷ 0 ∷ 0 ∷ 0 ∷ [])) ∷
    (165, note.Listen 3 from_index.Any 1) ∷
    (173, note.Syscall 5 7 (1 ∷ 1 ∷ 1 ∷ 0 ∷ 0 ∷ 0 ∷ 0 ∷ [])) ∷
    (173, note.Ret 5 (1 ∷ 1 ∷ 1 ∷ 0 ∷ 0 ∷ 0 ∷ [])) ∷
    (179, note.Irq 5 handled.Posted) ∷
    (179, note.Post 6 1 1) ∷
    (179, note.Ret 6 (0 ∷ 65535 ∷ 1 ∷ 0 ∷ 0 ∷ 0 ∷ [])) ∷
    (180, note.Syscall 5 1 (536872256 ∷ 16 ∷ 1 ∷ 0 ∷ 0 ∷ 0 ∷ 0 ∷ [])) ∷
    (180, note.Listen 5 from_index.Any 1) ∷
    (188, note.Syscall 6 7 (1 ∷ 1 ∷ 1 ∷ 0 ∷ 0 ∷ 0 ∷ 0 ∷ [])) ∷
    (188, note.Ret 6 (1 ∷ 1 ∷ 1 ∷ 0 ∷ 0 ∷ 0 ∷ [])) ∷
    (192, note.Tick 3) ∷
    (195, note.Syscall 6 1 (536872512 ∷ 16 ∷ 1 ∷ 0 ∷ 0 ∷ 0 ∷ 0 ∷ [])) ∷
    (195, note.Listen 6 from_index.Any 1) ∷
    (197, note.Irq 0 handled.Held) ∷
    (203, note.Syscall 1 7 (1 ∷ 1 ∷ 1 ∷ 0 ∷ 0 ∷ 0 ∷ 0 ∷ [])) ∷
    (203, note.Post 1 1 1) ∷
    (203, note.Ret 1 (1 ∷ 1 ∷ 1 ∷ 0 ∷ 0 ∷ 0 ∷ [])) ∷
    (210, note.Syscall 1 1 (536871232 ∷ 16 ∷ 1 ∷ 0 ∷ 0 ∷ 0 ∷ 0 ∷ [])) ∷
    (210, note.Ret 1 (0 ∷ 65535 ∷ 1 ∷ 0 ∷ 0 ∷ 0 ∷ [])) ∷
    (216, note.Irq 5 handled.Posted) ∷
    (216, note.Post 6 1 1) ∷
    (216, note.Ret 6 (0 ∷ 65535 ∷ 1 ∷ 0 ∷ 0 ∷ 0 ∷ [])) ∷
    (218, note.Syscall 1 7 (1 ∷ 1 ∷ 1 ∷ 0 ∷ 0 ∷ 0 ∷ 0 ∷ [])) ∷
    (218, note.Ret 1 (1 ∷ 1 ∷ 1 ∷ 0 ∷ 0 ∷ 0 ∷ [])) ∷
    (225, note.Syscall 1 1 (536871232 ∷ 16 ∷ 1 ∷ 0 ∷ 0 ∷ 0 ∷ 0 ∷ [])) ∷
    (225, note.Listen 1 from_index.Any 1) ∷
    (231, note.Irq 5 handled.Held) ∷
    (233, note.Syscall 6 7 (1 ∷ 1 ∷ 1 ∷ 0 ∷ 0 ∷ 0 ∷ 0 ∷ [])) ∷
    (233, note.Post 6 1 1) ∷
    (233, note.Ret 6 (1 ∷ 1 ∷ 1 ∷ 0 ∷ 0 ∷ 0 ∷ [])) ∷
    (240, note.Syscall 6 1 (536872512 ∷ 16 ∷ 1 ∷ 0 ∷ 0 ∷ 0 ∷ 0 ∷ [])) ∷
    (240, note.Ret 6 (0 ∷ 65535 ∷ 1 ∷ 0 ∷ 0 ∷ 0 ∷ [])) ∷
    (242, note.Irq 1 handled.Posted) ∷
    (242, note.Post 2 1 1) ∷
    (242, note.Ret 2 (0 ∷ 65535 ∷ 1 ∷ 0 ∷ 0 ∷ 0 ∷ [])) ∷
    (248, note.Syscall 6 7 (1 ∷ 1 ∷ 1 ∷ 0 ∷ 0 ∷ 0 ∷ 0 ∷ [])) ∷
    (248, note.Ret 6 (1 ∷ 1 ∷ 1 ∷ 0 ∷ 0 ∷ 0 ∷ [])) ∷
    (255, note.Syscall 6 1 (536872512 ∷ 16 ∷ 1 ∷ 0 ∷ 0 ∷ 0 ∷ 0 ∷ [])) ∷
    (255, note.Listen 6 from_index.Any 1) ∷
    (256, note.Tick 4) ∷
    (263, note.Syscall 2 7 (1 ∷ 1 ∷ 1 ∷ 0 ∷ 0 ∷ 0 ∷ 0 ∷ [])) ∷
    (263, note.Ret 2 (1 ∷ 1 ∷ 1 ∷ 0 ∷ 0 ∷ 0 ∷ [])) ∷
    (265, note.Irq 2 handled.Posted) ∷
    (265, note.Post 3 1 1) ∷
    (265, note.Ret 3 (0 ∷ 65535 ∷ 1 ∷ 0 ∷ 0 ∷ 0 ∷ [])) ∷
    (270, note.Syscall 2 1 (536871488 ∷ 16 ∷ 1 ∷ 0 ∷ 0 ∷ 0 ∷ 0 ∷ [])) ∷
    (270, note.Listen 2 from_index.Any 1) ∷
    (274, note.Irq 2 handled.Held) ∷
    (278, note.Syscall 3 7 (1 ∷ 1 ∷ 1 ∷ 0 ∷ 0 ∷ 0 ∷ 0 ∷ [])) ∷
    (278, note.Post 3 1 1) ∷
    (278, note.Ret 3 (1 ∷ 1 ∷ 1 ∷ 0 ∷ 0 ∷ 0 ∷ [])) ∷
    (285, note.Syscall 3 1 (536871744 ∷ 16 ∷ 1 ∷ 0 ∷ 0 ∷ 0 ∷ 0 ∷ [])) ∷
    (285, note.Ret 3 (0 ∷ 65535 ∷ 1 ∷ 0 ∷ 0 ∷ 0 ∷ [])) ∷
    (293, note.Syscall 3 7 (1 ∷ 1 ∷ 1 ∷ 0 ∷ 0 ∷ 0 ∷ 0 ∷ [])) ∷
    (293, note.Ret 3 (1 ∷ 1 ∷ 1 ∷ 0 ∷ 0 ∷ 0 ∷ [])) ∷
    (298, note.Irq 3 handled.Posted) ∷
    (298, note.Post 4 1 1) ∷
    (298, note.Ret 4 (0 ∷ 65535 ∷ 1 ∷ 0 ∷ 0 ∷ 0 ∷ [])) ∷
    (300, note.Syscall 3 1 (536871744 ∷ 16 ∷ 1 ∷ 0 ∷ 0 ∷ 0 ∷ 0 ∷ [])) ∷
    (300, note.Listen 3 from_index.Any 1) ∷
    (308, note.Syscall 4 7 (1 ∷ 1 ∷ 1 ∷ 0 ∷ 0 ∷ 0 ∷ 0 ∷ [])) ∷
    (308, note.Ret 4 (1 ∷ 1 ∷ 1 ∷ 0 ∷ 0 ∷ 0 ∷ [])) ∷
    (311, note.Irq 7 handled.Unowned) ∷
    (315, note.Syscall 4 1 (536872000 ∷ 16 ∷ 1 ∷ 0 ∷ 0 ∷ 0 ∷ 0 ∷ [])) ∷
    (315, note.Listen 4 from_index.Any 1) ∷
    (320, note.Tick 5) ∷
    (320, note.Irq 1 handled.Posted) ∷
    (320, note.Post 2 1 1) ∷
    (320, note.Ret 2 (0 ∷ 65535 ∷ 1 ∷ 0 ∷ 0 ∷ 0 ∷ [])) ∷
    (327, note.Syscall 2 7 (1 ∷ 1 ∷ 1 ∷ 0 ∷ 0 ∷ 0 ∷ 0 ∷ [])) ∷
    (327, note.Ret 2 (1 ∷ 1 ∷ 1 ∷ 0 ∷ 0 ∷ 0 ∷ [])) ∷
    (334, note.Syscall 2 1 (536871488 ∷ 16 ∷ 1 ∷ 0 ∷ 0 ∷ 0 ∷ 0 ∷ [])) ∷
    (334, note.Listen 2 from_index.Any 1) ∷
    (340, note.Syscall 8 10 (5 ∷ 0 ∷ 0 ∷ 0 ∷ 0 ∷ 0 ∷ 0 ∷ [])) ∷
    (340, note.Ret 8 (5 ∷ 0 ∷ 0 ∷ 0 ∷ 0 ∷ 0 ∷ [])) ∷
    (350, note.Irq 4 handled.Posted) ∷
    (350, note.Post 5 1 1) ∷
    (350, note.Ret 5 (0 ∷ 65535 ∷ 1 ∷ 0 ∷ 0 ∷ 0 ∷ [])) ∷
    (357, note.Syscall 5 7 (1 ∷ 1 ∷ 1 ∷ 0 ∷ 0 ∷ 0 ∷ 0 ∷ [])) ∷
    (357, note.Ret 5 (1 ∷ 1 ∷ 1 ∷ 0 ∷ 0 ∷ 0 ∷ [])) ∷
    (363, note.Irq 5 handled.Posted) ∷
    (363, note.Post 6 1 1) ∷
    (363, note.Ret 6 (0 ∷ 65535 ∷ 1 ∷ 0 ∷ 0 ∷ 0 ∷ [])) ∷
    (364, note.Syscall 5 1 (536872256 ∷ 16 ∷ 1 ∷ 0 ∷ 0 ∷ 0 ∷ 0 ∷ [])) ∷
    (364, note.Listen 5 from_index.Any 1) ∷
    (372, note.Syscall 6 7 (1 ∷ 1 ∷ 1 ∷ 0 ∷ 0 ∷ 0 ∷ 0 ∷ [])) ∷
    (372, note.Ret 6 (1 ∷ 1 ∷ 1 ∷ 0 ∷ 0 ∷ 0 ∷ [])) ∷
    (379, note.Syscall 6 1 (536872512 ∷ 16 ∷ 1 ∷ 0 ∷ 0 ∷ 0 ∷ 0 ∷ [])) ∷
    (379, note.Listen 6 from_index.Any 1) ∷
    (380, note.Irq 2 handled.Posted) ∷
    (380, note.Post 3 1 1) ∷
    (380, note.Ret 3 (0 ∷ 65535 ∷ 1 ∷ 0 ∷ 0 ∷ 0 ∷ [])) ∷
    (384, note.Tick 6) ∷
    (387, note.Syscall 3 7 (1 ∷ 1 ∷ 1 ∷ 0 ∷ 0 ∷ 0 ∷ 0 ∷ [])) ∷
    (387, note.Ret 3 (1 ∷ 1 ∷ 1 ∷ 0 ∷ 0 ∷ 0 ∷ [])) ∷
    (394, note.Irq 1 handled.Posted) ∷
    (394, note.Post 2 1 1) ∷
    (394, note.Ret 2 (0 ∷ 65535 ∷ 1 ∷ 0 ∷ 0 ∷ 0 ∷ [])) ∷
    (394, note.Syscall 3 1 (536871744 ∷ 16 ∷ 1 ∷ 0 ∷ 0 ∷ 0 ∷ 0 ∷ [])) ∷
    (394, note.Listen 3 from_index.Any 1) ∷
    []

agrees : (run Calls scenario 400 (start setup)).notes ≡ expected
unfolding setup scenario expected computed
agrees = refl
