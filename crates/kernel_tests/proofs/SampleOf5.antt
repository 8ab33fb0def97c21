-- The first 400 turns of the large sample of seed 5, by computing; the notes come from another program.
use Rattle.std.proofs.Common.{◌≡◌, ℕ, true, false, List, [], ◌∷◌, ◌++◌, Some, refl}
use Rattle.std.specs.Prelude.{replicate}
use Rattle.kernel_abi.specs.declared.Handled.TheVariants as handled
use Rattle.kernel_abi.specs.declared.FromIndex.TheVariants as from_index
use Rattle.kernel_abi.specs.declared.Note.{Note}
use Rattle.kernel_abi.specs.declared.Note.TheVariants as note
use Rattle.task_table.specs.model.Start.{start}
use Rattle.task_table.specs.model.State.{Setup}
use Rattle.board_model.specs.Run.{run}
use Rattle.board_model.specs.Script.{Scenario}
use Rattle.board_model.specs.declared.outcomes.Level.TheVariants.{Calls}
use Rattle.run_script.specs.declared.events.Event.TheVariants.{Irq}
use Rattle.board_model.proofs.Computed.{computed}

setup : Setup
setup = record {
  tasks =
      record { priority = 0; entry = 134217729; stack = 536870976; start = true; regions = record { base = 134217728; size = 256; rights = record { read = true; write = false; execute = true; device = false } } ∷ record { base = 536870912; size = 256; rights = record { read = true; write = true; execute = false; device = false } } ∷ [] } ∷
      record { priority = 1; entry = 134217985; stack = 536871232; start = true; regions = record { base = 134217984; size = 256; rights = record { read = true; write = false; execute = true; device = false } } ∷ record { base = 536871168; size = 256; rights = record { read = true; write = true; execute = false; device = false } } ∷ [] } ∷
      record { priority = 1; entry = 134218241; stack = 536871488; start = true; regions = record { base = 134218240; size = 256; rights = record { read = true; write = false; execute = true; device = false } } ∷ record { base = 536871424; size = 256; rights = record { read = true; write = true; execute = false; device = false } } ∷ [] } ∷
      record { priority = 1; entry = 134218497; stack = 536871744; start = true; regions = record { base = 134218496; size = 256; rights = record { read = true; write = false; execute = true; device = false } } ∷ record { base = 536871680; size = 256; rights = record { read = true; write = true; execute = false; device = false } } ∷ [] } ∷
      record { priority = 1; entry = 134218753; stack = 536872000; start = true; regions = record { base = 134218752; size = 256; rights = record { read = true; write = false; execute = true; device = false } } ∷ record { base = 536871936; size = 256; rights = record { read = true; write = true; execute = false; device = false } } ∷ [] } ∷
      record { priority = 1; entry = 134219009; stack = 536872256; start = true; regions = record { base = 134219008; size = 256; rights = record { read = true; write = false; execute = true; device = false } } ∷ record { base = 536872192; size = 256; rights = record { read = true; write = true; execute = false; device = false } } ∷ [] } ∷
      record { priority = 1; entry = 134219265; stack = 536872512; start = true; regions = record { base = 134219264; size = 256; rights = record { read = true; write = false; execute = true; device = false } } ∷ record { base = 536872448; size = 256; rights = record { read = true; write = true; execute = false; device = false } } ∷ [] } ∷
      record { priority = 1; entry = 134219521; stack = 536872768; start = true; regions = record { base = 134219520; size = 256; rights = record { read = true; write = false; execute = true; device = false } } ∷ record { base = 536872704; size = 256; rights = record { read = true; write = true; execute = false; device = false } } ∷ [] } ∷
      record { priority = 4; entry = 134219777; stack = 536873024; start = true; regions = record { base = 134219776; size = 256; rights = record { read = true; write = false; execute = true; device = false } } ∷ record { base = 536872960; size = 256; rights = record { read = true; write = true; execute = false; device = false } } ∷ [] } ∷
      record { priority = 3; entry = 134220033; stack = 536873280; start = true; regions = record { base = 134220032; size = 256; rights = record { read = true; write = false; execute = true; device = false } } ∷ record { base = 536873216; size = 256; rights = record { read = true; write = true; execute = false; device = false } } ∷ [] } ∷
      record { priority = 4; entry = 134220289; stack = 536873536; start = true; regions = record { base = 134220288; size = 256; rights = record { read = true; write = false; execute = true; device = false } } ∷ record { base = 536873472; size = 256; rights = record { read = true; write = true; execute = false; device = false } } ∷ [] } ∷
      record { priority = 2; entry = 134220545; stack = 536873792; start = true; regions = record { base = 134220544; size = 256; rights = record { read = true; write = false; execute = true; device = false } } ∷ record { base = 536873728; size = 256; rights = record { read = true; write = true; execute = false; device = false } } ∷ [] } ∷
      record { priority = 4; entry = 134220801; stack = 536874048; start = true; regions = record { base = 134220800; size = 256; rights = record { read = true; write = false; execute = true; device = false } } ∷ record { base = 536873984; size = 256; rights = record { read = true; write = true; execute = false; device = false } } ∷ [] } ∷
      record { priority = 3; entry = 134221057; stack = 536874304; start = true; regions = record { base = 134221056; size = 256; rights = record { read = true; write = false; execute = true; device = false } } ∷ record { base = 536874240; size = 256; rights = record { read = true; write = true; execute = false; device = false } } ∷ [] } ∷
      record { priority = 5; entry = 134221313; stack = 536874560; start = true; regions = record { base = 134221312; size = 256; rights = record { read = true; write = false; execute = true; device = false } } ∷ record { base = 536874496; size = 256; rights = record { read = true; write = true; execute = false; device = false } } ∷ [] } ∷
      record { priority = 5; entry = 134221569; stack = 536874816; start = true; regions = record { base = 134221568; size = 256; rights = record { read = true; write = false; execute = true; device = false } } ∷ record { base = 536874752; size = 256; rights = record { read = true; write = true; execute = false; device = false } } ∷ [] } ∷
      record { priority = 3; entry = 134221825; stack = 536875072; start = true; regions = record { base = 134221824; size = 256; rights = record { read = true; write = false; execute = true; device = false } } ∷ record { base = 536875008; size = 256; rights = record { read = true; write = true; execute = false; device = false } } ∷ [] } ∷
      record { priority = 5; entry = 134222081; stack = 536875328; start = true; regions = record { base = 134222080; size = 256; rights = record { read = true; write = false; execute = true; device = false } } ∷ record { base = 536875264; size = 256; rights = record { read = true; write = true; execute = false; device = false } } ∷ [] } ∷
      record { priority = 3; entry = 134222337; stack = 536875584; start = true; regions = record { base = 134222336; size = 256; rights = record { read = true; write = false; execute = true; device = false } } ∷ record { base = 536875520; size = 256; rights = record { read = true; write = true; execute = false; device = false } } ∷ [] } ∷
      record { priority = 5; entry = 134222593; stack = 536875840; start = true; regions = record { base = 134222592; size = 256; rights = record { read = true; write = false; execute = true; device = false } } ∷ record { base = 536875776; size = 256; rights = record { read = true; write = true; execute = false; device = false } } ∷ [] } ∷
      record { priority = 2; entry = 134222849; stack = 536876096; start = true; regions = record { base = 134222848; size = 256; rights = record { read = true; write = false; execute = true; device = false } } ∷ record { base = 536876032; size = 256; rights = record { read = true; write = true; execute = false; device = false } } ∷ [] } ∷
      record { priority = 5; entry = 134223105; stack = 536876352; start = true; regions = record { base = 134223104; size = 256; rights = record { read = true; write = false; execute = true; device = false } } ∷ record { base = 536876288; size = 256; rights = record { read = true; write = true; execute = false; device = false } } ∷ [] } ∷
      record { priority = 4; entry = 134223361; stack = 536876608; start = true; regions = record { base = 134223360; size = 256; rights = record { read = true; write = false; execute = true; device = false } } ∷ record { base = 536876544; size = 256; rights = record { read = true; write = true; execute = false; device = false } } ∷ [] } ∷
      record { priority = 5; entry = 134223617; stack = 536876864; start = true; regions = record { base = 134223616; size = 256; rights = record { read = true; write = false; execute = true; device = false } } ∷ record { base = 536876800; size = 256; rights = record { read = true; write = true; execute = false; device = false } } ∷ [] } ∷
      record { priority = 3; entry = 134223873; stack = 536877120; start = true; regions = record { base = 134223872; size = 256; rights = record { read = true; write = false; execute = true; device = false } } ∷ record { base = 536877056; size = 256; rights = record { read = true; write = true; execute = false; device = false } } ∷ [] } ∷
      record { priority = 3; entry = 134224129; stack = 536877376; start = true; regions = record { base = 134224128; size = 256; rights = record { read = true; write = false; execute = true; device = false } } ∷ record { base = 536877312; size = 256; rights = record { read = true; write = true; execute = false; device = false } } ∷ [] } ∷
      record { priority = 4; entry = 134224385; stack = 536877632; start = true; regions = record { base = 134224384; size = 256; rights = record { read = true; write = false; execute = true; device = false } } ∷ record { base = 536877568; size = 256; rights = record { read = true; write = true; execute = false; device = false } } ∷ [] } ∷
      record { priority = 5; entry = 134224641; stack = 536877888; start = true; regions = record { base = 134224640; size = 256; rights = record { read = true; write = false; execute = true; device = false } } ∷ record { base = 536877824; size = 256; rights = record { read = true; write = true; execute = false; device = false } } ∷ [] } ∷
      record { priority = 5; entry = 134224897; stack = 536878144; start = true; regions = record { base = 134224896; size = 256; rights = record { read = true; write = false; execute = true; device = false } } ∷ record { base = 536878080; size = 256; rights = record { read = true; write = true; execute = false; device = false } } ∷ [] } ∷
      record { priority = 5; entry = 134225153; stack = 536878400; start = true; regions = record { base = 134225152; size = 256; rights = record { read = true; write = false; execute = true; device = false } } ∷ record { base = 536878336; size = 256; rights = record { read = true; write = true; execute = false; device = false } } ∷ [] } ∷
      record { priority = 4; entry = 134225409; stack = 536878656; start = true; regions = record { base = 134225408; size = 256; rights = record { read = true; write = false; execute = true; device = false } } ∷ record { base = 536878592; size = 256; rights = record { read = true; write = true; execute = false; device = false } } ∷ [] } ∷
      record { priority = 2; entry = 134225665; stack = 536878912; start = true; regions = record { base = 134225664; size = 256; rights = record { read = true; write = false; execute = true; device = false } } ∷ record { base = 536878848; size = 256; rights = record { read = true; write = true; execute = false; device = false } } ∷ [] } ∷
      [];
  lines = record { line = 0; owner = 1; bits = 1; device = 0 } ∷ record { line = 1; owner = 2; bits = 1; device = 0 } ∷ record { line = 2; owner = 3; bits = 1; device = 0 } ∷ record { line = 3; owner = 4; bits = 1; device = 0 } ∷ record { line = 4; owner = 5; bits = 1; device = 0 } ∷ record { line = 5; owner = 6; bits = 1; device = 0 } ∷ record { line = 6; owner = 7; bits = 1; device = 0 } ∷ [];
  fault_bits = 1;
  ram = 8192;
  line_count = 32;
  flash =
      (0 ∷ 36 ∷ 0 ∷ 37 ∷ 1 ∷ 38 ∷ 0 ∷ 39 ∷ 1 ∷ 32 ∷ 131 ∷ 70 ∷ 0 ∷ 223 ∷ 1 ∷ 35 ∷ 0 ∷ 147 ∷ 13 ∷ 76 ∷ 109 ∷ 70 ∷ 4 ∷ 38 ∷ 4 ∷ 175 ∷ 16 ∷ 32 ∷ 128 ∷ 70 ∷ 0 ∷ 32 ∷ 129 ∷ 70 ∷ 130 ∷ 70 ∷ 131 ∷ 70 ∷ 0 ∷ 223 ∷ 4 ∷ 152 ∷ 2 ∷ 40 ∷ 7 ∷ 209 ∷ 1 ∷ 32 ∷ 1 ∷ 144 ∷ 6 ∷ 76 ∷ 109 ∷ 70 ∷ 8 ∷ 38 ∷ 0 ∷ 39 ∷ 184 ∷ 70 ∷ 0 ∷ 223 ∷ 1 ∷ 51 ∷ 32 ∷ 43 ∷ 229 ∷ 209 ∷ 220 ∷ 231 ∷ 0 ∷ 0 ∷ 1 ∷ 0 ∷ 255 ∷ 255 ∷ 2 ∷ 0 ∷ 255 ∷ 255 ∷ []) ++ replicate 176 0 ++
      (1 ∷ 36 ∷ 1 ∷ 37 ∷ 7 ∷ 32 ∷ 131 ∷ 70 ∷ 0 ∷ 223 ∷ 108 ∷ 70 ∷ 16 ∷ 37 ∷ 1 ∷ 38 ∷ 0 ∷ 39 ∷ 1 ∷ 32 ∷ 131 ∷ 70 ∷ 0 ∷ 223 ∷ 20 ∷ 72 ∷ 133 ∷ 66 ∷ 240 ∷ 208 ∷ 43 ∷ 70 ∷ 50 ∷ 70 ∷ 1 ∷ 42 ∷ 13 ∷ 208 ∷ 2 ∷ 42 ∷ 13 ∷ 208 ∷ 3 ∷ 42 ∷ 21 ∷ 208 ∷ 4 ∷ 42 ∷ 25 ∷ 208 ∷ 28 ∷ 70 ∷ 0 ∷ 37 ∷ 110 ∷ 70 ∷ 4 ∷ 39 ∷ 2 ∷ 32 ∷ 131 ∷ 70 ∷ 0 ∷ 223 ∷ 222 ∷ 231 ∷ 4 ∷ 32 ∷ 0 ∷ 224 ∷ 5 ∷ 32 ∷ 131 ∷ 70 ∷ 28 ∷ 70 ∷ 0 ∷ 37 ∷ 37 ∷ 38 ∷ 8 ∷ 175 ∷ 16 ∷ 32 ∷ 128 ∷ 70 ∷ 0 ∷ 223 ∷ 235 ∷ 231 ∷ 28 ∷ 70 ∷ 0 ∷ 37 ∷ 12 ∷ 32 ∷ 131 ∷ 70 ∷ 0 ∷ 223 ∷ 204 ∷ 231 ∷ 8 ∷ 32 ∷ 131 ∷ 70 ∷ 0 ∷ 223 ∷ 255 ∷ 255 ∷ []) ++ replicate 146 0 ++
      (1 ∷ 36 ∷ 1 ∷ 37 ∷ 7 ∷ 32 ∷ 131 ∷ 70 ∷ 0 ∷ 223 ∷ 108 ∷ 70 ∷ 16 ∷ 37 ∷ 1 ∷ 38 ∷ 0 ∷ 39 ∷ 1 ∷ 32 ∷ 131 ∷ 70 ∷ 0 ∷ 223 ∷ 20 ∷ 72 ∷ 133 ∷ 66 ∷ 240 ∷ 208 ∷ 43 ∷ 70 ∷ 50 ∷ 70 ∷ 1 ∷ 42 ∷ 13 ∷ 208 ∷ 2 ∷ 42 ∷ 13 ∷ 208 ∷ 3 ∷ 42 ∷ 21 ∷ 208 ∷ 4 ∷ 42 ∷ 25 ∷ 208 ∷ 28 ∷ 70 ∷ 0 ∷ 37 ∷ 110 ∷ 70 ∷ 4 ∷ 39 ∷ 2 ∷ 32 ∷ 131 ∷ 70 ∷ 0 ∷ 223 ∷ 222 ∷ 231 ∷ 4 ∷ 32 ∷ 0 ∷ 224 ∷ 5 ∷ 32 ∷ 131 ∷ 70 ∷ 28 ∷ 70 ∷ 0 ∷ 37 ∷ 17 ∷ 38 ∷ 8 ∷ 175 ∷ 16 ∷ 32 ∷ 128 ∷ 70 ∷ 0 ∷ 223 ∷ 235 ∷ 231 ∷ 28 ∷ 70 ∷ 0 ∷ 37 ∷ 12 ∷ 32 ∷ 131 ∷ 70 ∷ 0 ∷ 223 ∷ 204 ∷ 231 ∷ 8 ∷ 32 ∷ 131 ∷ 70 ∷ 0 ∷ 223 ∷ 255 ∷ 255 ∷ []) ++ replicate 146 0 ++
      (1 ∷ 36 ∷ 1 ∷ 37 ∷ 7 ∷ 32 ∷ 131 ∷ 70 ∷ 0 ∷ 223 ∷ 108 ∷ 70 ∷ 16 ∷ 37 ∷ 1 ∷ 38 ∷ 0 ∷ 39 ∷ 1 ∷ 32 ∷ 131 ∷ 70 ∷ 0 ∷ 223 ∷ 20 ∷ 72 ∷ 133 ∷ 66 ∷ 240 ∷ 208 ∷ 43 ∷ 70 ∷ 50 ∷ 70 ∷ 1 ∷ 42 ∷ 13 ∷ 208 ∷ 2 ∷ 42 ∷ 13 ∷ 208 ∷ 3 ∷ 42 ∷ 21 ∷ 208 ∷ 4 ∷ 42 ∷ 25 ∷ 208 ∷ 28 ∷ 70 ∷ 0 ∷ 37 ∷ 110 ∷ 70 ∷ 4 ∷ 39 ∷ 2 ∷ 32 ∷ 131 ∷ 70 ∷ 0 ∷ 223 ∷ 222 ∷ 231 ∷ 4 ∷ 32 ∷ 0 ∷ 224 ∷ 5 ∷ 32 ∷ 131 ∷ 70 ∷ 28 ∷ 70 ∷ 0 ∷ 37 ∷ 10 ∷ 38 ∷ 8 ∷ 175 ∷ 16 ∷ 32 ∷ 128 ∷ 70 ∷ 0 ∷ 223 ∷ 235 ∷ 231 ∷ 28 ∷ 70 ∷ 0 ∷ 37 ∷ 12 ∷ 32 ∷ 131 ∷ 70 ∷ 0 ∷ 223 ∷ 204 ∷ 231 ∷ 8 ∷ 32 ∷ 131 ∷ 70 ∷ 0 ∷ 223 ∷ 255 ∷ 255 ∷ []) ++ replicate 146 0 ++
      (1 ∷ 36 ∷ 1 ∷ 37 ∷ 7 ∷ 32 ∷ 131 ∷ 70 ∷ 0 ∷ 223 ∷ 108 ∷ 70 ∷ 16 ∷ 37 ∷ 1 ∷ 38 ∷ 0 ∷ 39 ∷ 1 ∷ 32 ∷ 131 ∷ 70 ∷ 0 ∷ 223 ∷ 20 ∷ 72 ∷ 133 ∷ 66 ∷ 240 ∷ 208 ∷ 43 ∷ 70 ∷ 50 ∷ 70 ∷ 1 ∷ 42 ∷ 13 ∷ 208 ∷ 2 ∷ 42 ∷ 13 ∷ 208 ∷ 3 ∷ 42 ∷ 21 ∷ 208 ∷ 4 ∷ 42 ∷ 25 ∷ 208 ∷ 28 ∷ 70 ∷ 0 ∷ 37 ∷ 110 ∷ 70 ∷ 4 ∷ 39 ∷ 2 ∷ 32 ∷ 131 ∷ 70 ∷ 0 ∷ 223 ∷ 222 ∷ 231 ∷ 4 ∷ 32 ∷ 0 ∷ 224 ∷ 5 ∷ 32 ∷ 131 ∷ 70 ∷ 28 ∷ 70 ∷ 0 ∷ 37 ∷ 18 ∷ 38 ∷ 8 ∷ 175 ∷ 16 ∷ 32 ∷ 128 ∷ 70 ∷ 0 ∷ 223 ∷ 235 ∷ 231 ∷ 28 ∷ 70 ∷ 0 ∷ 37 ∷ 12 ∷ 32 ∷ 131 ∷ 70 ∷ 0 ∷ 223 ∷ 204 ∷ 231 ∷ 8 ∷ 32 ∷ 131 ∷ 70 ∷ 0 ∷ 223 ∷ 255 ∷ 255 ∷ []) ++ replicate 146 0 ++
      (1 ∷ 36 ∷ 1 ∷ 37 ∷ 7 ∷ 32 ∷ 131 ∷ 70 ∷ 0 ∷ 223 ∷ 108 ∷ 70 ∷ 16 ∷ 37 ∷ 1 ∷ 38 ∷ 0 ∷ 39 ∷ 1 ∷ 32 ∷ 131 ∷ 70 ∷ 0 ∷ 223 ∷ 20 ∷ 72 ∷ 133 ∷ 66 ∷ 240 ∷ 208 ∷ 43 ∷ 70 ∷ 50 ∷ 70 ∷ 1 ∷ 42 ∷ 13 ∷ 208 ∷ 2 ∷ 42 ∷ 13 ∷ 208 ∷ 3 ∷ 42 ∷ 21 ∷ 208 ∷ 4 ∷ 42 ∷ 25 ∷ 208 ∷ 28 ∷ 70 ∷ 0 ∷ 37 ∷ 110 ∷ 70 ∷ 4 ∷ 39 ∷ 2 ∷ 32 ∷ 131 ∷ 70 ∷ 0 ∷ 223 ∷ 222 ∷ 231 ∷ 4 ∷ 32 ∷ 0 ∷ 224 ∷ 5 ∷ 32 ∷ 131 ∷ 70 ∷ 28 ∷ 70 ∷ 0 ∷ 37 ∷ 30 ∷ 38 ∷ 8 ∷ 175 ∷ 16 ∷ 32 ∷ 128 ∷ 70 ∷ 0 ∷ 223 ∷ 235 ∷ 231 ∷ 28 ∷ 70 ∷ 0 ∷ 37 ∷ 12 ∷ 32 ∷ 131 ∷ 70 ∷ 0 ∷ 223 ∷ 204 ∷ 231 ∷ 8 ∷ 32 ∷ 131 ∷ 70 ∷ 0 ∷ 223 ∷ 255 ∷ 255 ∷ []) ++ replicate 146 0 ++
      (1 ∷ 36 ∷ 1 ∷ 37 ∷ 7 ∷ 32 ∷ 131 ∷ 70 ∷ 0 ∷ 223 ∷ 108 ∷ 70 ∷ 16 ∷ 37 ∷ 1 ∷ 38 ∷ 0 ∷ 39 ∷ 1 ∷ 32 ∷ 131 ∷ 70 ∷ 0 ∷ 223 ∷ 20 ∷ 72 ∷ 133 ∷ 66 ∷ 240 ∷ 208 ∷ 43 ∷ 70 ∷ 50 ∷ 70 ∷ 1 ∷ 42 ∷ 13 ∷ 208 ∷ 2 ∷ 42 ∷ 13 ∷ 208 ∷ 3 ∷ 42 ∷ 21 ∷ 208 ∷ 4 ∷ 42 ∷ 25 ∷ 208 ∷ 28 ∷ 70 ∷ 0 ∷ 37 ∷ 110 ∷ 70 ∷ 4 ∷ 39 ∷ 2 ∷ 32 ∷ 131 ∷ 70 ∷ 0 ∷ 223 ∷ 222 ∷ 231 ∷ 4 ∷ 32 ∷ 0 ∷ 224 ∷ 5 ∷ 32 ∷ 131 ∷ 70 ∷ 28 ∷ 70 ∷ 0 ∷ 37 ∷ 16 ∷ 38 ∷ 8 ∷ 175 ∷ 16 ∷ 32 ∷ 128 ∷ 70 ∷ 0 ∷ 223 ∷ 235 ∷ 231 ∷ 28 ∷ 70 ∷ 0 ∷ 37 ∷ 12 ∷ 32 ∷ 131 ∷ 70 ∷ 0 ∷ 223 ∷ 204 ∷ 231 ∷ 8 ∷ 32 ∷ 131 ∷ 70 ∷ 0 ∷ 223 ∷ 255 ∷ 255 ∷ []) ++ replicate 146 0 ++
      (1 ∷ 36 ∷ 1 ∷ 37 ∷ 7 ∷ 32 ∷ 131 ∷ 70 ∷ 0 ∷ 223 ∷ 108 ∷ 70 ∷ 16 ∷ 37 ∷ 1 ∷ 38 ∷ 0 ∷ 39 ∷ 1 ∷ 32 ∷ 131 ∷ 70 ∷ 0 ∷ 223 ∷ 20 ∷ 72 ∷ 133 ∷ 66 ∷ 240 ∷ 208 ∷ 43 ∷ 70 ∷ 50 ∷ 70 ∷ 1 ∷ 42 ∷ 13 ∷ 208 ∷ 2 ∷ 42 ∷ 13 ∷ 208 ∷ 3 ∷ 42 ∷ 21 ∷ 208 ∷ 4 ∷ 42 ∷ 25 ∷ 208 ∷ 28 ∷ 70 ∷ 0 ∷ 37 ∷ 110 ∷ 70 ∷ 4 ∷ 39 ∷ 2 ∷ 32 ∷ 131 ∷ 70 ∷ 0 ∷ 223 ∷ 222 ∷ 231 ∷ 4 ∷ 32 ∷ 0 ∷ 224 ∷ 5 ∷ 32 ∷ 131 ∷ 70 ∷ 28 ∷ 70 ∷ 0 ∷ 37 ∷ 16 ∷ 38 ∷ 8 ∷ 175 ∷ 16 ∷ 32 ∷ 128 ∷ 70 ∷ 0 ∷ 223 ∷ 235 ∷ 231 ∷ 28 ∷ 70 ∷ 0 ∷ 37 ∷ 12 ∷ 32 ∷ 131 ∷ 70 ∷ 0 ∷ 223 ∷ 204 ∷ 231 ∷ 8 ∷ 32 ∷ 131 ∷ 70 ∷ 0 ∷ 223 ∷ 255 ∷ 255 ∷ []) ++ replicate 146 0 ++
      (3 ∷ 32 ∷ 12 ∷ 144 ∷ 16 ∷ 168 ∷ 13 ∷ 144 ∷ 32 ∷ 32 ∷ 14 ∷ 144 ∷ 6 ∷ 36 ∷ 10 ∷ 32 ∷ 131 ∷ 70 ∷ 0 ∷ 223 ∷ 36 ∷ 4 ∷ 1 ∷ 52 ∷ 109 ∷ 70 ∷ 26 ∷ 38 ∷ 8 ∷ 175 ∷ 4 ∷ 32 ∷ 128 ∷ 70 ∷ 12 ∷ 168 ∷ 129 ∷ 70 ∷ 1 ∷ 32 ∷ 130 ∷ 70 ∷ 0 ∷ 32 ∷ 131 ∷ 70 ∷ 0 ∷ 223 ∷ 9 ∷ 32 ∷ 131 ∷ 70 ∷ 0 ∷ 223 ∷ 46 ∷ 70 ∷ 1 ∷ 52 ∷ 37 ∷ 70 ∷ 1 ∷ 36 ∷ 1 ∷ 39 ∷ 3 ∷ 32 ∷ 131 ∷ 70 ∷ 0 ∷ 223 ∷ 0 ∷ 36 ∷ 0 ∷ 37 ∷ 1 ∷ 38 ∷ 2 ∷ 79 ∷ 1 ∷ 32 ∷ 131 ∷ 70 ∷ 0 ∷ 223 ∷ 218 ∷ 231 ∷ 0 ∷ 0 ∷ 255 ∷ 255 ∷ 0 ∷ 128 ∷ []) ++ replicate 164 0 ++
      (3 ∷ 32 ∷ 12 ∷ 144 ∷ 16 ∷ 168 ∷ 13 ∷ 144 ∷ 32 ∷ 32 ∷ 14 ∷ 144 ∷ 2 ∷ 36 ∷ 10 ∷ 32 ∷ 131 ∷ 70 ∷ 0 ∷ 223 ∷ 36 ∷ 4 ∷ 4 ∷ 52 ∷ 109 ∷ 70 ∷ 18 ∷ 38 ∷ 8 ∷ 175 ∷ 4 ∷ 32 ∷ 128 ∷ 70 ∷ 12 ∷ 168 ∷ 129 ∷ 70 ∷ 1 ∷ 32 ∷ 130 ∷ 70 ∷ 0 ∷ 32 ∷ 131 ∷ 70 ∷ 0 ∷ 223 ∷ 9 ∷ 32 ∷ 131 ∷ 70 ∷ 0 ∷ 223 ∷ 46 ∷ 70 ∷ 8 ∷ 52 ∷ 37 ∷ 70 ∷ 1 ∷ 36 ∷ 1 ∷ 39 ∷ 3 ∷ 32 ∷ 131 ∷ 70 ∷ 0 ∷ 223 ∷ 0 ∷ 36 ∷ 0 ∷ 37 ∷ 1 ∷ 38 ∷ 2 ∷ 79 ∷ 1 ∷ 32 ∷ 131 ∷ 70 ∷ 0 ∷ 223 ∷ 218 ∷ 231 ∷ 0 ∷ 0 ∷ 255 ∷ 255 ∷ 0 ∷ 128 ∷ []) ++ replicate 164 0 ++
      (3 ∷ 32 ∷ 12 ∷ 144 ∷ 16 ∷ 168 ∷ 13 ∷ 144 ∷ 32 ∷ 32 ∷ 14 ∷ 144 ∷ 2 ∷ 36 ∷ 10 ∷ 32 ∷ 131 ∷ 70 ∷ 0 ∷ 223 ∷ 36 ∷ 4 ∷ 1 ∷ 52 ∷ 109 ∷ 70 ∷ 26 ∷ 38 ∷ 8 ∷ 175 ∷ 4 ∷ 32 ∷ 128 ∷ 70 ∷ 12 ∷ 168 ∷ 129 ∷ 70 ∷ 1 ∷ 32 ∷ 130 ∷ 70 ∷ 0 ∷ 32 ∷ 131 ∷ 70 ∷ 0 ∷ 223 ∷ 9 ∷ 32 ∷ 131 ∷ 70 ∷ 0 ∷ 223 ∷ 46 ∷ 70 ∷ 1 ∷ 52 ∷ 37 ∷ 70 ∷ 1 ∷ 36 ∷ 1 ∷ 39 ∷ 3 ∷ 32 ∷ 131 ∷ 70 ∷ 0 ∷ 223 ∷ 0 ∷ 36 ∷ 0 ∷ 37 ∷ 1 ∷ 38 ∷ 2 ∷ 79 ∷ 1 ∷ 32 ∷ 131 ∷ 70 ∷ 0 ∷ 223 ∷ 218 ∷ 231 ∷ 0 ∷ 0 ∷ 255 ∷ 255 ∷ 0 ∷ 128 ∷ []) ++ replicate 164 0 ++
      (3 ∷ 32 ∷ 12 ∷ 144 ∷ 16 ∷ 168 ∷ 13 ∷ 144 ∷ 32 ∷ 32 ∷ 14 ∷ 144 ∷ 7 ∷ 36 ∷ 10 ∷ 32 ∷ 131 ∷ 70 ∷ 0 ∷ 223 ∷ 36 ∷ 4 ∷ 0 ∷ 52 ∷ 109 ∷ 70 ∷ 10 ∷ 38 ∷ 8 ∷ 175 ∷ 4 ∷ 32 ∷ 128 ∷ 70 ∷ 12 ∷ 168 ∷ 129 ∷ 70 ∷ 1 ∷ 32 ∷ 130 ∷ 70 ∷ 0 ∷ 32 ∷ 131 ∷ 70 ∷ 0 ∷ 223 ∷ 9 ∷ 32 ∷ 131 ∷ 70 ∷ 0 ∷ 223 ∷ 46 ∷ 70 ∷ 7 ∷ 52 ∷ 37 ∷ 70 ∷ 1 ∷ 36 ∷ 1 ∷ 39 ∷ 3 ∷ 32 ∷ 131 ∷ 70 ∷ 0 ∷ 223 ∷ 0 ∷ 36 ∷ 0 ∷ 37 ∷ 1 ∷ 38 ∷ 2 ∷ 79 ∷ 1 ∷ 32 ∷ 131 ∷ 70 ∷ 0 ∷ 223 ∷ 218 ∷ 231 ∷ 0 ∷ 0 ∷ 255 ∷ 255 ∷ 0 ∷ 128 ∷ []) ++ replicate 164 0 ++
      (3 ∷ 32 ∷ 12 ∷ 144 ∷ 16 ∷ 168 ∷ 13 ∷ 144 ∷ 32 ∷ 32 ∷ 14 ∷ 144 ∷ 2 ∷ 36 ∷ 10 ∷ 32 ∷ 131 ∷ 70 ∷ 0 ∷ 223 ∷ 36 ∷ 4 ∷ 3 ∷ 52 ∷ 109 ∷ 70 ∷ 9 ∷ 38 ∷ 8 ∷ 175 ∷ 4 ∷ 32 ∷ 128 ∷ 70 ∷ 12 ∷ 168 ∷ 129 ∷ 70 ∷ 1 ∷ 32 ∷ 130 ∷ 70 ∷ 0 ∷ 32 ∷ 131 ∷ 70 ∷ 0 ∷ 223 ∷ 9 ∷ 32 ∷ 131 ∷ 70 ∷ 0 ∷ 223 ∷ 46 ∷ 70 ∷ 3 ∷ 52 ∷ 37 ∷ 70 ∷ 1 ∷ 36 ∷ 1 ∷ 39 ∷ 3 ∷ 32 ∷ 131 ∷ 70 ∷ 0 ∷ 223 ∷ 0 ∷ 36 ∷ 0 ∷ 37 ∷ 1 ∷ 38 ∷ 2 ∷ 79 ∷ 1 ∷ 32 ∷ 131 ∷ 70 ∷ 0 ∷ 223 ∷ 218 ∷ 231 ∷ 0 ∷ 0 ∷ 255 ∷ 255 ∷ 0 ∷ 128 ∷ []) ++ replicate 164 0 ++
      (3 ∷ 32 ∷ 12 ∷ 144 ∷ 16 ∷ 168 ∷ 13 ∷ 144 ∷ 32 ∷ 32 ∷ 14 ∷ 144 ∷ 3 ∷ 36 ∷ 10 ∷ 32 ∷ 131 ∷ 70 ∷ 0 ∷ 223 ∷ 36 ∷ 4 ∷ 1 ∷ 52 ∷ 109 ∷ 70 ∷ 23 ∷ 38 ∷ 8 ∷ 175 ∷ 4 ∷ 32 ∷ 128 ∷ 70 ∷ 12 ∷ 168 ∷ 129 ∷ 70 ∷ 1 ∷ 32 ∷ 130 ∷ 70 ∷ 0 ∷ 32 ∷ 131 ∷ 70 ∷ 0 ∷ 223 ∷ 9 ∷ 32 ∷ 131 ∷ 70 ∷ 0 ∷ 223 ∷ 46 ∷ 70 ∷ 6 ∷ 52 ∷ 37 ∷ 70 ∷ 1 ∷ 36 ∷ 1 ∷ 39 ∷ 3 ∷ 32 ∷ 131 ∷ 70 ∷ 0 ∷ 223 ∷ 0 ∷ 36 ∷ 0 ∷ 37 ∷ 1 ∷ 38 ∷ 2 ∷ 79 ∷ 1 ∷ 32 ∷ 131 ∷ 70 ∷ 0 ∷ 223 ∷ 218 ∷ 231 ∷ 0 ∷ 0 ∷ 255 ∷ 255 ∷ 0 ∷ 128 ∷ []) ++ replicate 164 0 ++
      (3 ∷ 32 ∷ 12 ∷ 144 ∷ 16 ∷ 168 ∷ 13 ∷ 144 ∷ 32 ∷ 32 ∷ 14 ∷ 144 ∷ 3 ∷ 36 ∷ 10 ∷ 32 ∷ 131 ∷ 70 ∷ 0 ∷ 223 ∷ 36 ∷ 4 ∷ 1 ∷ 52 ∷ 109 ∷ 70 ∷ 32 ∷ 38 ∷ 8 ∷ 175 ∷ 4 ∷ 32 ∷ 128 ∷ 70 ∷ 12 ∷ 168 ∷ 129 ∷ 70 ∷ 1 ∷ 32 ∷ 130 ∷ 70 ∷ 0 ∷ 32 ∷ 131 ∷ 70 ∷ 0 ∷ 223 ∷ 9 ∷ 32 ∷ 131 ∷ 70 ∷ 0 ∷ 223 ∷ 46 ∷ 70 ∷ 4 ∷ 52 ∷ 37 ∷ 70 ∷ 1 ∷ 36 ∷ 1 ∷ 39 ∷ 3 ∷ 32 ∷ 131 ∷ 70 ∷ 0 ∷ 223 ∷ 0 ∷ 36 ∷ 0 ∷ 37 ∷ 1 ∷ 38 ∷ 2 ∷ 79 ∷ 1 ∷ 32 ∷ 131 ∷ 70 ∷ 0 ∷ 223 ∷ 218 ∷ 231 ∷ 0 ∷ 0 ∷ 255 ∷ 255 ∷ 0 ∷ 128 ∷ []) ++ replicate 164 0 ++
      (3 ∷ 32 ∷ 12 ∷ 144 ∷ 16 ∷ 168 ∷ 13 ∷ 144 ∷ 32 ∷ 32 ∷ 14 ∷ 144 ∷ 6 ∷ 36 ∷ 10 ∷ 32 ∷ 131 ∷ 70 ∷ 0 ∷ 223 ∷ 36 ∷ 4 ∷ 5 ∷ 52 ∷ 109 ∷ 70 ∷ 23 ∷ 38 ∷ 8 ∷ 175 ∷ 4 ∷ 32 ∷ 128 ∷ 70 ∷ 12 ∷ 168 ∷ 129 ∷ 70 ∷ 1 ∷ 32 ∷ 130 ∷ 70 ∷ 0 ∷ 32 ∷ 131 ∷ 70 ∷ 0 ∷ 223 ∷ 9 ∷ 32 ∷ 131 ∷ 70 ∷ 0 ∷ 223 ∷ 46 ∷ 70 ∷ 6 ∷ 52 ∷ 37 ∷ 70 ∷ 1 ∷ 36 ∷ 1 ∷ 39 ∷ 3 ∷ 32 ∷ 131 ∷ 70 ∷ 0 ∷ 223 ∷ 0 ∷ 36 ∷ 0 ∷ 37 ∷ 1 ∷ 38 ∷ 2 ∷ 79 ∷ 1 ∷ 32 ∷ 131 ∷ 70 ∷ 0 ∷ 223 ∷ 218 ∷ 231 ∷ 0 ∷ 0 ∷ 255 ∷ 255 ∷ 0 ∷ 128 ∷ []) ++ replicate 164 0 ++
      (3 ∷ 32 ∷ 12 ∷ 144 ∷ 16 ∷ 168 ∷ 13 ∷ 144 ∷ 32 ∷ 32 ∷ 14 ∷ 144 ∷ 1 ∷ 36 ∷ 10 ∷ 32 ∷ 131 ∷ 70 ∷ 0 ∷ 223 ∷ 36 ∷ 4 ∷ 4 ∷ 52 ∷ 109 ∷ 70 ∷ 14 ∷ 38 ∷ 8 ∷ 175 ∷ 4 ∷ 32 ∷ 128 ∷ 70 ∷ 12 ∷ 168 ∷ 129 ∷ 70 ∷ 1 ∷ 32 ∷ 130 ∷ 70 ∷ 0 ∷ 32 ∷ 131 ∷ 70 ∷ 0 ∷ 223 ∷ 9 ∷ 32 ∷ 131 ∷ 70 ∷ 0 ∷ 223 ∷ 46 ∷ 70 ∷ 8 ∷ 52 ∷ 37 ∷ 70 ∷ 1 ∷ 36 ∷ 1 ∷ 39 ∷ 3 ∷ 32 ∷ 131 ∷ 70 ∷ 0 ∷ 223 ∷ 0 ∷ 36 ∷ 0 ∷ 37 ∷ 1 ∷ 38 ∷ 2 ∷ 79 ∷ 1 ∷ 32 ∷ 131 ∷ 70 ∷ 0 ∷ 223 ∷ 218 ∷ 231 ∷ 0 ∷ 0 ∷ 255 ∷ 255 ∷ 0 ∷ 128 ∷ []) ++ replicate 164 0 ++
      (3 ∷ 32 ∷ 12 ∷ 144 ∷ 16 ∷ 168 ∷ 13 ∷ 144 ∷ 32 ∷ 32 ∷ 14 ∷ 144 ∷ 1 ∷ 36 ∷ 10 ∷ 32 ∷ 131 ∷ 70 ∷ 0 ∷ 223 ∷ 36 ∷ 4 ∷ 2 ∷ 52 ∷ 109 ∷ 70 ∷ 17 ∷ 38 ∷ 8 ∷ 175 ∷ 4 ∷ 32 ∷ 128 ∷ 70 ∷ 12 ∷ 168 ∷ 129 ∷ 70 ∷ 1 ∷ 32 ∷ 130 ∷ 70 ∷ 0 ∷ 32 ∷ 131 ∷ 70 ∷ 0 ∷ 223 ∷ 9 ∷ 32 ∷ 131 ∷ 70 ∷ 0 ∷ 223 ∷ 46 ∷ 70 ∷ 3 ∷ 52 ∷ 37 ∷ 70 ∷ 1 ∷ 36 ∷ 1 ∷ 39 ∷ 3 ∷ 32 ∷ 131 ∷ 70 ∷ 0 ∷ 223 ∷ 0 ∷ 36 ∷ 0 ∷ 37 ∷ 1 ∷ 38 ∷ 2 ∷ 79 ∷ 1 ∷ 32 ∷ 131 ∷ 70 ∷ 0 ∷ 223 ∷ 218 ∷ 231 ∷ 0 ∷ 0 ∷ 255 ∷ 255 ∷ 0 ∷ 128 ∷ []) ++ replicate 164 0 ++
      (3 ∷ 32 ∷ 12 ∷ 144 ∷ 16 ∷ 168 ∷ 13 ∷ 144 ∷ 32 ∷ 32 ∷ 14 ∷ 144 ∷ 5 ∷ 36 ∷ 10 ∷ 32 ∷ 131 ∷ 70 ∷ 0 ∷ 223 ∷ 36 ∷ 4 ∷ 0 ∷ 52 ∷ 109 ∷ 70 ∷ 22 ∷ 38 ∷ 8 ∷ 175 ∷ 4 ∷ 32 ∷ 128 ∷ 70 ∷ 12 ∷ 168 ∷ 129 ∷ 70 ∷ 1 ∷ 32 ∷ 130 ∷ 70 ∷ 0 ∷ 32 ∷ 131 ∷ 70 ∷ 0 ∷ 223 ∷ 9 ∷ 32 ∷ 131 ∷ 70 ∷ 0 ∷ 223 ∷ 46 ∷ 70 ∷ 5 ∷ 52 ∷ 37 ∷ 70 ∷ 1 ∷ 36 ∷ 1 ∷ 39 ∷ 3 ∷ 32 ∷ 131 ∷ 70 ∷ 0 ∷ 223 ∷ 0 ∷ 36 ∷ 0 ∷ 37 ∷ 1 ∷ 38 ∷ 2 ∷ 79 ∷ 1 ∷ 32 ∷ 131 ∷ 70 ∷ 0 ∷ 223 ∷ 218 ∷ 231 ∷ 0 ∷ 0 ∷ 255 ∷ 255 ∷ 0 ∷ 128 ∷ []) ++ replicate 164 0 ++
      (3 ∷ 32 ∷ 12 ∷ 144 ∷ 16 ∷ 168 ∷ 13 ∷ 144 ∷ 32 ∷ 32 ∷ 14 ∷ 144 ∷ 2 ∷ 36 ∷ 10 ∷ 32 ∷ 131 ∷ 70 ∷ 0 ∷ 223 ∷ 36 ∷ 4 ∷ 2 ∷ 52 ∷ 109 ∷ 70 ∷ 22 ∷ 38 ∷ 8 ∷ 175 ∷ 4 ∷ 32 ∷ 128 ∷ 70 ∷ 12 ∷ 168 ∷ 129 ∷ 70 ∷ 1 ∷ 32 ∷ 130 ∷ 70 ∷ 0 ∷ 32 ∷ 131 ∷ 70 ∷ 0 ∷ 223 ∷ 9 ∷ 32 ∷ 131 ∷ 70 ∷ 0 ∷ 223 ∷ 46 ∷ 70 ∷ 7 ∷ 52 ∷ 37 ∷ 70 ∷ 1 ∷ 36 ∷ 1 ∷ 39 ∷ 3 ∷ 32 ∷ 131 ∷ 70 ∷ 0 ∷ 223 ∷ 0 ∷ 36 ∷ 0 ∷ 37 ∷ 1 ∷ 38 ∷ 2 ∷ 79 ∷ 1 ∷ 32 ∷ 131 ∷ 70 ∷ 0 ∷ 223 ∷ 218 ∷ 231 ∷ 0 ∷ 0 ∷ 255 ∷ 255 ∷ 0 ∷ 128 ∷ []) ++ replicate 164 0 ++
      (3 ∷ 32 ∷ 12 ∷ 144 ∷ 16 ∷ 168 ∷ 13 ∷ 144 ∷ 32 ∷ 32 ∷ 14 ∷ 144 ∷ 6 ∷ 36 ∷ 10 ∷ 32 ∷ 131 ∷ 70 ∷ 0 ∷ 223 ∷ 36 ∷ 4 ∷ 2 ∷ 52 ∷ 109 ∷ 70 ∷ 7 ∷ 38 ∷ 8 ∷ 175 ∷ 4 ∷ 32 ∷ 128 ∷ 70 ∷ 12 ∷ 168 ∷ 129 ∷ 70 ∷ 1 ∷ 32 ∷ 130 ∷ 70 ∷ 0 ∷ 32 ∷ 131 ∷ 70 ∷ 0 ∷ 223 ∷ 9 ∷ 32 ∷ 131 ∷ 70 ∷ 0 ∷ 223 ∷ 46 ∷ 70 ∷ 2 ∷ 52 ∷ 37 ∷ 70 ∷ 1 ∷ 36 ∷ 1 ∷ 39 ∷ 3 ∷ 32 ∷ 131 ∷ 70 ∷ 0 ∷ 223 ∷ 0 ∷ 36 ∷ 0 ∷ 37 ∷ 1 ∷ 38 ∷ 2 ∷ 79 ∷ 1 ∷ 32 ∷ 131 ∷ 70 ∷ 0 ∷ 223 ∷ 218 ∷ 231 ∷ 0 ∷ 0 ∷ 255 ∷ 255 ∷ 0 ∷ 128 ∷ []) ++ replicate 164 0 ++
      (3 ∷ 32 ∷ 12 ∷ 144 ∷ 16 ∷ 168 ∷ 13 ∷ 144 ∷ 32 ∷ 32 ∷ 14 ∷ 144 ∷ 7 ∷ 36 ∷ 10 ∷ 32 ∷ 131 ∷ 70 ∷ 0 ∷ 223 ∷ 36 ∷ 4 ∷ 2 ∷ 52 ∷ 109 ∷ 70 ∷ 24 ∷ 38 ∷ 8 ∷ 175 ∷ 4 ∷ 32 ∷ 128 ∷ 70 ∷ 12 ∷ 168 ∷ 129 ∷ 70 ∷ 1 ∷ 32 ∷ 130 ∷ 70 ∷ 0 ∷ 32 ∷ 131 ∷ 70 ∷ 0 ∷ 223 ∷ 9 ∷ 32 ∷ 131 ∷ 70 ∷ 0 ∷ 223 ∷ 46 ∷ 70 ∷ 2 ∷ 52 ∷ 37 ∷ 70 ∷ 1 ∷ 36 ∷ 1 ∷ 39 ∷ 3 ∷ 32 ∷ 131 ∷ 70 ∷ 0 ∷ 223 ∷ 0 ∷ 36 ∷ 0 ∷ 37 ∷ 1 ∷ 38 ∷ 2 ∷ 79 ∷ 1 ∷ 32 ∷ 131 ∷ 70 ∷ 0 ∷ 223 ∷ 218 ∷ 231 ∷ 0 ∷ 0 ∷ 255 ∷ 255 ∷ 0 ∷ 128 ∷ []) ++ replicate 164 0 ++
      (3 ∷ 32 ∷ 12 ∷ 144 ∷ 16 ∷ 168 ∷ 13 ∷ 144 ∷ 32 ∷ 32 ∷ 14 ∷ 144 ∷ 5 ∷ 36 ∷ 10 ∷ 32 ∷ 131 ∷ 70 ∷ 0 ∷ 223 ∷ 36 ∷ 4 ∷ 2 ∷ 52 ∷ 109 ∷ 70 ∷ 20 ∷ 38 ∷ 8 ∷ 175 ∷ 4 ∷ 32 ∷ 128 ∷ 70 ∷ 12 ∷ 168 ∷ 129 ∷ 70 ∷ 1 ∷ 32 ∷ 130 ∷ 70 ∷ 0 ∷ 32 ∷ 131 ∷ 70 ∷ 0 ∷ 223 ∷ 9 ∷ 32 ∷ 131 ∷ 70 ∷ 0 ∷ 223 ∷ 46 ∷ 70 ∷ 7 ∷ 52 ∷ 37 ∷ 70 ∷ 1 ∷ 36 ∷ 1 ∷ 39 ∷ 3 ∷ 32 ∷ 131 ∷ 70 ∷ 0 ∷ 223 ∷ 0 ∷ 36 ∷ 0 ∷ 37 ∷ 1 ∷ 38 ∷ 2 ∷ 79 ∷ 1 ∷ 32 ∷ 131 ∷ 70 ∷ 0 ∷ 223 ∷ 218 ∷ 231 ∷ 0 ∷ 0 ∷ 255 ∷ 255 ∷ 0 ∷ 128 ∷ []) ++ replicate 164 0 ++
      (3 ∷ 32 ∷ 12 ∷ 144 ∷ 16 ∷ 168 ∷ 13 ∷ 144 ∷ 32 ∷ 32 ∷ 14 ∷ 144 ∷ 4 ∷ 36 ∷ 10 ∷ 32 ∷ 131 ∷ 70 ∷ 0 ∷ 223 ∷ 36 ∷ 4 ∷ 2 ∷ 52 ∷ 109 ∷ 70 ∷ 26 ∷ 38 ∷ 8 ∷ 175 ∷ 4 ∷ 32 ∷ 128 ∷ 70 ∷ 12 ∷ 168 ∷ 129 ∷ 70 ∷ 1 ∷ 32 ∷ 130 ∷ 70 ∷ 0 ∷ 32 ∷ 131 ∷ 70 ∷ 0 ∷ 223 ∷ 9 ∷ 32 ∷ 131 ∷ 70 ∷ 0 ∷ 223 ∷ 46 ∷ 70 ∷ 3 ∷ 52 ∷ 37 ∷ 70 ∷ 1 ∷ 36 ∷ 1 ∷ 39 ∷ 3 ∷ 32 ∷ 131 ∷ 70 ∷ 0 ∷ 223 ∷ 0 ∷ 36 ∷ 0 ∷ 37 ∷ 1 ∷ 38 ∷ 2 ∷ 79 ∷ 1 ∷ 32 ∷ 131 ∷ 70 ∷ 0 ∷ 223 ∷ 218 ∷ 231 ∷ 0 ∷ 0 ∷ 255 ∷ 255 ∷ 0 ∷ 128 ∷ []) ++ replicate 164 0 ++
      (3 ∷ 32 ∷ 12 ∷ 144 ∷ 16 ∷ 168 ∷ 13 ∷ 144 ∷ 32 ∷ 32 ∷ 14 ∷ 144 ∷ 3 ∷ 36 ∷ 10 ∷ 32 ∷ 131 ∷ 70 ∷ 0 ∷ 223 ∷ 36 ∷ 4 ∷ 1 ∷ 52 ∷ 109 ∷ 70 ∷ 16 ∷ 38 ∷ 8 ∷ 175 ∷ 4 ∷ 32 ∷ 128 ∷ 70 ∷ 12 ∷ 168 ∷ 129 ∷ 70 ∷ 1 ∷ 32 ∷ 130 ∷ 70 ∷ 0 ∷ 32 ∷ 131 ∷ 70 ∷ 0 ∷ 223 ∷ 9 ∷ 32 ∷ 131 ∷ 70 ∷ 0 ∷ 223 ∷ 46 ∷ 70 ∷ 1 ∷ 52 ∷ 37 ∷ 70 ∷ 1 ∷ 36 ∷ 1 ∷ 39 ∷ 3 ∷ 32 ∷ 131 ∷ 70 ∷ 0 ∷ 223 ∷ 0 ∷ 36 ∷ 0 ∷ 37 ∷ 1 ∷ 38 ∷ 2 ∷ 79 ∷ 1 ∷ 32 ∷ 131 ∷ 70 ∷ 0 ∷ 223 ∷ 218 ∷ 231 ∷ 0 ∷ 0 ∷ 255 ∷ 255 ∷ 0 ∷ 128 ∷ []) ++ replicate 164 0 ++
      (3 ∷ 32 ∷ 12 ∷ 144 ∷ 16 ∷ 168 ∷ 13 ∷ 144 ∷ 32 ∷ 32 ∷ 14 ∷ 144 ∷ 2 ∷ 36 ∷ 10 ∷ 32 ∷ 131 ∷ 70 ∷ 0 ∷ 223 ∷ 36 ∷ 4 ∷ 0 ∷ 52 ∷ 109 ∷ 70 ∷ 8 ∷ 38 ∷ 8 ∷ 175 ∷ 4 ∷ 32 ∷ 128 ∷ 70 ∷ 12 ∷ 168 ∷ 129 ∷ 70 ∷ 1 ∷ 32 ∷ 130 ∷ 70 ∷ 0 ∷ 32 ∷ 131 ∷ 70 ∷ 0 ∷ 223 ∷ 9 ∷ 32 ∷ 131 ∷ 70 ∷ 0 ∷ 223 ∷ 46 ∷ 70 ∷ 1 ∷ 52 ∷ 37 ∷ 70 ∷ 1 ∷ 36 ∷ 1 ∷ 39 ∷ 3 ∷ 32 ∷ 131 ∷ 70 ∷ 0 ∷ 223 ∷ 0 ∷ 36 ∷ 0 ∷ 37 ∷ 1 ∷ 38 ∷ 2 ∷ 79 ∷ 1 ∷ 32 ∷ 131 ∷ 70 ∷ 0 ∷ 223 ∷ 218 ∷ 231 ∷ 0 ∷ 0 ∷ 255 ∷ 255 ∷ 0 ∷ 128 ∷ []) ++ replicate 164 0 ++
      (3 ∷ 32 ∷ 12 ∷ 144 ∷ 16 ∷ 168 ∷ 13 ∷ 144 ∷ 32 ∷ 32 ∷ 14 ∷ 144 ∷ 5 ∷ 36 ∷ 10 ∷ 32 ∷ 131 ∷ 70 ∷ 0 ∷ 223 ∷ 36 ∷ 4 ∷ 4 ∷ 52 ∷ 109 ∷ 70 ∷ 17 ∷ 38 ∷ 8 ∷ 175 ∷ 4 ∷ 32 ∷ 128 ∷ 70 ∷ 12 ∷ 168 ∷ 129 ∷ 70 ∷ 1 ∷ 32 ∷ 130 ∷ 70 ∷ 0 ∷ 32 ∷ 131 ∷ 70 ∷ 0 ∷ 223 ∷ 9 ∷ 32 ∷ 131 ∷ 70 ∷ 0 ∷ 223 ∷ 46 ∷ 70 ∷ 1 ∷ 52 ∷ 37 ∷ 70 ∷ 1 ∷ 36 ∷ 1 ∷ 39 ∷ 3 ∷ 32 ∷ 131 ∷ 70 ∷ 0 ∷ 223 ∷ 0 ∷ 36 ∷ 0 ∷ 37 ∷ 1 ∷ 38 ∷ 2 ∷ 79 ∷ 1 ∷ 32 ∷ 131 ∷ 70 ∷ 0 ∷ 223 ∷ 218 ∷ 231 ∷ 0 ∷ 0 ∷ 255 ∷ 255 ∷ 0 ∷ 128 ∷ []) ++ replicate 164 0 ++
      (3 ∷ 32 ∷ 12 ∷ 144 ∷ 16 ∷ 168 ∷ 13 ∷ 144 ∷ 32 ∷ 32 ∷ 14 ∷ 144 ∷ 7 ∷ 36 ∷ 10 ∷ 32 ∷ 131 ∷ 70 ∷ 0 ∷ 223 ∷ 36 ∷ 4 ∷ 4 ∷ 52 ∷ 109 ∷ 70 ∷ 32 ∷ 38 ∷ 8 ∷ 175 ∷ 4 ∷ 32 ∷ 128 ∷ 70 ∷ 12 ∷ 168 ∷ 129 ∷ 70 ∷ 1 ∷ 32 ∷ 130 ∷ 70 ∷ 0 ∷ 32 ∷ 131 ∷ 70 ∷ 0 ∷ 223 ∷ 9 ∷ 32 ∷ 131 ∷ 70 ∷ 0 ∷ 223 ∷ 46 ∷ 70 ∷ 3 ∷ 52 ∷ 37 ∷ 70 ∷ 1 ∷ 36 ∷ 1 ∷ 39 ∷ 3 ∷ 32 ∷ 131 ∷ 70 ∷ 0 ∷ 223 ∷ 0 ∷ 36 ∷ 0 ∷ 37 ∷ 1 ∷ 38 ∷ 2 ∷ 79 ∷ 1 ∷ 32 ∷ 131 ∷ 70 ∷ 0 ∷ 223 ∷ 218 ∷ 231 ∷ 0 ∷ 0 ∷ 255 ∷ 255 ∷ 0 ∷ 128 ∷ []) ++ replicate 164 0 ++
      (3 ∷ 32 ∷ 12 ∷ 144 ∷ 16 ∷ 168 ∷ 13 ∷ 144 ∷ 32 ∷ 32 ∷ 14 ∷ 144 ∷ 1 ∷ 36 ∷ 10 ∷ 32 ∷ 131 ∷ 70 ∷ 0 ∷ 223 ∷ 36 ∷ 4 ∷ 0 ∷ 52 ∷ 109 ∷ 70 ∷ 31 ∷ 38 ∷ 8 ∷ 175 ∷ 4 ∷ 32 ∷ 128 ∷ 70 ∷ 12 ∷ 168 ∷ 129 ∷ 70 ∷ 1 ∷ 32 ∷ 130 ∷ 70 ∷ 0 ∷ 32 ∷ 131 ∷ 70 ∷ 0 ∷ 223 ∷ 9 ∷ 32 ∷ 131 ∷ 70 ∷ 0 ∷ 223 ∷ 46 ∷ 70 ∷ 6 ∷ 52 ∷ 37 ∷ 70 ∷ 1 ∷ 36 ∷ 1 ∷ 39 ∷ 3 ∷ 32 ∷ 131 ∷ 70 ∷ 0 ∷ 223 ∷ 0 ∷ 36 ∷ 0 ∷ 37 ∷ 1 ∷ 38 ∷ 2 ∷ 79 ∷ 1 ∷ 32 ∷ 131 ∷ 70 ∷ 0 ∷ 223 ∷ 218 ∷ 231 ∷ 0 ∷ 0 ∷ 255 ∷ 255 ∷ 0 ∷ 128 ∷ []) ++ replicate 164 0 ++
      (3 ∷ 32 ∷ 12 ∷ 144 ∷ 16 ∷ 168 ∷ 13 ∷ 144 ∷ 32 ∷ 32 ∷ 14 ∷ 144 ∷ 2 ∷ 36 ∷ 10 ∷ 32 ∷ 131 ∷ 70 ∷ 0 ∷ 223 ∷ 36 ∷ 4 ∷ 4 ∷ 52 ∷ 109 ∷ 70 ∷ 2 ∷ 38 ∷ 8 ∷ 175 ∷ 4 ∷ 32 ∷ 128 ∷ 70 ∷ 12 ∷ 168 ∷ 129 ∷ 70 ∷ 1 ∷ 32 ∷ 130 ∷ 70 ∷ 0 ∷ 32 ∷ 131 ∷ 70 ∷ 0 ∷ 223 ∷ 9 ∷ 32 ∷ 131 ∷ 70 ∷ 0 ∷ 223 ∷ 46 ∷ 70 ∷ 1 ∷ 52 ∷ 37 ∷ 70 ∷ 1 ∷ 36 ∷ 1 ∷ 39 ∷ 3 ∷ 32 ∷ 131 ∷ 70 ∷ 0 ∷ 223 ∷ 0 ∷ 36 ∷ 0 ∷ 37 ∷ 1 ∷ 38 ∷ 2 ∷ 79 ∷ 1 ∷ 32 ∷ 131 ∷ 70 ∷ 0 ∷ 223 ∷ 218 ∷ 231 ∷ 0 ∷ 0 ∷ 255 ∷ 255 ∷ 0 ∷ 128 ∷ []) ++ replicate 164 0 ++
      (3 ∷ 32 ∷ 12 ∷ 144 ∷ 16 ∷ 168 ∷ 13 ∷ 144 ∷ 32 ∷ 32 ∷ 14 ∷ 144 ∷ 6 ∷ 36 ∷ 10 ∷ 32 ∷ 131 ∷ 70 ∷ 0 ∷ 223 ∷ 36 ∷ 4 ∷ 1 ∷ 52 ∷ 109 ∷ 70 ∷ 8 ∷ 38 ∷ 8 ∷ 175 ∷ 4 ∷ 32 ∷ 128 ∷ 70 ∷ 12 ∷ 168 ∷ 129 ∷ 70 ∷ 1 ∷ 32 ∷ 130 ∷ 70 ∷ 0 ∷ 32 ∷ 131 ∷ 70 ∷ 0 ∷ 223 ∷ 9 ∷ 32 ∷ 131 ∷ 70 ∷ 0 ∷ 223 ∷ 46 ∷ 70 ∷ 1 ∷ 52 ∷ 37 ∷ 70 ∷ 1 ∷ 36 ∷ 1 ∷ 39 ∷ 3 ∷ 32 ∷ 131 ∷ 70 ∷ 0 ∷ 223 ∷ 0 ∷ 36 ∷ 0 ∷ 37 ∷ 1 ∷ 38 ∷ 2 ∷ 79 ∷ 1 ∷ 32 ∷ 131 ∷ 70 ∷ 0 ∷ 223 ∷ 218 ∷ 231 ∷ 0 ∷ 0 ∷ 255 ∷ 255 ∷ 0 ∷ 128 ∷ []) ++ replicate 164 0 ++
      (3 ∷ 32 ∷ 12 ∷ 144 ∷ 16 ∷ 168 ∷ 13 ∷ 144 ∷ 32 ∷ 32 ∷ 14 ∷ 144 ∷ 2 ∷ 36 ∷ 10 ∷ 32 ∷ 131 ∷ 70 ∷ 0 ∷ 223 ∷ 36 ∷ 4 ∷ 0 ∷ 52 ∷ 109 ∷ 70 ∷ 3 ∷ 38 ∷ 8 ∷ 175 ∷ 4 ∷ 32 ∷ 128 ∷ 70 ∷ 12 ∷ 168 ∷ 129 ∷ 70 ∷ 1 ∷ 32 ∷ 130 ∷ 70 ∷ 0 ∷ 32 ∷ 131 ∷ 70 ∷ 0 ∷ 223 ∷ 9 ∷ 32 ∷ 131 ∷ 70 ∷ 0 ∷ 223 ∷ 46 ∷ 70 ∷ 3 ∷ 52 ∷ 37 ∷ 70 ∷ 1 ∷ 36 ∷ 1 ∷ 39 ∷ 3 ∷ 32 ∷ 131 ∷ 70 ∷ 0 ∷ 223 ∷ 0 ∷ 36 ∷ 0 ∷ 37 ∷ 1 ∷ 38 ∷ 2 ∷ 79 ∷ 1 ∷ 32 ∷ 131 ∷ 70 ∷ 0 ∷ 223 ∷ 218 ∷ 231 ∷ 0 ∷ 0 ∷ 255 ∷ 255 ∷ 0 ∷ 128 ∷ []) ++ replicate 164 0;
}

scenario : Scenario
scenario = record { setup = setup; script = record { every = Some 64; events = (16, Irq 4) ∷ (47, Irq 2) ∷ (52, Irq 0) ∷ (65, Irq 5) ∷ (94, Irq 5) ∷ (109, Irq 2) ∷ (114, Irq 7) ∷ (130, Irq 4) ∷ (146, Irq 4) ∷ (162, Irq 6) ∷ (186, Irq 6) ∷ (201, Irq 6) ∷ (221, Irq 5) ∷ (238, Irq 0) ∷ (240, Irq 0) ∷ (263, Irq 5) ∷ (276, Irq 4) ∷ (290, Irq 2) ∷ (313, Irq 0) ∷ (320, Irq 5) ∷ (337, Irq 0) ∷ (356, Irq 5) ∷ (371, Irq 0) ∷ (396, Irq 0) ∷ (400, Irq 2) ∷ (430, Irq 3) ∷ (442, Irq 3) ∷ [] }; devices = [] }

expected : List (ℕ × Note)
expected =
    (6, note.Syscall 0 1 (0 ∷ 0 ∷ 1 ∷ 0 ∷ 0 ∷ 0 ∷ 0 ∷ [])) ∷
    (6, note.Listen 0 from_index.Any 1) ∷
    (11, note.Syscall 1 7 (1 ∷ 1 ∷ 0 ∷ 0 ∷ 0 ∷ 0 ∷ 0 ∷ [])) ∷
    (11, note.Ret 1 (1 ∷ 1 ∷ 0 ∷ 0 ∷ 0 ∷ 0 ∷ [])) ∷
    (16, note.Irq 4 handled.Held) ∷
    (18, note.Syscall 1 1 (536871232 ∷ 16 ∷ 1 ∷ 0 ∷ 0 ∷ 0 ∷ 0 ∷ [])) ∷
    (18, note.Listen 1 from_index.Any 1) ∷
    (23, note.Syscall 2 7 (1 ∷ 1 ∷ 0 ∷ 0 ∷ 0 ∷ 0 ∷ 0 ∷ [])) ∷
    (23, note.Ret 2 (1 ∷ 1 ∷ 0 ∷ 0 ∷ 0 ∷ 0 ∷ [])) ∷
    (30, note.Syscall 2 1 (536871488 ∷ 16 ∷ 1 ∷ 0 ∷ 0 ∷ 0 ∷ 0 ∷ [])) ∷
    (30, note.Listen 2 from_index.Any 1) ∷
    (35, note.Syscall 3 7 (1 ∷ 1 ∷ 0 ∷ 0 ∷ 0 ∷ 0 ∷ 0 ∷ [])) ∷
    (35, note.Ret 3 (1 ∷ 1 ∷ 0 ∷ 0 ∷ 0 ∷ 0 ∷ [])) ∷
    (42, note.Syscall 3 1 (536871744 ∷ 16 ∷ 1 ∷ 0 ∷ 0 ∷ 0 ∷ 0 ∷ [])) ∷
    (42, note.Listen 3 from_index.Any 1) ∷
    (47, note.Irq 2 handled.Posted) ∷
    (47, note.Post 3 1 1) ∷
    (47, note.Ret 3 (0 ∷ 65535 ∷ 1 ∷ 0 ∷ 0 ∷ 0 ∷ [])) ∷
    (47, note.Syscall 4 7 (1 ∷ 1 ∷ 0 ∷ 0 ∷ 0 ∷ 0 ∷ 0 ∷ [])) ∷
    (47, note.Ret 4 (1 ∷ 1 ∷ 0 ∷ 0 ∷ 0 ∷ 0 ∷ [])) ∷
    (52, note.Irq 0 handled.Posted) ∷
    (52, note.Post 1 1 1) ∷
    (52, note.Ret 1 (0 ∷ 65535 ∷ 1 ∷ 0 ∷ 0 ∷ 0 ∷ [])) ∷
    (54, note.Syscall 4 1 (536872000 ∷ 16 ∷ 1 ∷ 0 ∷ 0 ∷ 0 ∷ 0 ∷ [])) ∷
    (54, note.Listen 4 from_index.Any 1) ∷
    (59, note.Syscall 5 7 (1 ∷ 1 ∷ 0 ∷ 0 ∷ 0 ∷ 0 ∷ 0 ∷ [])) ∷
    (59, note.Post 5 1 1) ∷
    (59, note.Ret 5 (1 ∷ 1 ∷ 0 ∷ 0 ∷ 0 ∷ 0 ∷ [])) ∷
    (64, note.Tick 1) ∷
    (65, note.Irq 5 handled.Held) ∷
    (66, note.Syscall 5 1 (536872256 ∷ 16 ∷ 1 ∷ 0 ∷ 0 ∷ 0 ∷ 0 ∷ [])) ∷
    (66, note.Ret 5 (0 ∷ 65535 ∷ 1 ∷ 0 ∷ 0 ∷ 0 ∷ [])) ∷
    (74, note.Syscall 5 7 (1 ∷ 1 ∷ 1 ∷ 0 ∷ 0 ∷ 0 ∷ 0 ∷ [])) ∷
    (74, note.Ret 5 (1 ∷ 1 ∷ 1 ∷ 0 ∷ 0 ∷ 0 ∷ [])) ∷
    (81, note.Syscall 5 1 (536872256 ∷ 16 ∷ 1 ∷ 0 ∷ 0 ∷ 0 ∷ 0 ∷ [])) ∷
    (81, note.Listen 5 from_index.Any 1) ∷
    (86, note.Syscall 6 7 (1 ∷ 1 ∷ 0 ∷ 0 ∷ 0 ∷ 0 ∷ 0 ∷ [])) ∷
    (86, note.Post 6 1 1) ∷
    (86, note.Ret 6 (1 ∷ 1 ∷ 0 ∷ 0 ∷ 0 ∷ 0 ∷ [])) ∷
    (93, note.Syscall 6 1 (536872512 ∷ 16 ∷ 1 ∷ 0 ∷ 0 ∷ 0 ∷ 0 ∷ [])) ∷
    (93, note.Ret 6 (0 ∷ 65535 ∷ 1 ∷ 0 ∷ 0 ∷ 0 ∷ [])) ∷
    (94, note.Irq 5 handled.Held) ∷
    (101, note.Syscall 6 7 (1 ∷ 1 ∷ 1 ∷ 0 ∷ 0 ∷ 0 ∷ 0 ∷ [])) ∷
    (101, note.Post 6 1 1) ∷
    (101, note.Ret 6 (1 ∷ 1 ∷ 1 ∷ 0 ∷ 0 ∷ 0 ∷ [])) ∷
    (108, note.Syscall 6 1 (536872512 ∷ 16 ∷ 1 ∷ 0 ∷ 0 ∷ 0 ∷ 0 ∷ [])) ∷
    (108, note.Ret 6 (0 ∷ 65535 ∷ 1 ∷ 0 ∷ 0 ∷ 0 ∷ [])) ∷
    (109, note.Irq 2 handled.Held) ∷
    (114, note.Irq 7 handled.Unowned) ∷
    (116, note.Syscall 6 7 (1 ∷ 1 ∷ 1 ∷ 0 ∷ 0 ∷ 0 ∷ 0 ∷ [])) ∷
    (116, note.Ret 6 (1 ∷ 1 ∷ 1 ∷ 0 ∷ 0 ∷ 0 ∷ [])) ∷
    (123, note.Syscall 6 1 (536872512 ∷ 16 ∷ 1 ∷ 0 ∷ 0 ∷ 0 ∷ 0 ∷ [])) ∷
    (123, note.Listen 6 from_index.Any 1) ∷
    (128, note.Tick 2) ∷
    (128, note.Syscall 7 7 (1 ∷ 1 ∷ 0 ∷ 0 ∷ 0 ∷ 0 ∷ 0 ∷ [])) ∷
    (128, note.Ret 7 (1 ∷ 1 ∷ 0 ∷ 0 ∷ 0 ∷ 0 ∷ [])) ∷
    (130, note.Irq 4 handled.Posted) ∷
    (130, note.Post 5 1 1) ∷
    (130, note.Ret 5 (0 ∷ 65535 ∷ 1 ∷ 0 ∷ 0 ∷ 0 ∷ [])) ∷
    (135, note.Syscall 7 1 (536872768 ∷ 16 ∷ 1 ∷ 0 ∷ 0 ∷ 0 ∷ 0 ∷ [])) ∷
    (135, note.Listen 7 from_index.Any 1) ∷
    (143, note.Syscall 1 7 (1 ∷ 1 ∷ 1 ∷ 0 ∷ 0 ∷ 0 ∷ 0 ∷ [])) ∷
    (143, note.Ret 1 (1 ∷ 1 ∷ 1 ∷ 0 ∷ 0 ∷ 0 ∷ [])) ∷
    (146, note.Irq 4 handled.Held) ∷
    (150, note.Syscall 1 1 (536871232 ∷ 16 ∷ 1 ∷ 0 ∷ 0 ∷ 0 ∷ 0 ∷ [])) ∷
    (150, note.Listen 1 from_index.Any 1) ∷
    (158, note.Syscall 3 7 (1 ∷ 1 ∷ 1 ∷ 0 ∷ 0 ∷ 0 ∷ 0 ∷ [])) ∷
    (158, note.Post 3 1 1) ∷
    (158, note.Ret 3 (1 ∷ 1 ∷ 1 ∷ 0 ∷ 0 ∷ 0 ∷ [])) ∷
    (162, note.Irq 6 handled.Posted) ∷
    (162, note.Post 7 1 1) ∷
    (162, note.Ret 7 (0 ∷ 65535 ∷ 1 ∷ 0 ∷ 0 ∷ 0 ∷ [])) ∷
    (165, note.Syscall 3 1 (536871744 ∷ 16 ∷ 1 ∷ 0 ∷ 0 ∷ 0 ∷ 0 ∷ [])) ∷
    (165, note.Ret 3 (0 ∷ 65535 ∷ 1 ∷ 0 ∷ 0 ∷ 0 ∷ [])) ∷
    (173, note.Syscall 3 7 (1 ∷ 1 ∷ 1 ∷ 0 ∷ 0 ∷ 0 ∷ 0 ∷ [])) ∷
    (173, note.Ret 3 (1 ∷ 1 ∷ 1 ∷ 0 ∷ 0 ∷ 0 ∷ [])) ∷
    (180, note.Syscall 3 1 (536871744 ∷ 16 ∷ 1 ∷ 0 ∷ 0 ∷ 0 ∷ 0 ∷ [])) ∷
    (180, note.Listen 3 from_index.Any 1) ∷
    (186, note.Irq 6 handled.Held) ∷
    (188, note.Syscall 5 7 (1 ∷ 1 ∷ 1 ∷ 0 ∷ 0 ∷ 0 ∷ 0 ∷ [])) ∷
    (188, note.Post 5 1 1) ∷
    (188, note.Ret 5 (1 ∷ 1 ∷ 1 ∷ 0 ∷ 0 ∷ 0 ∷ [])) ∷
    (192, note.Tick 3) ∷
    (195, note.Syscall 5 1 (536872256 ∷ 16 ∷ 1 ∷ 0 ∷ 0 ∷ 0 ∷ 0 ∷ [])) ∷
    (195, note.Ret 5 (0 ∷ 65535 ∷ 1 ∷ 0 ∷ 0 ∷ 0 ∷ [])) ∷
    (201, note.Irq 6 handled.Held) ∷
    (203, note.Syscall 5 7 (1 ∷ 1 ∷ 1 ∷ 0 ∷ 0 ∷ 0 ∷ 0 ∷ [])) ∷
    (203, note.Ret 5 (1 ∷ 1 ∷ 1 ∷ 0 ∷ 0 ∷ 0 ∷ [])) ∷
    (210, note.Syscall 5 1 (536872256 ∷ 16 ∷ 1 ∷ 0 ∷ 0 ∷ 0 ∷ 0 ∷ [])) ∷
    (210, note.Listen 5 from_index.Any 1) ∷
    (218, note.Syscall 7 7 (1 ∷ 1 ∷ 1 ∷ 0 ∷ 0 ∷ 0 ∷ 0 ∷ [])) ∷
    (218, note.Post 7 1 1) ∷
    (218, note.Ret 7 (1 ∷ 1 ∷ 1 ∷ 0 ∷ 0 ∷ 0 ∷ [])) ∷
    (221, note.Irq 5 handled.Posted) ∷
    (221, note.Post 6 1 1) ∷
    (221, note.Ret 6 (0 ∷ 65535 ∷ 1 ∷ 0 ∷ 0 ∷ 0 ∷ [])) ∷
    (225, note.Syscall 7 1 (536872768 ∷ 16 ∷ 1 ∷ 0 ∷ 0 ∷ 0 ∷ 0 ∷ [])) ∷
    (225, note.Ret 7 (0 ∷ 65535 ∷ 1 ∷ 0 ∷ 0 ∷ 0 ∷ [])) ∷
    (233, note.Syscall 7 7 (1 ∷ 1 ∷ 1 ∷ 0 ∷ 0 ∷ 0 ∷ 0 ∷ [])) ∷
    (233, note.Ret 7 (1 ∷ 1 ∷ 1 ∷ 0 ∷ 0 ∷ 0 ∷ [])) ∷
    (238, note.Irq 0 handled.Posted) ∷
    (238, note.Post 1 1 1) ∷
    (238, note.Ret 1 (0 ∷ 65535 ∷ 1 ∷ 0 ∷ 0 ∷ 0 ∷ [])) ∷
    (240, note.Irq 0 handled.Held) ∷
    (240, note.Syscall 7 1 (536872768 ∷ 16 ∷ 1 ∷ 0 ∷ 0 ∷ 0 ∷ 0 ∷ [])) ∷
    (240, note.Listen 7 from_index.Any 1) ∷
    (248, note.Syscall 1 7 (1 ∷ 1 ∷ 1 ∷ 0 ∷ 0 ∷ 0 ∷ 0 ∷ [])) ∷
    (248, note.Post 1 1 1) ∷
    (248, note.Ret 1 (1 ∷ 1 ∷ 1 ∷ 0 ∷ 0 ∷ 0 ∷ [])) ∷
    (255, note.Syscall 1 1 (536871232 ∷ 16 ∷ 1 ∷ 0 ∷ 0 ∷ 0 ∷ 0 ∷ [])) ∷
    (255, note.Ret 1 (0 ∷ 65535 ∷ 1 ∷ 0 ∷ 0 ∷ 0 ∷ [])) ∷
    (256, note.Tick 4) ∷
    (263, note.Irq 5 handled.Held) ∷
    (263, note.Syscall 1 7 (1 ∷ 1 ∷ 1 ∷ 0 ∷ 0 ∷ 0 ∷ 0 ∷ [])) ∷
    (263, note.Ret 1 (1 ∷ 1 ∷ 1 ∷ 0 ∷ 0 ∷ 0 ∷ [])) ∷
    (270, note.Syscall 1 1 (536871232 ∷ 16 ∷ 1 ∷ 0 ∷ 0 ∷ 0 ∷ 0 ∷ [])) ∷
    (270, note.Listen 1 from_index.Any 1) ∷
    (276, note.Irq 4 handled.Posted) ∷
    (276, note.Post 5 1 1) ∷
    (276, note.Ret 5 (0 ∷ 65535 ∷ 1 ∷ 0 ∷ 0 ∷ 0 ∷ [])) ∷
    (278, note.Syscall 6 7 (1 ∷ 1 ∷ 1 ∷ 0 ∷ 0 ∷ 0 ∷ 0 ∷ [])) ∷
    (278, note.Post 6 1 1) ∷
    (278, note.Ret 6 (1 ∷ 1 ∷ 1 ∷ 0 ∷ 0 ∷ 0 ∷ [])) ∷
    (285, note.Syscall 6 1 (536872512 ∷ 16 ∷ 1 ∷ 0 ∷ 0 ∷ 0 ∷ 0 ∷ [])) ∷
    (285, note.Ret 6 (0 ∷ 65535 ∷ 1 ∷ 0 ∷ 0 ∷ 0 ∷ [])) ∷
    (290, note.Irq 2 handled.Posted) ∷
    (290, note.Post 3 1 1) ∷
    (290, note.Ret 3 (0 ∷ 65535 ∷ 1 ∷ 0 ∷ 0 ∷ 0 ∷ [])) ∷
    (293, note.Syscall 6 7 (1 ∷ 1 ∷ 1 ∷ 0 ∷ 0 ∷ 0 ∷ 0 ∷ [])) ∷
    (293, note.Ret 6 (1 ∷ 1 ∷ 1 ∷ 0 ∷ 0 ∷ 0 ∷ [])) ∷
    (300, note.Syscall 6 1 (536872512 ∷ 16 ∷ 1 ∷ 0 ∷ 0 ∷ 0 ∷ 0 ∷ [])) ∷
    (300, note.Listen 6 from_index.Any 1) ∷
    (308, note.Syscall 3 7 (1 ∷ 1 ∷ 1 ∷ 0 ∷ 0 ∷ 0 ∷ 0 ∷ [])) ∷
    (308, note.Ret 3 (1 ∷ 1 ∷ 1 ∷ 0 ∷ 0 ∷ 0 ∷ [])) ∷
    (313, note.Irq 0 handled.Posted) ∷
    (313, note.Post 1 1 1) ∷
    (313, note.Ret 1 (0 ∷ 65535 ∷ 1 ∷ 0 ∷ 0 ∷ 0 ∷ [])) ∷
    (315, note.Syscall 3 1 (536871744 ∷ 16 ∷ 1 ∷ 0 ∷ 0 ∷ 0 ∷ 0 ∷ [])) ∷
    (315, note.Listen 3 from_index.Any 1) ∷
    (320, note.Tick 5) ∷
    (320, note.Irq 5 handled.Posted) ∷
    (320, note.Post 6 1 1) ∷
    (320, note.Ret 6 (0 ∷ 65535 ∷ 1 ∷ 0 ∷ 0 ∷ 0 ∷ [])) ∷
    (323, note.Syscall 5 7 (1 ∷ 1 ∷ 1 ∷ 0 ∷ 0 ∷ 0 ∷ 0 ∷ [])) ∷
    (323, note.Ret 5 (1 ∷ 1 ∷ 1 ∷ 0 ∷ 0 ∷ 0 ∷ [])) ∷
    (330, note.Syscall 5 1 (536872256 ∷ 16 ∷ 1 ∷ 0 ∷ 0 ∷ 0 ∷ 0 ∷ [])) ∷
    (330, note.Listen 5 from_index.Any 1) ∷
    (337, note.Irq 0 handled.Held) ∷
    (338, note.Syscall 6 7 (1 ∷ 1 ∷ 1 ∷ 0 ∷ 0 ∷ 0 ∷ 0 ∷ [])) ∷
    (338, note.Ret 6 (1 ∷ 1 ∷ 1 ∷ 0 ∷ 0 ∷ 0 ∷ [])) ∷
    (345, note.Syscall 6 1 (536872512 ∷ 16 ∷ 1 ∷ 0 ∷ 0 ∷ 0 ∷ 0 ∷ [])) ∷
    (345, note.Listen 6 from_index.Any 1) ∷
    (353, note.Syscall 1 7 (1 ∷ 1 ∷ 1 ∷ 0 ∷ 0 ∷ 0 ∷ 0 ∷ [])) ∷
    (353, note.Post 1 1 1) ∷
    (353, note.Ret 1 (1 ∷ 1 ∷ 1 ∷ 0 ∷ 0 ∷ 0 ∷ [])) ∷
    (356, note.Irq 5 handled.Posted) ∷
    (356, note.Post 6 1 1) ∷
    (356, note.Ret 6 (0 ∷ 65535 ∷ 1 ∷ 0 ∷ 0 ∷ 0 ∷ [])) ∷
    (360, note.Syscall 1 1 (536871232 ∷ 16 ∷ 1 ∷ 0 ∷ 0 ∷ 0 ∷ 0 ∷ [])) ∷
    (360, note.Ret 1 (0 ∷ 65535 ∷ 1 ∷ 0 ∷ 0 ∷ 0 ∷ [])) ∷
    (368, note.Syscall 1 7 (1 ∷ 1 ∷ 1 ∷ 0 ∷ 0 ∷ 0 ∷ 0 ∷ [])) ∷
    (368, note.Ret 1 (1 ∷ 1 ∷ 1 ∷ 0 ∷ 0 ∷ 0 ∷ [])) ∷
    (371, note.Irq 0 handled.Posted) ∷
    (371, note.Post 1 1 1) ∷
    (375, note.Syscall 1 1 (536871232 ∷ 16 ∷ 1 ∷ 0 ∷ 0 ∷ 0 ∷ 0 ∷ [])) ∷
    (375, note.Ret 1 (0 ∷ 65535 ∷ 1 ∷ 0 ∷ 0 ∷ 0 ∷ [])) ∷
    (383, note.Syscall 1 7 (1 ∷ 1 ∷ 1 ∷ 0 ∷ 0 ∷ 0 ∷ 0 ∷ [])) ∷
    (383, note.Ret 1 (1 ∷ 1 ∷ 1 ∷ 0 ∷ 0 ∷ 0 ∷ [])) ∷
    (384, note.Tick 6) ∷
    (390, note.Syscall 1 1 (536871232 ∷ 16 ∷ 1 ∷ 0 ∷ 0 ∷ 0 ∷ 0 ∷ [])) ∷
    (390, note.Listen 1 from_index.Any 1) ∷
    (396, note.Irq 0 handled.Posted) ∷
    (396, note.Post 1 1 1) ∷
    (396, note.Ret 1 (0 ∷ 65535 ∷ 1 ∷ 0 ∷ 0 ∷ 0 ∷ [])) ∷
    (398, note.Syscall 6 7 (1 ∷ 1 ∷ 1 ∷ 0 ∷ 0 ∷ 0 ∷ 0 ∷ [])) ∷
    (398, note.Ret 6 (1 ∷ 1 ∷ 1 ∷ 0 ∷ 0 ∷ 0 ∷ [])) ∷
    []

agrees : (run Calls scenario 400 (start setup)).notes ≡ expected
unfolding setup scenario expected computed
agrees = refl
