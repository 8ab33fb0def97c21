use Rattle.sample_gen.specs.Sample.{client_priority}
use Rattle.build_laws.proofs.Build.{flash_full, ram_full}
use Rattle.build_laws.proofs.sample.board_is_full.Goals as goal

pub returns : goal.returns
returns c = record { flash = λ seed. flash_full (client_priority seed); ram = λ seed. ram_full (client_priority seed) }
