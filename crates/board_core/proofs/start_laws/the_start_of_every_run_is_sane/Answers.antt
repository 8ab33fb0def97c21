use Rattle.kernel_abi.proofs.Devices.{fresh_sane}
use Rattle.task_table.proofs.model.Equipped.{keeps-devices}
use Rattle.task_table.proofs.kept.Starts.{sane-start}
use Rattle.board_core.specs.Opened.{setup_of_image}
use Rattle.board_core.proofs.Opens.{sound_setup}
use Rattle.board_core.proofs.start_laws.the_start_of_every_run_is_sane.Goals as goal

pub returns-clause-sound : goal.returns-clause-sound
returns-clause-sound c = λ p facts bytes. sound_setup p facts bytes

pub returns-clause-sane : goal.returns-clause-sane
returns-clause-sane c = λ p script devices facts bytes fresh. keeps-devices devices (sane-start (setup_of_image p) (sound_setup p facts bytes)) (fresh_sane devices fresh)
