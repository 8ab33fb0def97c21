use Rattle.std.proofs.Common.{◌≡◌, ℕ, List, length, arith, subst}
use Rattle.std.proofs.lemmas.List.{length-map}
use Rattle.kernel_abi.specs.Devices.{DeviceData, AreFresh}
use Rattle.kernel_abi.proofs.Devices.{fresh_sane}
use Rattle.image_format.specs.Images.{image_data}
use Rattle.image_format.specs.ImageData.{ImageData}
use Rattle.image_format.specs.Facts.{Facts}
use Rattle.mem_banks.specs.Memory.{AreAllBytes}
use Rattle.run_script.specs.Events.{script_data}
use Rattle.run_script.specs.Scripts.{ScriptData, events_of}
use Rattle.run_script.specs.Facts.{IsTurn}
use Rattle.task_table.proofs.kept.Starts.{sane-start}
use Rattle.task_table.proofs.model.Equipped.{keeps-devices}
use Rattle.board_core.specs.Opened.{scenario_of, setup_of_image, setup_of_task}
use Rattle.board_core.proofs.Opens.{sound_setup}
use Rattle.board_commands.specs.Ready.{StartsWell}
use Rattle.board_commands.proofs.resume.starts_well.Goals as goal

well : (p : ImageData) (d : ScriptData) (devices : List DeviceData) → Facts p → AreAllBytes p.flash → ((turn : ℕ) → IsTurn (events_of d turn)) → AreFresh devices → StartsWell (scenario_of p d devices)
well p d devices facts bytes turns fresh =
    let count : length (setup_of_image p).tasks ≡ length p.tasks = length-map p.tasks setup_of_task in
    let many = facts.sizes.most_tasks in
    record {
      sane = keeps-devices devices (sane-start (setup_of_image p) (sound_setup p facts bytes)) (fresh_sane devices fresh);
      tasks = omega (arith, count, many);
      ram = facts.sizes.most_ram;
      events = λ turn. (turns turn).few;
    }

pub returns : goal.returns
returns c = λ devices fresh.
    well (image_data c.args.image.now) (script_data c.args.script.now) devices c.facts.ensures.facts (subst AreAllBytes c.flash.ensures c.are_bytes.ensures) c.facts-2.ensures.turn fresh
