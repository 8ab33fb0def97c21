use Rattle.std.proofs.Common.{ℕ, List, map, ap, subst, ◌∙◌}
use Rattle.kernel_abi.specs.Devices.{DeviceData}
use Rattle.run_script.specs.Events.{script_data}
use Rattle.run_script.specs.Scripts.{ScriptData, IsNext}
use Rattle.task_table.specs.model.Start.{start, begun}
use Rattle.board_core.specs.Opened.{setup_of_image}
use Rattle.image_format.specs.Images.{image_data}
use Rattle.board_core.specs.Data.{boxed, data_of}
use Rattle.board_core.proofs.Running.{started, opened, choice_started, counted_started, turn_started}
use Rattle.board_core.proofs.Loading.{opened_as}
use Rattle.board_core.proofs.fast.IoRegions.{all_ports}
use Rattle.board_core.proofs.board.Board.open.Goals as goal

pub returns-clause-stands : goal.returns-clause-stands
returns-clause-stands boxes c =
    let shown = boxed (λ p. (goal.Device-dyn boxes p).shown p.1) in
    let g = setup_of_image (image_data c.args.image.now) in
    let ds : List DeviceData = map shown c.args.devices.items in
    let s = opened g ds c.in_ok-kernel.kernel c.requires c.in_ok-kernel.ensures.stands in
    let N : ScriptData → Type 0 = λ script. IsNext script 0 c.next-due.result in
    let M : ℕ → Type 0 = λ turn. IsNext (script_data c.args.script.now) turn c.next-due.result in
    let zero = turn_started g ds in
    record {
      holds = record {
        machine = opened_as _ g _ c.of.result (started g ds) c.of.ensures.kernel c.of.ensures.loaded (ap (data_of shown) c.of.ensures.devices ∙ c.of-devices.ensures) s.0;
        turns = zero;
        script = c.in_ok-script.ensures;
        io_regions = all_ports g c.in_ok-kernel.kernel (begun (start g)) _ c.in_ok-kernel.ensures.stands.holds c.in_ok-io_regions.ensures;
        due = subst M zero (subst N c.in_ok-script.ensures c.next-due.ensures);
        choice = choice_started g ds _ (c.choice_of-choice.ensures g (begun (start g)) c.in_ok-kernel.ensures.stands.holds);
      };
      sane = s.1;
      counted = counted_started g ds;
    }
