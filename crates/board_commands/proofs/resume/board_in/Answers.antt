use Rattle.std.proofs.Common.{◌<◌, ◌≤◌, arith, subst, sym}
use Rattle.image_format.specs.Images.{image_data}
use Rattle.board_core.specs.Stands.{turns_of}
use Rattle.command_files.specs.FileFaults.{IsFaultFor}
use Rattle.board_commands.proofs.Refusals.{state_taken, state_late}
use Rattle.board_commands.proofs.resume.board_in.Goals as goal

pub returns-in-Err-clause-file_fault : goal.returns-in-Err-clause-file_fault
returns-in-Err-clause-file_fault boxes c = c.fault_by_state.ensures _ (image_data c.args.image.now) c.args.bound c.args.bytes.now c.requires.few c.in-Err.ensures.refused

pub returns-then-turns-bound-clause-file_fault : goal.returns-then-turns-bound-clause-file_fault
returns-then-turns-bound-clause-file_fault boxes c =
    let behind : c.args.bound < turns_of c.in-Ok.board = omega arith in
    subst (λ r. IsFaultFor r c.refused_at_number.result)
    (sym (state_late _ (image_data c.args.image.now) c.args.bound (turns_of c.in-Ok.board) c.args.bytes.now c.requires.few c.in-Ok.ensures.accepted c.in-Ok.ensures.turns behind)) c.refused_at_number.ensures

pub returns-clause-accepted : goal.returns-clause-accepted
returns-clause-accepted boxes c =
    let within : turns_of c.in-Ok.board ≤ c.args.bound = omega arith in
    state_taken _ (image_data c.args.image.now) c.args.bound (turns_of c.in-Ok.board) c.args.bytes.now c.requires.few c.in-Ok.ensures.accepted c.in-Ok.ensures.turns within
