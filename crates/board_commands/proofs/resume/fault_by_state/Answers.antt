use Rattle.std.proofs.Common.{ℕ, sym, subst}
use Rattle.snapshot.specs.Loaded.{IsStateFault}
use Rattle.snapshot.specs.Saved.{expected_of}
use Rattle.snapshot.specs.Waits.{state_fault}
use Rattle.command_files.specs.Contents.{setup_of_image}
use Rattle.command_files.specs.FileFaults.{IsFaultFor}
use Rattle.board_commands.proofs.Refusals.{state_refused}
use Rattle.board_commands.proofs.resume.fault_by_state.Goals as goal

pub returns-in-Refused : goal.returns-in-Refused
returns-in-Refused c = λ devices image bound bytes le is.
    let why : ℕ × ℕ = (c.in-Refused.cause, c.in-Refused.place) in
    let found = subst (IsStateFault (state_fault (expected_of (setup_of_image image) devices) bytes)) c.in-Refused.is is in
    subst (λ r. IsFaultFor r c.refused_at_number.result) (sym (state_refused devices image bound bytes why le found)) c.refused_at_number.ensures
