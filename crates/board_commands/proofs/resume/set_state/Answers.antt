use Rattle.std.proofs.Common.{ℕ, List, refl, sym, subst}
use Rattle.image_format.specs.Images.{image_data}
use Rattle.board_commands.specs.Sources.{state_file}
use Rattle.command_files.specs.Sources.{MayBe}
use Rattle.command_files.proofs.Faulting.{cannot_take, refused_in}
use Rattle.board_commands.proofs.Faulting.{long_state}
use Rattle.board_commands.proofs.resume.set_state.Goals as goal

pub returns-in-Err-clause-named_fault : goal.returns-in-Err-clause-named_fault
returns-in-Err-clause-named_fault g c =
    let a = g.F.Files.seen c.args.files.now in
    let b = g.F.Files.seen c.read_contents.new.files in
    c.fault_named.ensures a b (state_file _ (image_data c.args.image.now) c.args.bound c.args.state.now) refl
    (cannot_take a b (state_file _ (image_data c.args.image.now) c.args.bound c.args.state.now) c.in-Err.file_fault (long_state _ (image_data c.args.image.now) c.args.bound) c.in-Err.ensures.file_fault)

pub returns-clause-named_fault : goal.returns-clause-named_fault
returns-clause-named_fault g c =
    let a = g.F.Files.seen c.args.files.now in
    let b = g.F.Files.seen c.read_contents.new.files in
    let held = subst (λ (x : List ℕ). MayBe (g.F.Files.seen c.args.files.now).contents c.args.state.now x) (sym c.deref.ensures.value) c.in-Ok.ensures.held in
    c.fault_named-in-Err-board_in.ensures a b (state_file _ (image_data c.args.image.now) c.args.bound c.args.state.now) refl
    (refused_in a b (state_file _ (image_data c.args.image.now) c.args.bound c.args.state.now) c.deref.result.now c.in-Err-board_in.file_fault held c.in-Err-board_in.ensures.file_fault)

pub returns-in-Err-clause-starts : goal.returns-in-Err-clause-starts
returns-in-Err-clause-starts g c = c.starts_well.ensures _ c.requires.fresh

pub returns-clause-starts : goal.returns-clause-starts
returns-clause-starts g c = c.starts_well.ensures _ c.requires.fresh
