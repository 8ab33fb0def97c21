use Rattle.std.proofs.Common.{ℕ, List, refl, sym, subst}
use Rattle.command_files.specs.Sources.{image_file, MayBe}
use Rattle.command_files.proofs.Faulting.{cannot_take, refused_in, long_image}
use Rattle.command_files.proofs.preparing.read_image.Goals as goal

pub returns-in-Err-clause-named_fault : goal.returns-in-Err-clause-named_fault
returns-in-Err-clause-named_fault g c =
    let a = g.F.Files.seen c.args.files.now in
    let b = g.F.Files.seen c.read_contents.new.files in
    let f = image_file c.args.name.now in
    c.fault_named.ensures a b f refl (cannot_take a b f c.in-Err.file_fault long_image c.in-Err.ensures.file_fault)

pub returns-clause-named_fault : goal.returns-clause-named_fault
returns-clause-named_fault g c =
    let a = g.F.Files.seen c.args.files.now in
    let b = g.F.Files.seen c.read_contents.new.files in
    let f = image_file c.args.name.now in
    let held = subst (λ (x : List ℕ). MayBe (g.F.Files.seen c.args.files.now).contents c.args.name.now x) (sym c.deref.ensures.value) c.in-Ok.ensures.held in
    c.fault_named-in-Err-image_in.ensures a b f refl (refused_in a b f c.deref.result.now c.in-Err-image_in.file_fault held c.in-Err-image_in.ensures.file_fault)
