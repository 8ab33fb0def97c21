use Rattle.std.proofs.Common.{ℕ, List, refl, sym, subst}
use Rattle.command_files.specs.Sources.{script_file, MayBe}
use Rattle.command_files.proofs.Faulting.{cannot_take, refused_in, long_script}
use Rattle.command_files.proofs.preparing.read_script.Goals as goal

pub returns-in-Err-clause-named_fault : goal.returns-in-Err-clause-named_fault
returns-in-Err-clause-named_fault g c =
    let a = g.F.Files.seen c.args.files.now in
    let b = g.F.Files.seen c.read_contents.new.files in
    let f = script_file c.args.name.now in
    c.fault_named.ensures a b f refl (cannot_take a b f c.in-Err.file_fault long_script c.in-Err.ensures.file_fault)

pub returns-clause-named_fault : goal.returns-clause-named_fault
returns-clause-named_fault g c =
    let a = g.F.Files.seen c.args.files.now in
    let b = g.F.Files.seen c.read_contents.new.files in
    let f = script_file c.args.name.now in
    let held = subst (λ (x : List ℕ). MayBe (g.F.Files.seen c.args.files.now).contents c.args.name.now x) (sym c.deref.ensures.value) c.in-Ok.ensures.held in
    c.fault_named-in-Err-script_in.ensures a b f refl (refused_in a b f c.deref.result.now c.in-Err-script_in.file_fault held c.in-Err-script_in.ensures.file_fault)
