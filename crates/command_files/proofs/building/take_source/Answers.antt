use Rattle.std.proofs.Common.{refl, sym, subst, List, ℕ}
use Rattle.image_build.specs.Accepted.{described, next_task}
use Rattle.command_files.specs.Contents.{file_limit, source_refusal}
use Rattle.command_files.specs.Sources.{File, MayBe}
use Rattle.command_files.proofs.Faulting.{cannot_take, refused_in, long_source}
use Rattle.command_files.proofs.building.take_source.Goals as goal

pub returns-in-Err-clause-named_fault : goal.returns-in-Err-clause-named_fault
returns-in-Err-clause-named_fault g c =
    let app = described c.args.builder.now in
    let i = next_task c.args.builder.now in
    let f : File = record { name = c.args.name.now; limit = file_limit; refusal = source_refusal app i } in
    c.fault_named.ensures _ _ f refl (cannot_take _ _ f c.in-Err.file_fault (long_source app i) c.in-Err.ensures.file_fault)

pub returns-in-Err-take_bytes-clause-named_fault : goal.returns-in-Err-take_bytes-clause-named_fault
returns-in-Err-take_bytes-clause-named_fault g c =
    let f : File = record { name = c.args.name.now; limit = file_limit; refusal = source_refusal (described c.args.builder.now) (next_task c.args.builder.now) } in
    let held = subst (λ (b : List ℕ). MayBe (g.F.Files.seen c.args.files.now).contents c.args.name.now b) (sym c.deref.ensures.value) c.in-Ok.ensures.held in
    c.fault_named-in-Err-take_bytes.ensures _ _ f refl (refused_in _ _ f c.deref.result.now c.in-Err-take_bytes.file_fault held c.in-Err-take_bytes.ensures.file_fault)
