use Rattle.std.proofs.Common.{◌∙◌, ◌≤◌, ℕ, List, length, refl, sym, subst}
use Rattle.app_toml.specs.Held.{app_of}
use Rattle.image_format.specs.Images.{image_data}
use Rattle.command_files.specs.Contents.{file_limit}
use Rattle.command_files.specs.Sources.{app_file, MayBe}
use Rattle.command_files.specs.FileFaults.{IsFaultFor}
use Rattle.command_files.specs.Building.{IsImageOf}
use Rattle.command_files.proofs.Refusals.{app_by_room, app_faulty}
use Rattle.command_files.proofs.Faulting.{cannot_take, refused_in, long_app}
use Rattle.command_files.proofs.Taking.{image_of_files, faults_at_app, faults_later}
use Rattle.outside_io.proofs.OnlyReading.{reads_more}
use Rattle.command_files.proofs.building.built_app.Goals as goal

pub returns-in-Err-clause-named_fault : goal.returns-in-Err-clause-named_fault
returns-in-Err-clause-named_fault g c =
    let a = g.F.Files.seen c.args.files.now in
    let b = g.F.Files.seen c.read_contents.new.files in
    let f = app_file c.args.name.now in
    faults_at_app a b c.args.name.now c.fault_named.result (c.fault_named.ensures a b f refl (cannot_take a b f c.in-Err.file_fault long_app c.in-Err.ensures.file_fault))

pub returns-in-Err-app_in-clause-named_fault : goal.returns-in-Err-app_in-clause-named_fault
returns-in-Err-app_in-clause-named_fault g c =
    let a = g.F.Files.seen c.args.files.now in
    let b = g.F.Files.seen c.read_contents.new.files in
    let f = app_file c.args.name.now in
    let held = subst (λ (x : List ℕ). MayBe (g.F.Files.seen c.args.files.now).contents c.args.name.now x) (sym c.deref.ensures.value) c.in-Ok.ensures.held in
    let few = subst (λ (x : List ℕ). length x ≤ file_limit) (sym c.deref.ensures.value) c.in-Ok.ensures.few in
    faults_at_app a b c.args.name.now c.fault_named-in-Err-app_in.result (c.fault_named-in-Err-app_in.ensures a b f refl
    (refused_in a b f c.deref.result.now c.in-Err-app_in.file_fault held (app_faulty c.deref.result.now c.in-Err-app_in.file_fault few c.in-Err-app_in.ensures.file_fault)))

pub returns-in-Err-opened-clause-named_fault : goal.returns-in-Err-opened-clause-named_fault
returns-in-Err-opened-clause-named_fault g c =
    let a = g.F.Files.seen c.args.files.now in
    let b = g.F.Files.seen c.read_contents.new.files in
    let f = app_file c.args.name.now in
    let held = subst (λ (x : List ℕ). MayBe (g.F.Files.seen c.args.files.now).contents c.args.name.now x) (sym c.deref.ensures.value) c.in-Ok.ensures.held in
    let few = subst (λ (x : List ℕ). length x ≤ file_limit) (sym c.deref.ensures.value) c.in-Ok.ensures.few in
    let app = app_of c.in-Ok-app_in.app in
    let stops = subst (λ r. IsFaultFor r c.in-Err-opened.file_fault) (sym (app_by_room c.deref.result.now app few c.in-Ok-app_in.ensures.app)) c.in-Err-opened.ensures.file_fault in
    faults_at_app a b c.args.name.now c.fault_named-in-Err-opened.result (c.fault_named-in-Err-opened.ensures a b f refl
    (refused_in a b f c.deref.result.now c.in-Err-opened.file_fault held stops))

pub returns-in-Ok-image_of-clause-built : goal.returns-in-Ok-image_of-clause-built
returns-in-Ok-image_of-clause-built g c =
    let held = subst (λ (x : List ℕ). MayBe (g.F.Files.seen c.args.files.now).contents c.args.name.now x) (sym c.deref.ensures.value) c.in-Ok.ensures.held in
    let few = subst (λ (x : List ℕ). length x ≤ file_limit) (sym c.deref.ensures.value) c.in-Ok.ensures.few in
    let app = app_of c.in-Ok-app_in.app in
    let seen = (g.F.Files.seen c.args.files.now).contents in
    let lines = c.image_of.new.lines in
    image_of_files seen c.args.name.now c.deref.result.now app (image_data c.in-Ok-image_of.image) lines c.args.wanted few c.in-Ok-app_in.ensures.app c.in-Ok-opened.ensures.room held
    (c.in-Ok-image_of.ensures.wanted ∙ c.none-lines.ensures.wanted) (subst (λ t. IsImageOf t app (image_data c.in-Ok-image_of.image) lines) c.in-Ok.ensures.only_reads.contents c.in-Ok-image_of.ensures.image)

pub returns-clause-named_fault : goal.returns-clause-named_fault
returns-clause-named_fault g c =
    let a = g.F.Files.seen c.args.files.now in
    let b = g.F.Files.seen c.read_contents.new.files in
    let e = g.F.Files.seen c.image_of.new.files in
    let held = subst (λ (x : List ℕ). MayBe (g.F.Files.seen c.args.files.now).contents c.args.name.now x) (sym c.deref.ensures.value) c.in-Ok.ensures.held in
    let few = subst (λ (x : List ℕ). length x ≤ file_limit) (sym c.deref.ensures.value) c.in-Ok.ensures.few in
    let app = app_of c.in-Ok-app_in.app in
    faults_later a b e c.args.name.now c.deref.result.now app c.in-Err-image_of.named_fault few c.in-Ok-app_in.ensures.app c.in-Ok-opened.ensures.room held
    c.in-Ok.ensures.only_reads.contents c.in-Ok.ensures.only_reads.later c.in-Err-image_of.ensures.named_fault

pub returns-in-Ok-image_of-clause-only_reads : goal.returns-in-Ok-image_of-clause-only_reads
returns-in-Ok-image_of-clause-only_reads g c = reads_more c.in-Ok.ensures.only_reads c.image_of.ensures.only_reads

pub returns-clause-only_reads : goal.returns-clause-only_reads
returns-clause-only_reads g c = reads_more c.in-Ok.ensures.only_reads c.image_of.ensures.only_reads
