use Rattle.std.proofs.Common.{◌≡◌, ◌∙◌, ℕ, map, length, sym, subst, ap, arith, List}
use Rattle.std.specs.Prelude.{slice_get, Some}
use Rattle.std.proofs.lemmas.List.{length-map}
use Rattle.app_toml.specs.Apps.{TaskData}
use Rattle.app_toml.specs.Held.{app_of}
use Rattle.app_toml.specs.Sites.{task_of}
use Rattle.image_build.specs.Accepted.{described, next_task}
use Rattle.command_files.specs.Contents.{file_limit, source_refusal}
use Rattle.command_files.specs.Sources.{File}
use Rattle.command_files.specs.FileFaults.{IsNamedFaultOf}
use Rattle.command_files.specs.Building.{HasNext}
use Rattle.command_files.proofs.Taking.{each_accepted, get_mapped, faults_next, one_more}
use Rattle.outside_io.proofs.OnlyReading.{reads_more}
use Rattle.command_files.proofs.building.take_sources.Goals as goal

pub returns-in-Err-clause-named_fault : goal.returns-in-Err-clause-named_fault
returns-in-Err-clause-named_fault g c =
    let inv = c.loop-task.invariant in
    let k = c.loop-task.task-index in
    let t = task_of c.task-item.result in
    let at : slice_get (app_of c.args.app.now).tasks k ≡ Some t =
    subst (λ (ts : List TaskData). slice_get ts k ≡ Some t) inv.items (subst (λ x. slice_get (map task_of c.tasks-task-items.result.now) k ≡ Some (task_of x)) (sym c.task-item.is) (get_mapped task_of c.tasks-task-items.result.now k _ c.loop-task-test.true)) in
    let f : List ℕ → File = λ name. record { name = name; limit = file_limit; refusal = source_refusal (described c.loop-task.builder) (next_task c.loop-task.builder) } in
    let a = g.F.Files.seen c.args.files.now in
    let b = g.F.Files.seen c.loop-task.files in
    let e = g.F.Files.seen c.take_source.new.files in
    faults_next a b e (app_of c.args.app.now) c.loop-task.builder c.loop-task.lines k t c.in-Err.named_fault inv.first inv.reads.contents inv.reads.later inv.described at
    (subst (λ (n : List ℕ). IsNamedFaultOf b e (f n) c.in-Err.named_fault) c.deref.ensures c.in-Err.ensures.named_fault)

pub loop-task-preserved : goal.loop-task-preserved
loop-task-preserved g c =
    let inv = c.loop-task.invariant in
    let k = c.loop-task.task-index in
    let t = task_of c.task-item.result in
    let at : slice_get (app_of c.args.app.now).tasks k ≡ Some t =
    subst (λ (ts : List TaskData). slice_get ts k ≡ Some t) inv.items (subst (λ x. slice_get (map task_of c.tasks-task-items.result.now) k ≡ Some (task_of x)) (sym c.task-item.is) (get_mapped task_of c.tasks-task-items.result.now k _ c.loop-task-test.true)) in
    let one = c.in-Ok.ensures.accepted_sources inv.first.sources inv.first.accepted_sources in
    let next = subst (λ seen. HasNext seen t.source inv.first.sources c.loop-task.builder c.take_source.new.builder c.loop-task.lines c.take_source.new.lines) inv.reads.contents
    (subst (λ (n : List ℕ). HasNext (g.F.Files.seen c.loop-task.files).contents n inv.first.sources c.loop-task.builder c.take_source.new.builder c.loop-task.lines c.take_source.new.lines) c.deref.ensures one) in
    record {
      described = c.in-Ok.ensures.described ∙ inv.described;
      items = inv.items;
      first = one_more (g.F.Files.seen c.args.files.now).contents (app_of c.args.app.now) c.loop-task.builder c.take_source.new.builder c.loop-task.lines c.take_source.new.lines k t inv.first inv.described at next;
      reads = reads_more inv.reads c.in-Ok.ensures.only_reads;
      wanted = next.listed.wanted ∙ inv.wanted;
    }

pub returns-clause-accepted_sources : goal.returns-clause-accepted_sources
returns-clause-accepted_sources g c =
    let inv = c.loop-task.invariant in
    let count : length (map task_of c.tasks-task-items.result.now) ≡ length (app_of c.args.app.now).tasks = ap (λ (ts : List TaskData). length ts) inv.items in
    let k = c.loop-task.task-index in
    let all : k ≡ length (app_of c.args.app.now).tasks = omega (arith, c.loop-task-test.false, c.loop-task.auto.task-index-end, length-map c.tasks-task-items.result.now task_of, count) in
    each_accepted (g.F.Files.seen c.args.files.now).contents (app_of c.args.app.now) c.loop-task.builder c.loop-task.lines k all inv.first

pub returns-in-Err-clause-only_reads : goal.returns-in-Err-clause-only_reads
returns-in-Err-clause-only_reads g c = reads_more c.loop-task.invariant.reads c.in-Err.ensures.only_reads

pub returns-clause-only_reads : goal.returns-clause-only_reads
returns-clause-only_reads g c = c.loop-task.invariant.reads
