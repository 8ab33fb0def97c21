use Rattle.std.proofs.Common.{◌≤◌, refl, max, arith}
use Rattle.std.proofs.Math.Nat.{le-max_left, le-max_right}
use Rattle.trace_cli.specs.Words.{texts_of}
use Rattle.trace_cli.proofs.Deciding.{no_job_of}
use Rattle.trace_cli.proofs.EachState.{each_of_words}
use Rattle.trace_cli.proofs.Statuses.{answers_usage, by_job}
use Rattle.trace_cli.proofs.Readying.{answers_below}
use Rattle.trace_cli.proofs.program.answer.Goals as goal

pub returns-in-Ok-Build-clause-answer : goal.returns-in-Ok-Build-clause-answer
returns-in-Ok-Build-clause-answer g c =
    let job = rw c.in-Ok-Build.field-0-is at c.in-Ok-Build.ensures.job in
    by_job _ _ _ _ _ _ _ c.in-Ok-Build.ensures.accepted job (answers_below c.build_file.ensures.answer _ (λ first. refl) (λ contents v done. done) (λ v. tt))

pub returns-in-Ok-Run-clause-answer : goal.returns-in-Ok-Run-clause-answer
returns-in-Ok-Run-clause-answer g c =
    let job = rw c.in-Ok-Run.field-0-is at c.in-Ok-Run.ensures.job in
    by_job _ _ _ _ _ _ _ c.in-Ok-Run.ensures.accepted job c.run_files.ensures.answer

pub returns-in-Ok-Go-clause-answer : goal.returns-in-Ok-Go-clause-answer
returns-in-Ok-Go-clause-answer g c =
    let job = rw c.in-Ok-Go.field-0-is at c.in-Ok-Go.ensures.job in
    by_job _ _ _ _ _ _ _ c.in-Ok-Go.ensures.accepted job c.go_files.ensures.answer

pub returns-in-Ok-List-clause-answer : goal.returns-in-Ok-List-clause-answer
returns-in-Ok-List-clause-answer g c =
    let job = rw c.in-Ok-List.field-0-is at c.in-Ok-List.ensures.job in
    by_job _ _ _ _ _ _ _ c.in-Ok-List.ensures.accepted job (answers_below c.list_file.ensures.answer _ (λ first. refl) (λ contents v done. done) (λ v. tt))

pub returns-in-Ok-Sample-clause-answer : goal.returns-in-Ok-Sample-clause-answer
returns-in-Ok-Sample-clause-answer g c =
    let job = rw c.in-Ok-Sample.field-0-is at c.in-Ok-Sample.ensures.job in
    by_job _ _ _ _ _ _ _ c.in-Ok-Sample.ensures.accepted job (answers_below (c.run_sample.ensures (g.F.Files.seen c.args.files.now) (g.F.Files.seen c.args.files.now) refl) _ (λ first. refl) (λ contents v done. done) (λ v. tt))

pub returns-in-Ok-Migrate-clause-answer : goal.returns-in-Ok-Migrate-clause-answer
returns-in-Ok-Migrate-clause-answer g c =
    let job = rw c.in-Ok-Migrate.field-0-is at c.in-Ok-Migrate.ensures.job in
    by_job _ _ _ _ _ _ _ c.in-Ok-Migrate.ensures.accepted job (answers_below c.migrate_file.ensures.answer _ (λ first. refl) (λ contents v done. done) (λ v. tt))

pub returns-in-Ok-Audit-clause-answer : goal.returns-in-Ok-Audit-clause-answer
returns-in-Ok-Audit-clause-answer g c =
    let job = rw c.in-Ok-Audit.field-0-is at c.in-Ok-Audit.ensures.job in
    by_job _ _ _ _ _ _ _ c.in-Ok-Audit.ensures.accepted job (answers_below c.audit_file.ensures.answer _ (λ first. refl) (λ contents v done. done) (λ v. tt))

pub returns-in-Ok-Save-clause-answer : goal.returns-in-Ok-Save-clause-answer
returns-in-Ok-Save-clause-answer g c =
    let job = rw c.in-Ok-Save.field-0-is at c.in-Ok-Save.ensures.job in
    by_job _ _ _ _ _ _ _ c.in-Ok-Save.ensures.accepted job (answers_below c.save_file.ensures.answer _ (λ first. refl) (λ contents v done. done) (λ v. tt))

pub returns-in-Ok-Resume-clause-answer : goal.returns-in-Ok-Resume-clause-answer
returns-in-Ok-Resume-clause-answer g c =
    let job = rw c.in-Ok-Resume.field-0-is at c.in-Ok-Resume.ensures.job in
    by_job _ _ _ _ _ _ _ c.in-Ok-Resume.ensures.accepted job (answers_below c.resume_files.ensures.answer _ (λ first. refl) (λ contents v done. done) (λ v. tt))

pub returns-in-Ok-Resume-clause-each : goal.returns-in-Ok-Resume-clause-each
returns-in-Ok-Resume-clause-each g c =
    let job = rw c.in-Ok-Resume.field-0-is at c.in-Ok-Resume.ensures.job in
    each_of_words _ (texts_of c.args.words.now) _ _ _ _ _ _ c.in-Ok-Resume.ensures.accepted job c.resume_files.ensures.each

pub returns-in-Ok-Debug-clause-answer : goal.returns-in-Ok-Debug-clause-answer
returns-in-Ok-Debug-clause-answer g c =
    let job = rw c.in-Ok-Debug.field-0-is at c.in-Ok-Debug.ensures.job in
    by_job _ _ _ _ _ _ _ c.in-Ok-Debug.ensures.accepted job c.debug_files.ensures.answer

pub returns-in-Ok-Debug-clause-each : goal.returns-in-Ok-Debug-clause-each
returns-in-Ok-Debug-clause-each g c =
    let job = rw c.in-Ok-Debug.field-0-is at c.in-Ok-Debug.ensures.job in
    each_of_words _ (texts_of c.args.words.now) _ _ _ _ _ _ c.in-Ok-Debug.ensures.accepted job tt

pub returns-in-Ok-Cover-clause-answer : goal.returns-in-Ok-Cover-clause-answer
returns-in-Ok-Cover-clause-answer g c =
    let job = rw c.in-Ok-Cover.field-0-is at c.in-Ok-Cover.ensures.job in
    by_job _ _ _ _ _ _ _ c.in-Ok-Cover.ensures.accepted job c.cover_files.ensures.answer

pub returns-in-Ok-Timeline-clause-answer : goal.returns-in-Ok-Timeline-clause-answer
returns-in-Ok-Timeline-clause-answer g c =
    let job = rw c.in-Ok-Timeline.field-0-is at c.in-Ok-Timeline.ensures.job in
    by_job _ _ _ _ _ _ _ c.in-Ok-Timeline.ensures.accepted job c.timeline_files.ensures.answer

pub returns-in-Ok-Cover-clause-each : goal.returns-in-Ok-Cover-clause-each
returns-in-Ok-Cover-clause-each g c =
    let job = rw c.in-Ok-Cover.field-0-is at c.in-Ok-Cover.ensures.job in
    each_of_words _ (texts_of c.args.words.now) _ _ _ _ _ _ c.in-Ok-Cover.ensures.accepted job tt

pub returns-in-Ok-Timeline-clause-each : goal.returns-in-Ok-Timeline-clause-each
returns-in-Ok-Timeline-clause-each g c =
    let job = rw c.in-Ok-Timeline.field-0-is at c.in-Ok-Timeline.ensures.job in
    each_of_words _ (texts_of c.args.words.now) _ _ _ _ _ _ c.in-Ok-Timeline.ensures.accepted job tt

pub returns-in-Ok-Sweep-clause-answer : goal.returns-in-Ok-Sweep-clause-answer
returns-in-Ok-Sweep-clause-answer g c =
    let job = rw c.in-Ok-Sweep.field-0-is at c.in-Ok-Sweep.ensures.job in
    by_job _ _ _ _ _ _ _ c.in-Ok-Sweep.ensures.accepted job c.sweep_files.ensures.answer

pub returns-in-Ok-Sweep-clause-each : goal.returns-in-Ok-Sweep-clause-each
returns-in-Ok-Sweep-clause-each g c =
    let job = rw c.in-Ok-Sweep.field-0-is at c.in-Ok-Sweep.ensures.job in
    each_of_words _ (texts_of c.args.words.now) _ _ _ _ _ _ c.in-Ok-Sweep.ensures.accepted job tt

pub returns-in-Ok-Live-clause-answer : goal.returns-in-Ok-Live-clause-answer
returns-in-Ok-Live-clause-answer g c =
    let job = rw c.in-Ok-Live.field-0-is at c.in-Ok-Live.ensures.job in
    by_job _ _ _ _ _ _ _ c.in-Ok-Live.ensures.accepted job c.live_files.ensures.answer

pub returns-in-Ok-Live-clause-each : goal.returns-in-Ok-Live-clause-each
returns-in-Ok-Live-clause-each g c =
    let job = rw c.in-Ok-Live.field-0-is at c.in-Ok-Live.ensures.job in
    each_of_words _ (texts_of c.args.words.now) _ _ _ _ _ _ c.in-Ok-Live.ensures.accepted job tt

pub returns-in-Ok-Help-clause-answer : goal.returns-in-Ok-Help-clause-answer
returns-in-Ok-Help-clause-answer g c =
    let job = rw c.in-Ok-Help.field-0-is at c.in-Ok-Help.ensures.job in
    by_job _ _ _ _ _ _ _ c.in-Ok-Help.ensures.accepted job (answers_below (c.help.ensures (g.F.Files.seen c.args.files.now) (g.F.Files.seen c.args.files.now) refl) _ (λ first. refl) (λ contents v done. done) (λ v. tt))

pub returns-in-Ok-Help-clause-each : goal.returns-in-Ok-Help-clause-each
returns-in-Ok-Help-clause-each g c =
    let job = rw c.in-Ok-Help.field-0-is at c.in-Ok-Help.ensures.job in
    each_of_words _ (texts_of c.args.words.now) _ _ _ _ _ _ c.in-Ok-Help.ensures.accepted job tt

pub returns-in-Ok-Build-clause-each : goal.returns-in-Ok-Build-clause-each
returns-in-Ok-Build-clause-each g c =
    let job = rw c.in-Ok-Build.field-0-is at c.in-Ok-Build.ensures.job in
    each_of_words _ (texts_of c.args.words.now) _ _ _ _ _ _ c.in-Ok-Build.ensures.accepted job tt

pub returns-in-Ok-Run-clause-each : goal.returns-in-Ok-Run-clause-each
returns-in-Ok-Run-clause-each g c =
    let job = rw c.in-Ok-Run.field-0-is at c.in-Ok-Run.ensures.job in
    each_of_words _ (texts_of c.args.words.now) _ _ _ _ _ _ c.in-Ok-Run.ensures.accepted job tt

pub returns-in-Ok-Go-clause-each : goal.returns-in-Ok-Go-clause-each
returns-in-Ok-Go-clause-each g c =
    let job = rw c.in-Ok-Go.field-0-is at c.in-Ok-Go.ensures.job in
    each_of_words _ (texts_of c.args.words.now) _ _ _ _ _ _ c.in-Ok-Go.ensures.accepted job tt

pub returns-in-Ok-List-clause-each : goal.returns-in-Ok-List-clause-each
returns-in-Ok-List-clause-each g c =
    let job = rw c.in-Ok-List.field-0-is at c.in-Ok-List.ensures.job in
    each_of_words _ (texts_of c.args.words.now) _ _ _ _ _ _ c.in-Ok-List.ensures.accepted job tt

pub returns-in-Ok-Sample-clause-each : goal.returns-in-Ok-Sample-clause-each
returns-in-Ok-Sample-clause-each g c =
    let job = rw c.in-Ok-Sample.field-0-is at c.in-Ok-Sample.ensures.job in
    each_of_words _ (texts_of c.args.words.now) _ _ _ _ _ _ c.in-Ok-Sample.ensures.accepted job tt

pub returns-in-Ok-Migrate-clause-each : goal.returns-in-Ok-Migrate-clause-each
returns-in-Ok-Migrate-clause-each g c =
    let job = rw c.in-Ok-Migrate.field-0-is at c.in-Ok-Migrate.ensures.job in
    each_of_words _ (texts_of c.args.words.now) _ _ _ _ _ _ c.in-Ok-Migrate.ensures.accepted job tt

pub returns-in-Ok-Audit-clause-each : goal.returns-in-Ok-Audit-clause-each
returns-in-Ok-Audit-clause-each g c =
    let job = rw c.in-Ok-Audit.field-0-is at c.in-Ok-Audit.ensures.job in
    each_of_words _ (texts_of c.args.words.now) _ _ _ _ _ _ c.in-Ok-Audit.ensures.accepted job tt

pub returns-in-Ok-Save-clause-each : goal.returns-in-Ok-Save-clause-each
returns-in-Ok-Save-clause-each g c =
    let job = rw c.in-Ok-Save.field-0-is at c.in-Ok-Save.ensures.job in
    each_of_words _ (texts_of c.args.words.now) _ _ _ _ _ _ c.in-Ok-Save.ensures.accepted job tt

pub returns-in-Err-NotAccepted-clause-each : goal.returns-in-Err-NotAccepted-clause-each
returns-in-Err-NotAccepted-clause-each g c = λ job at. absurd (no_job_of (texts_of c.args.words.now) job (c.in-Err-NotAccepted.ensures.refused c.in-Err-NotAccepted.field-0-is) at)

pub save_file-requires : goal.save_file-requires
save_file-requires g c = record { fresh = c.requires.fresh; few = rw c.in-Ok-Save.field-0-is at c.in-Ok-Save.ensures.few }

pub resume_files-requires : goal.resume_files-requires
resume_files-requires g c = record { fresh = c.requires.fresh; few = rw c.in-Ok-Resume.field-0-is at c.in-Ok-Resume.ensures.few }

pub cover_files-requires : goal.cover_files-requires
cover_files-requires g c = record { fresh = c.requires.fresh; few = rw c.in-Ok-Cover.field-0-is at c.in-Ok-Cover.ensures.few }

pub timeline_files-requires : goal.timeline_files-requires
timeline_files-requires g c = record { fresh = c.requires.fresh; few = rw c.in-Ok-Timeline.field-0-is at c.in-Ok-Timeline.ensures.few }

pub sweep_files-requires : goal.sweep_files-requires
sweep_files-requires g c =
    let most : max (max c.in-Ok-Sweep.job.from c.in-Ok-Sweep.job.to) c.in-Ok-Sweep.job.steps ≤ 1000000000 = rw c.in-Ok-Sweep.field-0-is at c.in-Ok-Sweep.ensures.few in
    let range = le-max_left (max c.in-Ok-Sweep.job.from c.in-Ok-Sweep.job.to) c.in-Ok-Sweep.job.steps in
    let to = le-max_right c.in-Ok-Sweep.job.from c.in-Ok-Sweep.job.to in
    let steps = le-max_right (max c.in-Ok-Sweep.job.from c.in-Ok-Sweep.job.to) c.in-Ok-Sweep.job.steps in
    record { fresh = c.requires.fresh; range = omega (arith, most, range, to); few = omega (arith, most, steps) }

pub run_sample-requires : goal.run_sample-requires
run_sample-requires g c = record { few = rw c.in-Ok-Sample.field-0-is at c.in-Ok-Sample.ensures.few }

pub run_files-requires : goal.run_files-requires
run_files-requires g c = record { fresh = c.requires.fresh; few = rw c.in-Ok-Run.field-0-is at c.in-Ok-Run.ensures.few }

pub go_files-requires : goal.go_files-requires
go_files-requires g c = record { fresh = c.requires.fresh; few = rw c.in-Ok-Go.field-0-is at c.in-Ok-Go.ensures.few }

pub returns-in-Err-NotAccepted-clause-answer : goal.returns-in-Err-NotAccepted-clause-answer
returns-in-Err-NotAccepted-clause-answer g c = answers_usage _ _ _ _ _ (c.in-Err-NotAccepted.ensures.refused c.in-Err-NotAccepted.field-0-is) c.tell_usage.ensures

pub returns-in-Ok-Picture-clause-answer : goal.returns-in-Ok-Picture-clause-answer
returns-in-Ok-Picture-clause-answer g c =
    let job = rw c.in-Ok-Picture.field-0-is at c.in-Ok-Picture.ensures.job in
    by_job _ _ _ _ _ _ _ c.in-Ok-Picture.ensures.accepted job c.picture_files.ensures.answer

pub returns-in-Ok-Picture-clause-each : goal.returns-in-Ok-Picture-clause-each
returns-in-Ok-Picture-clause-each g c =
    let job = rw c.in-Ok-Picture.field-0-is at c.in-Ok-Picture.ensures.job in
    each_of_words _ (texts_of c.args.words.now) _ _ _ _ _ _ c.in-Ok-Picture.ensures.accepted job tt

pub picture_files-requires : goal.picture_files-requires
picture_files-requires g c = record { fresh = c.requires.fresh; few = rw c.in-Ok-Picture.field-0-is at c.in-Ok-Picture.ensures.few }

pub returns-in-Ok-Lcov-clause-answer : goal.returns-in-Ok-Lcov-clause-answer
returns-in-Ok-Lcov-clause-answer g c =
    let job = rw c.in-Ok-Lcov.field-0-is at c.in-Ok-Lcov.ensures.job in
    by_job _ _ _ _ _ _ _ c.in-Ok-Lcov.ensures.accepted job c.lcov_files.ensures.answer

pub returns-in-Ok-Lcov-clause-each : goal.returns-in-Ok-Lcov-clause-each
returns-in-Ok-Lcov-clause-each g c =
    let job = rw c.in-Ok-Lcov.field-0-is at c.in-Ok-Lcov.ensures.job in
    each_of_words _ (texts_of c.args.words.now) _ _ _ _ _ _ c.in-Ok-Lcov.ensures.accepted job tt

pub lcov_files-requires : goal.lcov_files-requires
lcov_files-requires g c = record { fresh = c.requires.fresh; few = rw c.in-Ok-Lcov.field-0-is at c.in-Ok-Lcov.ensures.few }
