-- What a job of the code asks for: a struct of each command of three words or more, and the job of any command.
use Rattle.std.specs.Prelude.{ℕ, max, option_map}
use Rattle.command_line.specs.CommandLine.{Asked, build, run, go, list, sample, migrate, audit, save, resume, debug, cover, sweep, timeline, live, picture, lcov, help}
use Rattle.command_line.specs.declared.job.Job.{Job}
use Rattle.command_line.specs.declared.job.Job.TheVariants as job
use Rattle.command_line.specs.declared.job.RunJob.{RunJob}
use Rattle.command_line.specs.declared.job.GoJob.{GoJob}
use Rattle.command_line.specs.declared.job.SaveJob.{SaveJob}
use Rattle.command_line.specs.declared.job.ResumeJob.{ResumeJob}
use Rattle.command_line.specs.declared.job.DebugJob.{DebugJob}
use Rattle.command_line.specs.declared.job.CoverJob.{CoverJob}
use Rattle.command_line.specs.declared.job.TimelineJob.{TimelineJob}
use Rattle.command_line.specs.declared.job.SweepJob.{SweepJob}
use Rattle.command_line.specs.declared.job.LiveJob.{LiveJob}
use Rattle.command_line.specs.declared.job.PictureJob.{PictureJob}
use Rattle.command_line.specs.declared.job.LcovJob.{LcovJob}

-- what the job of one command asks for
abbrev pub asked_run : RunJob → Asked
asked_run j = run j.image.now j.script.now j.steps j.detail

abbrev pub asked_go : GoJob → Asked
asked_go j = go j.app.now j.script.now j.steps j.detail

abbrev pub asked_save : SaveJob → Asked
asked_save j = save j.image.now j.script.now j.out.now j.steps

abbrev pub asked_resume : ResumeJob → Asked
asked_resume j = resume j.image.now j.script.now j.state.now j.steps j.detail

abbrev pub asked_debug : DebugJob → Asked
asked_debug j = debug j.image.now j.script.now j.commands.now

abbrev pub asked_cover : CoverJob → Asked
asked_cover j = cover j.image.now j.script.now j.steps j.labels

abbrev pub asked_timeline : TimelineJob → Asked
asked_timeline j = timeline j.image.now j.script.now j.steps (option_map (λ name. name.now) j.names)

abbrev pub asked_sweep : SweepJob → Asked
asked_sweep j = sweep j.image.now j.script.now j.arrival.now j.from j.to j.steps j.memory

abbrev pub asked_live : LiveJob → Asked
asked_live j = live j.image.now j.script.now j.commands.now

abbrev pub asked_picture : PictureJob → Asked
asked_picture j = picture j.image.now j.script.now j.out.now j.steps (option_map (λ name. name.now) j.names)

abbrev pub asked_lcov : LcovJob → Asked
asked_lcov j = lcov j.app.now j.script.now j.out.now j.steps

-- what a job of any command asks for
abbrev pub asked : Job → Asked
asked (job.Build app out) = build app.now out.now
asked (job.Run j) = asked_run j
asked (job.Go j) = asked_go j
asked (job.List image) = list image.now
asked (job.Sample seed steps) = sample seed steps
asked (job.Migrate image out) = migrate image.now out.now
asked (job.Audit trace) = audit trace.now
asked (job.Save j) = asked_save j
asked (job.Resume j) = asked_resume j
asked (job.Debug j) = asked_debug j
asked (job.Cover j) = asked_cover j
asked (job.Timeline j) = asked_timeline j
asked (job.Sweep j) = asked_sweep j
asked (job.Live j) = asked_live j
asked (job.Picture j) = asked_picture j
asked (job.Lcov j) = asked_lcov j
asked (job.Help about) = help about

-- how many turns it may take, or the greatest number of turns that it names
abbrev pub steps_of : Job → ℕ
steps_of (job.Build app out) = 0
steps_of (job.Run j) = j.steps
steps_of (job.Go j) = j.steps
steps_of (job.List image) = 0
steps_of (job.Sample seed steps) = steps
steps_of (job.Migrate image out) = 0
steps_of (job.Audit trace) = 0
steps_of (job.Save j) = j.steps
steps_of (job.Resume j) = j.steps
steps_of (job.Debug j) = 0
steps_of (job.Cover j) = j.steps
steps_of (job.Timeline j) = j.steps
steps_of (job.Sweep j) = max (max j.from j.to) j.steps
steps_of (job.Live j) = 0
steps_of (job.Picture j) = j.steps
steps_of (job.Lcov j) = j.steps
steps_of (job.Help about) = 0
