use Rattle.std.proofs.Common.{◌≡◌, map}
use Rattle.app_toml.specs.Held.{app_of}
use Rattle.app_toml.specs.Sites.{task_of}
use Rattle.image_build.specs.Accepted.{described}
use Rattle.outside_io.specs.Seen.{OnlyReads}
use Rattle.command_files.proofs.Taking.{HasFirst}
use Rattle.command_files.proofs.building.take_sources.Given as goal

abbrev pub invariant-loop-task : goal.invariant-loop-task
invariant-loop-task g l = record {
  described : described l.builder ≡ app_of l.app;
  items : map task_of l.task-items ≡ (app_of l.app).tasks;
  first : HasFirst (g.F.Files.seen l.fn.files).contents (app_of l.app) l.builder l.lines l.task-index;
  wanted : l.lines.wanted ≡ l.fn.lines.wanted;
  reads : OnlyReads (g.F.Files.seen l.fn.files) (g.F.Files.seen l.files);
}
