use Rattle.std.proofs.Common.{string_bytes, refl, ap, map}
use Rattle.app_toml.specs.Sites.{task_of}
use Rattle.sample_gen.specs.Draws.{number}
use Rattle.sample_gen.specs.Sample.{client_priority, source_of, task_by}
use Rattle.sample_gen.proofs.Drawn.{one_more}
use Rattle.sample_gen.proofs.tasks.tasks_and_sources.Goals as goal

pub loop-i-init : goal.loop-i-init
unfolding number
loop-i-init c = (refl, ap (map task_of) c.new-tasks.ensures.items, ap (map string_bytes) c.new-sources.ensures.items)

pub loop-i-preserved : goal.loop-i-preserved
loop-i-preserved c =
    let seed = c.args.numbers.now.last in
    let i = c.loop-i.invariant in (
      c.in_ok-task.ensures.next seed i.0,
      one_more task_of (task_by (client_priority seed)) c.loop-i.tasks.items c.push.new.self.items c.in_ok-task.task c.loop-i.i i.1 (c.in_ok-task.ensures.task seed i.0) c.in_ok-push.ensures.items,
      one_more string_bytes (source_of seed) c.loop-i.sources.items c.push-in-loop-i.new.self.items c.in_ok-task.source c.loop-i.i i.2 (c.in_ok-task.ensures.source seed i.0) c.in_ok-push-2.ensures.items,
    )
