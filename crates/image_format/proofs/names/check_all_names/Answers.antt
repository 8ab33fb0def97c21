use Rattle.std.proofs.Common.{◌∙◌, length, arith, ap}
use Rattle.image_format.proofs.Named.{names_short, tasks_go_on}
use Rattle.image_format.proofs.names.check_all_names.Goals as goal

pub loop-i-preserved : goal.loop-i-preserved
loop-i-preserved c =
    let rest = c.loop-i.rest.now in
    let more = c.skip_names-rest.result.now in
    record {
      fault = c.loop-i.invariant.fault ∙ tasks_go_on _ c.loop-i.i c.from-n.result c.args.tasks.now rest more c.check_task_names-found.result c.loop-i-test.true c.from-n.ensures c.check_task_names-found.ensures c.if-is_some.ensures c.skip_names-rest.ensures;
      short = omega (arith, names_short c.from-n.result rest, ap length c.skip_names-rest.ensures, c.loop-i.invariant.short);
    }
