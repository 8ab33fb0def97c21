use Rattle.task_table.proofs.kept.Searches.{place_found, place_between}
use Rattle.task_table.proofs.order.place_of.Goals as goal

pub returns-in-Ok : goal.returns-in-Ok
returns-in-Ok c = λ ps places h. place_found ps c.args.keys.now places c.args.key c.in-Ok.place h c.in-Ok.ensures.bound (c.in-Ok.ensures.ok 0)

pub returns-in-Err : goal.returns-in-Err
returns-in-Err c = λ ps places h. place_between ps c.args.keys.now places c.args.key c.in-Err.place h c.in-Err.ensures.bound c.in-Err.ensures.position
