use Rattle.std.proofs.Common.{arith}
use Rattle.app_toml.proofs.Gathered.{pushed_more}
use Rattle.app_toml.proofs.making.copies_of.Goals as goal

pub loop-item-preserved : goal.loop-item-preserved
loop-item-preserved g c =
    pushed_more g.T.Item.said g.T.Item.said c.loop-item.copies.items c.push.new.self.items c.in_ok-copied.field-0 c.args.items.now c.loop-item.item-index c.item-item.result
    (omega arith) c.item-item.is c.in_ok-push.ensures.items (c.in_ok-copied.ensures) c.loop-item.invariant
