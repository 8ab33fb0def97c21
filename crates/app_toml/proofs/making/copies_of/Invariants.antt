use Rattle.std.proofs.Common.{◌≡◌, ◌++◌, drop, map}
use Rattle.app_toml.proofs.making.copies_of.Given as goal

abbrev pub invariant-loop-item : goal.invariant-loop-item
invariant-loop-item g l = map g.T.Item.said l.copies.items ++ map g.T.Item.said (drop l.item-index l.items) ≡ map g.T.Item.said l.items
