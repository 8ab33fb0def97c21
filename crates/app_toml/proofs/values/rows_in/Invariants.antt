use Rattle.std.proofs.Common.{◌≡◌, ◌++◌, drop, map}
use Rattle.toml.specs.View.{items_view}
use Rattle.app_toml.specs.Values.{each_in}
use Rattle.app_toml.proofs.values.rows_in.Given as goal

abbrev pub invariant-loop-value : goal.invariant-loop-value
invariant-loop-value g l =
    map g.T.Row.said l.rows.items ++ each_in g.T.Row.reading (items_view (drop l.value-index l.values)) ≡ each_in g.T.Row.reading (items_view l.values)
