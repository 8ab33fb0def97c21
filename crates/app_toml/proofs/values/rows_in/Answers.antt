use Rattle.std.proofs.Common.{◌∙◌, ap, arith}
use Rattle.toml.specs.View.{items_view}
use Rattle.app_toml.specs.Values.{each_in}
use Rattle.app_toml.proofs.Gathered.{read_more}
use Rattle.app_toml.proofs.values.rows_in.Goals as goal

pub loop-value-preserved : goal.loop-value-preserved
loop-value-preserved g c =
    read_more g.T.Row.said g.T.Row.reading c.loop-value.rows.items c.push.new.self.items c.in_ok-in_table.field-0 c.args.values.now c.loop-value.value-index c.value-item.result
    (each_in g.T.Row.reading (items_view c.args.values.now)) (omega arith) c.value-item.is c.in_ok-push.ensures.items
    (c.in_ok-in_table.ensures ∙ ap g.T.Row.reading c.table_of.ensures) c.loop-value.invariant
