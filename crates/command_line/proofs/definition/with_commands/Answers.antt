use Rattle.std.proofs.Common.{◌<◌, ◌+◌, ◌∙◌, ap, drop, length}
use Rattle.command_line.specs.Table.{with_rows}
use Rattle.command_line.proofs.Adding.{command_added, row_added}
use Rattle.command_line.proofs.definition.with_commands.Goals as goal

pub loop-row-preserved : goal.loop-row-preserved
loop-row-preserved c =
    let i = c.loop-row.row-index in
    let rows = c.args.rows.now in
    let within : i < length rows = c.loop-row-test.true in
    let one = command_added c.in_ok-program.ensures c.in_ok-command.ensures.shape c.in_ok-command.ensures.local in
    ap (λ app. with_rows app (drop (i + 1) rows)) one ∙ row_added _ rows i _ within ∙ c.loop-row.invariant
