use Rattle.std.proofs.Common.{◌<◌, ◌∙◌, sym, ap, length}
use Rattle.std.proofs.lemmas.List.{drop_all}
use Rattle.command_line.specs.CommandLine.{named_in}
use Rattle.command_line.specs.Table.{commands_of}
use Rattle.command_line.proofs.Named.{met_row, passed_row}
use Rattle.command_line.proofs.commands.named_among.Goals as goal

pub returns-then-eq : goal.returns-then-eq
returns-then-eq c =
    let within : c.loop-row.row-index < length c.args.rows.now = c.loop-row-test.true in
    sym (met_row c.args.rows.now _ _ c.args.word.now within (sym c.eq.ensures ∙ c.if-eq.true)) ∙ c.loop-row.invariant

pub loop-row-preserved : goal.loop-row-preserved
loop-row-preserved c =
    let within : c.loop-row.row-index < length c.args.rows.now = c.loop-row-test.true in
    passed_row c.args.rows.now _ _ c.args.word.now within (sym c.eq.ensures ∙ c.if-eq.false) ∙ c.loop-row.invariant

pub returns : goal.returns
returns c =
    ap (λ rows. named_in (commands_of rows) c.args.word.now) (sym (drop_all c.loop-row.row-index c.args.rows.now c.loop-row-test.false))
    ∙ c.loop-row.invariant
