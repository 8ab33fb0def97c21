use Rattle.std.proofs.Common.{◌≡◌, List, map, ap, sym, ◌∙◌, arith}
use Rattle.std.specs.Prelude.{filter}
use Rattle.std.proofs.lemmas.List.{length-map}
use Rattle.task_table.specs.model.State.{LineSetup}
use Rattle.task_table.specs.model.Asking.{is_asked}
use Rattle.task_table.specs.kept.Parts.{line_setup}
use Rattle.task_table.specs.model.Rows.{owns_with}
use Rattle.timer_irq.specs.Midway.{lines_together, joined}
use Rattle.timer_irq.proofs.Lines.{take_whole}
use Rattle.timer_irq.proofs.Together.{more_owners}
use Rattle.timer_irq.proofs.asking.own_lines.Goals as goal

pub loop-i-preserved : goal.loop-i-preserved
loop-i-preserved c = λ g t h a.
    let owners = c.owners-owners.result.now in
    let are : c.args.asked.now ≡ map (is_asked t.state) (map line_setup owners) = a ∙ ap (map (is_asked t.state)) (sym (c.owners-owners.ensures.holds g t h)) in
    let before = c.loop-i.invariant g t h a in
    let line = rw c.is_asked.ensures at (c.own_line-line.ensures g t h) in
    c.both_lines-together.ensures ∙ (λ j. joined (before j) (line j)) ∙ more_owners t.state (owns_with c.args.caller c.args.bits) owners c.args.asked.now c.loop-i.i _ c.loop-i-test.true are

pub returns : goal.returns
returns c = λ g t h a.
    let owners = c.owners-owners.result.now in
    let long = length-map owners line_setup in
    let whole = take_whole (map line_setup owners) c.loop-i.i (omega (arith, long, c.loop-i-test.false)) in
    let own : List LineSetup → List LineSetup = filter (owns_with c.args.caller c.args.bits) in
    c.loop-i.invariant g t h a ∙ ap (λ ys. lines_together t.state (own ys)) (whole ∙ c.owners-owners.ensures.holds g t h)
