use Rattle.std.proofs.Common.{sym, ◌∙◌, ap, eqb}
use Rattle.std.specs.Prelude.{find}
use Rattle.std.specs.Option.{option_map}
use Rattle.std.proofs.lemmas.Bool.{eq-eqb, ne_eqb}
use Rattle.task_table.specs.declared.start.LineStart.{LineStart}
use Rattle.task_table.specs.model.State.{LineSetup}
use Rattle.task_table.specs.kept.Parts.{line_setup}
use Rattle.task_table.specs.model.Events.{owner_of}
use Rattle.timer_irq.proofs.Lines.{find_mapped, find_at, find_more, find_whole}
use Rattle.timer_irq.proofs.owners.owner_of.Goals as goal

pub loop-owner-preserved : goal.loop-owner-preserved
loop-owner-preserved c =
    let p = λ (o : LineStart). eqb o.line c.args.line in
    find_more p c.owners-owner-items.result.now c.loop-owner.owner-index _ c.loop-owner.invariant (ne_eqb _ _ c.if-owner-line.false)

pub returns-then-owner-line : goal.returns-then-owner-line
unfolding owner_of
returns-then-owner-line c = λ g t h.
    let owners = c.owners-owner-items.result.now in
    let p = λ (o : LineStart). eqb o.line c.args.line in
    let found = find_at p owners c.loop-owner.owner-index _ c.loop-owner-test.true c.loop-owner.invariant (eq-eqb _ _ c.if-owner-line.true) in
    ap (option_map line_setup) (sym found) ∙ sym (find_mapped line_setup (λ (o : LineSetup). eqb o.line c.args.line) owners) ∙ ap (find (λ (o : LineSetup). eqb o.line c.args.line)) (c.owners-owner-items.ensures.holds g t h)

pub returns : goal.returns
unfolding owner_of
returns c = λ g t h.
    let owners = c.owners-owner-items.result.now in
    let p = λ (o : LineStart). eqb o.line c.args.line in
    let none = find_whole p owners c.loop-owner.owner-index c.loop-owner-test.false c.loop-owner.invariant in
    ap (option_map line_setup) (sym none) ∙ sym (find_mapped line_setup (λ (o : LineSetup). eqb o.line c.args.line) owners) ∙ ap (find (λ (o : LineSetup). eqb o.line c.args.line)) (c.owners-owner-items.ensures.holds g t h)
