use Rattle.std.proofs.Common.{Option, arith, subst, sym}
use Rattle.task_table.specs.kept.Holds.{Stands}
use Rattle.task_table.specs.kept.Parts.{line_setup}
use Rattle.task_table.specs.model.State.{LineSetup}
use Rattle.task_table.proofs.model.Timing.{line_owner_there, sane-driven_by}
use Rattle.timer_irq.specs.Midway.{driven_if, with_any}
use Rattle.timer_irq.proofs.Lines.{get_in}
use Rattle.timer_irq.proofs.interrupts.drive_at.Goals as goal

pub drive_if-requires-clause-there : goal.drive_if-requires-clause-there
drive_if-requires-clause-there c =
    let g = c.requires.stood.0 in
    let t = c.requires.stood.1 in
    let h = c.requires.stood.2 in
    let owner = line_setup c.in-Some.owner in
    let there = line_owner_there owner t.state h.sane (get_in g.lines c.args.i owner (sym (c.in-Some.ensures g t h.holds))) in
    omega (arith, there, h.holds.count)

pub returns-in-Some-clause-stands : goal.returns-in-Some-clause-stands
returns-in-Some-clause-stands c = λ g t h.
    let owner = line_setup c.in-Some.owner in
    let here = get_in g.lines c.args.i owner (sym (c.in-Some.ensures g t h.holds)) in
    let P : Option LineSetup → Type 0 = λ o. Stands g c.drive_if.new.k (with_any (driven_if c.args.asked) o t) in
    subst P (c.in-Some.ensures g t h.holds) record { holds = c.drive_if.ensures.holds g t h.holds; sane = sane-driven_by c.args.asked owner t h.sane here }
