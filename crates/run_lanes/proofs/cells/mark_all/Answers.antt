use Rattle.std.proofs.Common.{List, subst}
use Rattle.std.proofs.lemmas.List.{take_all}
use Rattle.kernel_abi.specs.declared.Note.{Note}
use Rattle.run_lanes.specs.Counted.{Changed, marked}
use Rattle.run_lanes.proofs.Changes.{marks_more, marks_none}
use Rattle.run_lanes.proofs.cells.mark_all.Goals as goal

pub loop-note-init : goal.loop-note-init
loop-note-init c = marks_none c.args.cells.now c.args.at c.args.tasks

pub loop-note-preserved : goal.loop-note-preserved
loop-note-preserved c =
    marks_more c.args.cells.now c.loop-note.cells c.mark.new.cells c.args.at c.args.tasks c.args.notes.now c.loop-note.note-index _ c.loop-note-test.true c.loop-note.invariant c.mark.ensures

pub returns : goal.returns
returns c =
    let P : List Note → Type 0 = λ l. Changed c.args.cells.now c.loop-note.cells c.args.at c.args.tasks (marked l) in
    subst P (take_all c.loop-note.note-index c.args.notes.now c.loop-note-test.false) c.loop-note.invariant
