use Rattle.std.proofs.Common.{◌<◌, length, arith}
use Rattle.kernel_abi.specs.declared.Note.TheVariants as note
use Rattle.run_cover.proofs.Growing.{heard_none, heard_note, heard_more, at_turn_more}
use Rattle.run_cover.proofs.counts.PlaceCounts.hear_all.Goals as goal

pub loop-note-init : goal.loop-note-init
loop-note-init c = heard_none c.args.self.now

pub loop-note-preserved : goal.loop-note-preserved
loop-note-preserved c =
    let lt : c.loop-note.note-index < length c.args.notes.now = omega (arith, c.loop-note-test.true) in
    rw (at_turn_more c.args.turn c.args.notes.now c.loop-note.note-index (note.Tick 0) lt)
    (heard_more _ _ _ _ _ c.loop-note.invariant (heard_note _ _ c.args.turn _ c.hear.ensures))
