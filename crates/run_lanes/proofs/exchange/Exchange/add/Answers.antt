use Rattle.std.proofs.Common.{List, [], ◌++◌, ◌∙◌, ap, refl, sym, take}
use Rattle.std.proofs.lemmas.List.{append-nil, take_all}
use Rattle.kernel_abi.specs.declared.Note.{Note}
use Rattle.run_lanes.specs.Told.{arrows_of_notes, calls_at_end_of}
use Rattle.run_lanes.proofs.Exchanged.{arrows_step, calls_step, first_moved}
use Rattle.run_lanes.proofs.exchange.Exchange.add.Goals as goal

pub loop-note-init : goal.loop-note-init
unfolding calls_at_end_of arrows_of_notes
loop-note-init c = record { calls = refl; arrows = λ most xs h. first_moved most _ _ _ xs (xs ++ []) (sym (append-nil xs)) h }

pub loop-note-preserved : goal.loop-note-preserved
loop-note-preserved c =
    let inv = c.loop-note.invariant in
    let i = c.loop-note.note-index in
    let notes = c.args.notes.now in
    let cs = c.args.self.now.calls.items in
    record {
      calls = calls_step c.args.turn cs c.loop-note.self.calls.items c.hear.new.self.calls.items notes i _ c.loop-note-test.true inv.calls c.hear.ensures.calls;
      arrows = λ most xs h.
          arrows_step most _ _ _ xs c.args.turn notes cs c.loop-note.self.calls.items notes i _ c.loop-note-test.true inv.calls (c.hear.ensures.arrows most (xs ++ arrows_of_notes c.args.turn notes cs (take i notes)) (inv.arrows most xs h));
    }

pub returns-clause-calls : goal.returns-clause-calls
returns-clause-calls c =
    c.loop-note.invariant.calls ∙ ap (λ (l : List Note). calls_at_end_of c.args.turn c.args.self.now.calls.items l) (take_all c.loop-note.note-index c.args.notes.now c.loop-note-test.false)

pub returns-clause-arrows : goal.returns-clause-arrows
returns-clause-arrows c = λ most xs h.
    first_moved most _ _ _ _ _ (ap (λ (l : List Note). xs ++ arrows_of_notes c.args.turn c.args.notes.now c.args.self.now.calls.items l) (take_all c.loop-note.note-index c.args.notes.now c.loop-note-test.false)) (c.loop-note.invariant.arrows most xs h)
