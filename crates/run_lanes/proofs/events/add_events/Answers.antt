use Rattle.std.proofs.Common.{List, [], ◌++◌, ap, map, sym, take}
use Rattle.std.specs.Prelude.{filter}
use Rattle.std.proofs.lemmas.List.{append-nil, take_all}
use Rattle.kernel_abi.specs.declared.Note.{Note}
use Rattle.run_lanes.specs.Told.{is_event}
use Rattle.run_lanes.proofs.Exchanged.{events_step, first_moved}
use Rattle.run_lanes.proofs.events.add_events.Goals as goal

pub loop-note-init : goal.loop-note-init
loop-note-init c = λ most xs h. first_moved most _ _ _ xs (xs ++ []) (sym (append-nil xs)) h

pub loop-note-preserved : goal.loop-note-preserved
loop-note-preserved c = λ most xs h.
    let i = c.loop-note.note-index in
    let notes = c.args.notes.now in
    events_step most _ _ _ xs _ c.args.turn notes i _ c.loop-note-test.true c.event_of.ensures
    (c.push_some.ensures most (xs ++ map (λ n. (c.args.turn, n)) (filter is_event (take i notes))) (c.loop-note.invariant most xs h))

pub returns : goal.returns
returns c = λ most xs h.
    first_moved most _ _ _ _ _ (ap (λ (l : List Note). xs ++ map (λ n. (c.args.turn, n)) (filter is_event l)) (take_all c.loop-note.note-index c.args.notes.now c.loop-note-test.false)) (c.loop-note.invariant most xs h)
