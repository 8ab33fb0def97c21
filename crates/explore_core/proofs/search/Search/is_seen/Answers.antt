use Rattle.std.proofs.Common.{◌≡◌, ◌⊎◌, ℕ, List, refl, sym, ap, subst, arith}
use Rattle.std.specs.List.{AllZip}
use Rattle.run_script.specs.Events.{script_data}
use Rattle.run_question.specs.Questions.{Question}
use Rattle.board_model.specs.Laid.{with_script}
use Rattle.board_core.specs.Data.{boxed}
use Rattle.board_core.specs.Stands.{script_of, turns_of}
use Rattle.explore_core.specs.declared.seen.Slot.{Slot}
use Rattle.explore_core.specs.Schedules.{Arrival}
use Rattle.explore_core.specs.Searching.{AreOverAt, IsOwed}
use Rattle.explore_core.specs.Seen.{HasSame}
use Rattle.explore_core.proofs.Meeting.{as_it_was, at_same, seen_none, slot_owed, with_one}
use Rattle.explore_core.proofs.search.Search.is_seen.Goals as goal

pub returns-then-not-is_over-clause-kept : goal.returns-then-not-is_over-clause-kept
returns-then-not-is_over-clause-kept g c = λ e. record {
  owed = λ a came s asked at next choice. as_it_was (IsOwed (boxed (λ p. (goal.Device-dyn g p).shown p.1)) a c.args.at.now came c.args.self.now) c.args.self.now.seen.slots.items;
}

pub save_over-requires : goal.save_over-requires
save_over-requires g c =
    let h = c.requires.somewhere in
    let old = c.args.self.now in
    let x = with_script h.0.scenario (script_data (script_of old.board)) in
    let st = h.4.way.stands in
    (x, h.2, st, omega (arith, c.len.ensures, c.if-len-saved_len.false, c.saved_len.ensures x h.2 st, old.here.ok.0))

pub returns-then-has-clause-seen : goal.returns-then-has-clause-seen
returns-then-has-clause-seen g c = λ e. record {
  table = refl;
  none = λ a came s earlier asked at next choice lt seen.
      let shown = boxed (λ p. (goal.Device-dyn g p).shown p.1) in
      let old = c.args.self.now in
      let pending = c.args.at.now.pending in
      let x = with_script a.scenario (script_data (script_of old.board)) in
      let bytes = c.save_over.new.saved.items in
      let over = subst (λ (l : List Arrival). AreOverAt l pending (turns_of old.board) old.ways) (ap (λ (q : Question). q.arrivals) asked.is.question) (c.is_over.ensures c.if-not-is_over.false) in
      let found = subst (λ (l : List ℕ). HasSame c.turns-turn.result pending c.numbers-numbers.result l old.seen) c.deref-2.ensures.value (c.has.ensures c.if-has.true) in
      seen_none shown a c.args.at.now came s old at next choice over c.numbers-numbers.result bytes c.numbers-numbers.ensures (c.save_over.ensures.spelled x s at.way.stands) earlier c.turns-turn.result c.turns-turn.ensures lt found seen;
}

pub returns-clause-kept : goal.returns-clause-kept
returns-clause-kept g c = λ e. record {
  owed = λ a came s asked at next choice.
      let shown = boxed (λ p. (goal.Device-dyn g p).shown p.1) in
      let old = c.args.self.now in
      let new = record old { seen = c.keep.new.self; here = c.keep.new.state } in
      let pending = c.args.at.now.pending in
      let x = with_script a.scenario (script_data (script_of old.board)) in
      let bytes = c.save_over.new.saved.items in
      let over = subst (λ (l : List Arrival). AreOverAt l pending (turns_of old.board) old.ways) (ap (λ (q : Question). q.arrivals) asked.is.question) (c.is_over.ensures c.if-not-is_over.false) in
      let owed = slot_owed shown a c.args.at.now came s new (at_same shown a c.args.at.now came s old c.keep.new.self c.keep.new.state at) next choice over c.numbers-numbers.result bytes c.numbers-numbers.ensures (c.save_over.ensures.spelled x s at.way.stands)
      c.keep.ensures.slot c.turns-turn.result c.turns-turn.ensures c.keep.ensures.same in
      subst (λ (l : List Slot). AllZip (λ before now. (now ≡ before) ⊎ IsOwed shown a c.args.at.now came new now) old.seen.slots.items l) (sym c.keep.ensures.slots)
      (with_one (IsOwed shown a c.args.at.now came new) old.seen.slots.items c.keep.ensures.place c.keep.ensures.slot owed);
}
