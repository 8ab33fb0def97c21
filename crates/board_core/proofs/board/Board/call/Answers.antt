use Rattle.std.specs.Prelude.{map, vec_items}
use Rattle.board_core.specs.fast.IoRegions.{AllIoRegions}
use Rattle.std.proofs.Common.{ℕ, Option, sym, ◌∙◌, ap, subst, arith}
use Rattle.run_script.specs.Events.{script_data}
use Rattle.run_script.specs.Scripts.{IsNext}
use Rattle.run_script.specs.declared.script.Script.{Script}
use Rattle.board_model.specs.declared.outcomes.Level.TheVariants.{Calls}
use Rattle.board_model.specs.Turn.{turn, after_events, turn_of}
use Rattle.board_core.specs.Machine.{MachineHolds}
use Rattle.board_core.proofs.fast.Skipping.{call_now}
use Rattle.board_core.proofs.Turning.{rested, rested_as, noted_in, stands_after, turn_notes, choice_kept, few_events}
use Rattle.board_model.proofs.TurnChains.{sane-after_events}
use Rattle.board_model.proofs.Counts.{counted_turn, turn_more, later-after_events}
use Rattle.board_core.specs.Data.{boxed}
use Rattle.board_core.proofs.board.Board.call.Goals as goal

pub call-requires : goal.call-requires
call-requires boxes c =
    let x = c.requires.stood.0 in
    let s = c.requires.stood.1 in
    let st = c.requires.stood.2 in
    let b = c.args.self.now in
    let now = call_now _ x s b c.begin.new.self c.args.task st c.requires.stood.3 c.requires.few (c.begin.ensures.holds x.setup (rested b.machine s) st.holds.machine) in
    let later = later-after_events x s in
    let turns = st.holds.turns in
    let counted = st.counted.calls in
    let few = c.requires.few in
    record {
      next = (x.setup, after_events x s, now.next, omega (arith, later.next_call, turns, counted, few));
      room = omega (arith, c.begin.ensures.count);
    }

pub renew-requires : goal.renew-requires
renew-requires boxes c =
    let shown = boxed (λ p. (goal.Device-dyn boxes p).shown p.1) in
    let x = c.requires.stood.0 in
    let s = c.requires.stood.1 in
    let st = c.requires.stood.2 in
    let b = c.args.self.now in
    let m = c.call.new.self in
    let now = call_now shown x s b c.begin.new.self c.args.task st c.requires.stood.3 c.requires.few (c.begin.ensures.holds x.setup (rested b.machine s) st.holds.machine) in
    let P : Option ℕ → Type 0 = λ o. MachineHolds shown x.setup m (turn_of Calls x.setup o (after_events x s)) in
    let h = subst P now.next.is (c.call.ensures.holds x.setup _ now.next now.calling) in
    (x.setup, rested m (turn Calls x s).state, stands_after shown Calls x s m st.sane h)

pub returns-clause-made : goal.returns-clause-made
returns-clause-made boxes c =
    let shown = boxed (λ p. (goal.Device-dyn boxes p).shown p.1) in
    λ x s st call.
    let b = c.args.self.now in
    let m = c.call.new.self in
    let now = call_now shown x s b c.begin.new.self c.args.task st call c.requires.few (c.begin.ensures.holds x.setup (rested b.machine s) st.holds.machine) in
    let mid = now.midway in
    let P : Option ℕ → Type 0 = λ o. MachineHolds shown x.setup m (turn_of Calls x.setup o (after_events x s)) in
    let h = subst P now.next.is (c.call.ensures.holds x.setup _ now.next now.calling) in
    let after = stands_after shown Calls x s m st.sane h in
    let more = turn_more Calls x s st.sane in
    let N : ℕ → Type 0 = λ from. IsNext x.script from b.due in
    let D : Option ℕ → Type 0 = λ due. IsNext x.script (turn Calls x s).state.turn due in
    record {
      stands = record {
        holds = record {
          machine = rested_as shown x.setup m c.renew.new.self.machine (turn Calls x s).state (c.renew.ensures.holds x.setup _ after.holds);
          turns = let a = st.holds.turns in let r = c.renew.ensures.turns in omega (arith, more, a, r);
          choice = c.renew.ensures.choice x.setup (rested m (turn Calls x s).state) after ((after_events x s).state, sane-after_events x s st.sane, mid.choice) (λ none. choice_kept shown Calls x s m _ st.sane h mid.choice (omega (arith, none)));
          script = ap (λ (script : Script). script_data script) c.renew.ensures.script ∙ mid.script;
          io_regions = subst (λ io_regions. AllIoRegions x.setup (map vec_items io_regions.items)) (sym c.renew.ensures.io_regions) mid.io_regions;
          due = subst D (sym c.renew.ensures.due) (subst N (sym more) mid.due);
        };
        sane = after.sane;
        counted = counted_turn Calls x s st.sane (few_events shown x s b st) st.counted;
      };
      notes = noted_in shown x.setup c.renew.new.self.machine _ (c.renew.ensures.holds x.setup _ after.holds) ∙ turn_notes shown Calls x s m h;
    }
