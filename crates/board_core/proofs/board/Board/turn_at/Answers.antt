use Rattle.std.specs.Prelude.{map, vec_items}
use Rattle.board_core.specs.fast.IoRegions.{AllIoRegions}
use Rattle.std.proofs.Common.{ℕ, Option, sym, ◌∙◌, ap, subst, arith}
use Rattle.run_script.specs.Events.{script_data}
use Rattle.run_script.specs.Scripts.{IsNext}
use Rattle.run_script.specs.declared.script.Script.{Script}
use Rattle.board_model.specs.Turn.{turn, turned, turned_of, after_events}
use Rattle.board_core.proofs.Turning.{rested, rested_as, next_of, noted_in, as_chosen, stands_after, turn_notes, choice_kept, few_events}
use Rattle.board_model.proofs.TurnChains.{sane-after_events}
use Rattle.board_model.proofs.Counts.{counted_turn, turn_more, later-after_events}
use Rattle.board_model.proofs.Lifetimes.{grounded-turn}
use Rattle.board_model.proofs.SameReads.{same_turn}
use Rattle.board_model.proofs.FaultTurns.{changes_nothing_else}
use Rattle.board_model.proofs.DeadTurns.{dead_turn}
use Rattle.board_model.proofs.LonerFrame.{alone-turn, bytes-turn}
use Rattle.board_model.proofs.LonerOwnTurns.{own_turns}
use Rattle.board_core.proofs.board.Board.turn_at.Goals as goal

pub turn-turned-requires : goal.turn-turned-requires
turn-turned-requires boxes c =
    let x = c.requires.stood.0 in
    let s = c.requires.stood.1 in
    let st = c.requires.stood.2 in
    let mid = c.begin.ensures.midway x s st in
    let later = later-after_events x s in
    let turns = st.holds.turns in
    let counted = st.counted.calls in
    let few = c.requires.few in
    record {
      next = (x.setup, after_events x s, next_of _ x s c.begin.new.self mid, omega (arith, later.next_call, turns, counted, few));
      room = omega (arith, c.begin.ensures.few);
    }

pub renew-requires : goal.renew-requires
renew-requires boxes c =
    let x = c.requires.stood.0 in
    let s = c.requires.stood.1 in
    let st = c.requires.stood.2 in
    let level = c.args.level in
    let m = c.turn-turned.new.self in
    let mid = c.begin.ensures.midway x s st in
    let h = as_chosen _ level x s m _ mid.choice (c.turn-turned.ensures.holds x.setup _ (next_of _ x s c.begin.new.self mid)) in
    (x.setup, rested m (turn level x s).state, stands_after _ level x s m st.sane h)

pub returns-clause-model : goal.returns-clause-model
returns-clause-model boxes c = λ x s st.
    let level = c.args.level in
    let m = c.turn-turned.new.self in
    let mid = c.begin.ensures.midway x s st in
    let h = as_chosen _ level x s m _ mid.choice (c.turn-turned.ensures.holds x.setup _ (next_of _ x s c.begin.new.self mid)) in
    let after = stands_after _ level x s m st.sane h in
    let more = turn_more level x s st.sane in
    let noted = c.notes-noted.ensures ∙ noted_in _ x.setup c.begin.new.self.machine _ mid.machine.holds in
    let N : ℕ → Type 0 = λ from. IsNext x.script from c.begin.new.self.due in
    let D : Option ℕ → Type 0 = λ due. IsNext x.script (turn level x s).state.turn due in
    record {
      holds = record {
        machine = rested_as _ x.setup m c.renew.new.self.machine (turn level x s).state (c.renew.ensures.holds x.setup _ after.holds);
        turns = let a = st.holds.turns in let b = c.begin.ensures.turns in let r = c.renew.ensures.turns in omega (arith, more, a, b, r);
        choice = c.renew.ensures.choice x.setup (rested m (turn level x s).state) after ((after_events x s).state, sane-after_events x s st.sane, mid.choice) (λ few. choice_kept _ level x s m _ st.sane h mid.choice (rw (sym noted) few));
        script = ap (λ (script : Script). script_data script) c.renew.ensures.script ∙ mid.script;
        io_regions = subst (λ io_regions. AllIoRegions x.setup (map vec_items io_regions.items)) (sym c.renew.ensures.io_regions) mid.io_regions;
        due = subst D (sym c.renew.ensures.due) (subst N (sym more) mid.due);
      };
      sane = after.sane;
      counted = counted_turn level x s st.sane (few_events _ x s c.args.self.now st) st.counted;
    }

pub returns-clause-notes : goal.returns-clause-notes
returns-clause-notes boxes c = λ x s st.
    let level = c.args.level in
    let m = c.turn-turned.new.self in
    let mid = c.begin.ensures.midway x s st in
    let h = as_chosen _ level x s m _ mid.choice (c.turn-turned.ensures.holds x.setup _ (next_of _ x s c.begin.new.self mid)) in
    let after = stands_after _ level x s m st.sane h in
    noted_in _ x.setup c.renew.new.self.machine _ (c.renew.ensures.holds x.setup _ after.holds) ∙ turn_notes _ level x s m h

pub returns-clause-turned : goal.returns-clause-turned
unfolding turned
returns-clause-turned boxes c = λ x s st.
    let mid = c.begin.ensures.midway x s st in
    c.turn-turned.ensures.turned x.setup _ (next_of _ x s c.begin.new.self mid) ∙ ap (turned_of (after_events x s).state) mid.choice.next

pub returns-clause-few : goal.returns-clause-few
returns-clause-few boxes c = omega (arith, c.renew.ensures.count, c.turn-turned.ensures.count, c.begin.ensures.few)

pub returns-clause-turns : goal.returns-clause-turns
returns-clause-turns boxes c = omega (arith, c.renew.ensures.turns, c.begin.ensures.turns)

pub returns-clause-due : goal.returns-clause-due
returns-clause-due boxes c = λ not_due. c.renew.ensures.due ∙ c.begin.ensures.due not_due

pub returns-clause-kept : goal.returns-clause-kept
returns-clause-kept boxes c = λ not_due none. c.renew.ensures.kept (rw none (omega arith)) ∙ c.begin.ensures.kept not_due

pub returns-clause-grounds : goal.returns-clause-grounds
returns-clause-grounds boxes c = λ x s st. grounded-turn c.args.level x s st.sane

pub returns-clause-reads : goal.returns-clause-reads
returns-clause-reads boxes c = λ x s st m agrees. same_turn c.args.level x s m st.sane agrees

pub returns-clause-faults : goal.returns-clause-faults
returns-clause-faults boxes c = λ x s st i h. changes_nothing_else c.args.level x s i st.sane h

pub returns-clause-dead_ids : goal.returns-clause-dead_ids
returns-clause-dead_ids boxes c = λ x s st. dead_turn c.args.level x s st.sane

pub returns-clause-loners : goal.returns-clause-loners
returns-clause-loners boxes c = λ x s st i idle other. (alone-turn s i c.args.level x st.sane idle other, λ loner a own. bytes-turn s i c.args.level x st.sane idle other loner a own)

pub returns-clause-alone : goal.returns-clause-alone
returns-clause-alone boxes c = λ x s st level y u i j sane alike own own_too itself. (own_turns c.args.level level x y i j s u alike st.sane sane own own_too itself).0
