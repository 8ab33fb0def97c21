use Rattle.std.proofs.Common.{◌≡◌, ◌-◌, ◌∙◌, ap, length, refl, sym, arith}
use Rattle.task_table.specs.model.State.{State}
use Rattle.board_model.specs.declared.outcomes.Level.TheVariants.{All, Calls}
use Rattle.board_model.specs.Script.{Scenario}
use Rattle.board_model.specs.Turn.{turn}
use Rattle.board_model.specs.Run.{state_after}
use Rattle.board_core.specs.Data.{boxed}
use Rattle.board_core.specs.Stands.{Stands, turns_of}
use Rattle.board_core.proofs.fast.Skipping.{none_then}
use Rattle.board_run.proofs.Going.{IsTurned, all_told, end_is, midway_start, midway_turn, turns_seen}
use Rattle.run_cover.specs.Counted.{Heard}
use Rattle.run_cover.proofs.Executing.{run_counted}
use Rattle.run_cover.proofs.Growing.{heard_more, heard_none}
use Rattle.run_cover.proofs.Idling.{idle_until, midway_idle, none_after, one_more}
use Rattle.run_cover.proofs.covering.count_run.Goals as goal

pub turns-init : goal.turns-init
turns-init g c =
    let shown = boxed (λ p. (goal.Device-dyn g p).shown p.1) in
    record {
      midway = λ x s st. midway_start shown Heard All x _ s _ (heard_none _) st;
      stood = c.requires.stood;
      turns = omega arith;
      none = λ so. absurd (cc);
    }

pub returns-in-Some-clause-counted : goal.returns-in-Some-clause-counted
returns-in-Some-clause-counted g c =
    let shown = boxed (λ p. (goal.Device-dyn g p).shown p.1) in
    λ x s st.
    run_counted x c.args.limit s _ _ st.sane c.requires.few c.requires.new
    (all_told shown Heard All x c.args.limit _ _ s c.turns.board c.in-Some.end c.turns.invariant.turns (λ t u. sym (c.in-Some.ensures.end x t u)) (c.turns.invariant.midway x s st))

pub returns-in-Some-clause-end : goal.returns-in-Some-clause-end
returns-in-Some-clause-end g c =
    let shown = boxed (λ p. (goal.Device-dyn g p).shown p.1) in
    λ x s st.
    (end_is shown Heard All x c.args.limit _ _ s c.turns.board c.in-Some.end c.turns.invariant.turns (λ t u. sym (c.in-Some.ensures.end x t u)) (c.turns.invariant.midway x s st)).0

pub returns-in-Some-clause-last : goal.returns-in-Some-clause-last
returns-in-Some-clause-last g c =
    let shown = boxed (λ p. (goal.Device-dyn g p).shown p.1) in
    λ x s st.
    (end_is shown Heard All x c.args.limit _ _ s c.turns.board c.in-Some.end c.turns.invariant.turns (λ t u. sym (c.in-Some.ensures.end x t u)) (c.turns.invariant.midway x s st)).1

pub skip-requires-clause-idle : goal.skip-requires-clause-idle
skip-requires-clause-idle g c =
    let idle_now = c.turns.invariant.none (c.idle_until-to.ensures.idle (omega (arith, c.if-from-to.true, c.turns-from.ensures))) in
    λ x s st. idle_until x s c.idle_until-to.result (sym st.holds.choice.next ∙ idle_now) (c.in-None.ensures.goes refl x s st) (c.idle_until-to.ensures.nothing x s st)

pub turns-preserved-then-from-to : goal.turns-preserved-then-from-to
turns-preserved-then-from-to g c =
    let shown = boxed (λ p. (goal.Device-dyn g p).shown p.1) in
    let b = c.turns.board in
    let b' = c.skip.new.self in
    let to = c.idle_until-to.result in
    let less = c.if-from-to.true in
    let stood = c.turns.invariant.stood in
    let idle_now = c.turns.invariant.none (c.idle_until-to.ensures.idle (omega (arith, less, c.turns-from.ensures))) in
    let idle = λ (x : Scenario) (s : State) (st : Stands shown x b s). idle_until x s to (sym st.holds.choice.next ∙ idle_now) (c.in-None.ensures.goes refl x s st) (c.idle_until-to.ensures.nothing x s st) in
    let at : stood.1.turn ≡ turns_of b = turns_seen shown stood.0 b stood.1 stood.2 in
    let after = c.skip.ensures.model stood.0 stood.1 stood.2 in
    record {
      midway = λ x s st.
          let m = c.turns.invariant.midway x s st in
          let here = m.here in
          let from = turns_seen shown x b here m.stands in
          midway_idle shown x _ _ s b b' to m (idle x here m.stands) (c.in-None.ensures.goes refl x here m.stands) (omega (arith, from, c.idle_until-to.ensures.later)) (c.skip.ensures.model x here m.stands);
      stood = (stood.0, state_after Calls stood.0 (to - stood.1.turn) stood.1, after);
      turns = omega (arith, c.skip.ensures.turns, c.idle_until-to.ensures.within);
      none = λ so. sym (sym (none_then stood.0 stood.1 to (idle stood.0 stood.1 stood.2) (to - stood.1.turn) (omega (arith, at, less, c.turns-from.ensures))) ∙ sym after.holds.choice.next);
    }

pub turns-preserved : goal.turns-preserved
turns-preserved g c =
    let shown = boxed (λ p. (goal.Device-dyn g p).shown p.1) in
    let b = c.turns.board in
    let b' = c.turn_at-turned.new.self in
    let stood = c.turns.invariant.stood in
    let turned = c.turn_at-turned.ensures in
    let after = turned.model stood.0 stood.1 stood.2 in
    record {
      midway = λ x s st.
          let m = c.turns.invariant.midway x s st in
          let h : IsTurned shown All x 0 b b' c.notes.result.now = record {
            goes = λ t u. c.in-None.ensures.goes refl x t u;
            advanced = λ t u. one_more shown x t b' (turned.model x t u) (turned.notes x t u);
            tells = c.notes.ensures;
            turns = omega (arith, turned.turns);
            few = omega (arith, ap length c.notes.ensures, turned.few);
          } in
          midway_turn shown Heard All x heard_more 0 _ _ _ _ s b b' _ h (omega (arith, turned.turns, c.turns-from.ensures)) c.hear_all.ensures m;
      stood = (stood.0, (turn All stood.0 stood.1).state, after);
      turns = omega (arith, c.in-None.ensures.left refl, turned.turns);
      none = λ so. after.holds.choice.next ∙ none_after stood.0 stood.1 (sym (turned.turned stood.0 stood.1 stood.2) ∙ c.is_idle-idle.ensures so);
    }
