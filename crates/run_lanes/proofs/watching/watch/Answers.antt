use Rattle.std.proofs.Common.{◌≡◌, ◌-◌, ◌≤◌, ◌<◌, length, sym, ◌∙◌, refl, arith}
use Rattle.std.proofs.lemmas.Result.{err_from_is_err_and}
use Rattle.board_model.specs.declared.outcomes.Level.TheVariants.{Calls}
use Rattle.board_model.specs.Turn.{turn}
use Rattle.task_table.specs.model.State.{State}
use Rattle.board_model.specs.Script.{Scenario}
use Rattle.board_model.specs.Run.{state_after}
use Rattle.board_core.specs.Data.{boxed}
use Rattle.board_core.specs.Stands.{Stands, turns_of}
use Rattle.board_core.proofs.fast.Skipping.{none_then}
use Rattle.board_run.proofs.Going.{turns_seen}
use Rattle.run_lanes.specs.Seen.{Paired}
use Rattle.run_lanes.specs.Activities.{activities_in}
use Rattle.run_lanes.proofs.Marked.{activities_are}
use Rattle.run_lanes.proofs.Idling.{between_is, idle_until, none_after}
use Rattle.run_lanes.proofs.Midway.{idle_breaks, seen_breaks, seen_idle, seen_start, seen_more, whole_told, whole_turns, whole_end}
use Rattle.run_lanes.proofs.watching.watch.Goals as goal

pub turns-init : goal.turns-init
turns-init g c =
    let shown = boxed (λ p. (goal.Device-dyn g p).shown p.1) in
    record {
      seen = λ x s st. seen_start shown (Paired g.W.Watcher.saw) x _ s _ (c.sees_in_parts.ensures.nothing _ _) st;
      stood = c.requires.stood;
      turns = omega arith;
      one_each = c.requires.one_each;
      none = λ so. absurd (cc);
    }

pub returns-in-Some-clause-told : goal.returns-in-Some-clause-told
returns-in-Some-clause-told g c =
    let shown = boxed (λ p. (goal.Device-dyn g p).shown p.1) in
    λ x s st.
    let m = c.turns.invariant.seen x s st in
    let within : m.here.turn ≤ c.args.limit = omega (arith, turns_seen shown x c.turns.board m.here m.stands, c.turns.invariant.turns) in
    whole_told shown (Paired g.W.Watcher.saw) x _ _ s c.turns.board c.args.limit c.in-Some.end m within (sym (c.in-Some.ensures.end x m.here m.stands))

pub returns-in-Some-clause-turns : goal.returns-in-Some-clause-turns
returns-in-Some-clause-turns g c =
    let shown = boxed (λ p. (goal.Device-dyn g p).shown p.1) in
    λ x s st.
    let m = c.turns.invariant.seen x s st in
    let within : m.here.turn ≤ c.args.limit = omega (arith, turns_seen shown x c.turns.board m.here m.stands, c.turns.invariant.turns) in
    sym (turns_seen shown x c.turns.board m.here m.stands)
    ∙ whole_turns shown (Paired g.W.Watcher.saw) x _ _ s c.turns.board c.args.limit c.in-Some.end m within (sym (c.in-Some.ensures.end x m.here m.stands))

pub returns-in-Some-clause-end : goal.returns-in-Some-clause-end
returns-in-Some-clause-end g c =
    let shown = boxed (λ p. (goal.Device-dyn g p).shown p.1) in
    λ x s st.
    let m = c.turns.invariant.seen x s st in
    let within : m.here.turn ≤ c.args.limit = omega (arith, turns_seen shown x c.turns.board m.here m.stands, c.turns.invariant.turns) in
    (whole_end shown (Paired g.W.Watcher.saw) x _ _ s c.turns.board c.args.limit c.in-Some.end m within (sym (c.in-Some.ensures.end x m.here m.stands))).0

pub returns-in-Some-clause-last : goal.returns-in-Some-clause-last
returns-in-Some-clause-last g c =
    let shown = boxed (λ p. (goal.Device-dyn g p).shown p.1) in
    λ x s st.
    let m = c.turns.invariant.seen x s st in
    let within : m.here.turn ≤ c.args.limit = omega (arith, turns_seen shown x c.turns.board m.here m.stands, c.turns.invariant.turns) in
    (whole_end shown (Paired g.W.Watcher.saw) x _ _ s c.turns.board c.args.limit c.in-Some.end m within (sym (c.in-Some.ensures.end x m.here m.stands))).1

pub skip-requires-clause-idle : goal.skip-requires-clause-idle
skip-requires-clause-idle g c =
    let idle_now = c.turns.invariant.none (c.idle_until-to.ensures.idle (omega (arith, c.if-from-to.true, c.turns-from.ensures))) in
    λ x s st. idle_until x s c.idle_until-to.result (sym st.holds.choice.next ∙ idle_now) (c.in-None.ensures.goes refl x s st) (c.idle_until-to.ensures.nothing x s st)

pub turns-preserved-then-from-to : goal.turns-preserved-then-from-to
turns-preserved-then-from-to g c =
    let shown = boxed (λ p. (goal.Device-dyn g p).shown p.1) in
    let b = c.turns.board in
    let b' = c.skip.new.self in
    let less = c.if-from-to.true in
    let stood = c.turns.invariant.stood in
    let idle_now = c.turns.invariant.none (c.idle_until-to.ensures.idle (omega (arith, less, c.turns-from.ensures))) in
    let idle = λ (x : Scenario) (s : State) (st : Stands shown x b s). idle_until x s c.idle_until-to.result (sym st.holds.choice.next ∙ idle_now) (c.in-None.ensures.goes refl x s st) (c.idle_until-to.ensures.nothing x s st) in
    let at : stood.1.turn ≡ turns_of b = turns_seen shown stood.0 b stood.1 stood.2 in
    let after = c.skip.ensures.model stood.0 stood.1 stood.2 in
    record {
      seen = λ x s st.
          let m = c.turns.invariant.seen x s st in
          let here = m.here in
          let each = c.turns.invariant.one_each x s st in
          let many : length c.turns.activities ≡ length here.tasks = omega (arith, each, m.stands.sane.steady.as_many) in
          let from : c.turns-from.result ≡ here.turn = omega (arith, turns_seen shown x b here m.stands, c.turns-from.ensures) in
          seen_idle shown (Paired g.W.Watcher.saw) x _ _ _ s b b' c.turns-from.result c.idle_until-to.result (c.idle_until-to.result - c.turns-from.result) c.look.new.activities (λ u v z a d. c.sees_in_parts.ensures.parts u.0 v.0 z.0 u.1 v.1 z.1 a d) m
          (idle x here m.stands) (c.in-None.ensures.goes refl x here m.stands) (omega (arith, from, less)) from (c.look.ensures.activities x here m.stands many ∙ between_is here) (c.skip.ensures.model x here m.stands) c.in_ok-see_idle.ensures;
      stood = (stood.0, state_after Calls stood.0 (c.idle_until-to.result - stood.1.turn) stood.1, after);
      turns = omega (arith, c.skip.ensures.turns, c.idle_until-to.ensures.within);
      one_each = λ x s st. omega (arith, c.turns.invariant.one_each x s st, c.look.ensures.len);
      none = λ so. after.holds.choice.next ∙ none_then stood.0 stood.1 c.idle_until-to.result (idle stood.0 stood.1 stood.2) (c.idle_until-to.result - stood.1.turn) (omega (arith, at, less, c.turns-from.ensures));
    }

pub turns-preserved : goal.turns-preserved
turns-preserved g c =
    let shown = boxed (λ p. (goal.Device-dyn g p).shown p.1) in
    let b = c.turns.board in
    let b' = c.turn_at-turned.new.self in
    let stood = c.turns.invariant.stood in
    record {
      seen = λ x s st.
          let m = c.turns.invariant.seen x s st in
          let here = m.here in
          let each = c.turns.invariant.one_each x s st in
          let many : length c.turns.activities ≡ length here.tasks = omega (arith, each, m.stands.sane.steady.as_many) in
          let looked = c.look.ensures.activities x here m.stands many in
          let count : length c.look.new.activities ≡ length here.tasks = omega (arith, many, c.look.ensures.len) in
          let marked = rw (c.turn_at-turned.ensures.turned x here m.stands) at c.mark.ensures.marked in
          let activities : c.mark.new.activities ≡ activities_in x here = activities_are x here c.look.new.activities c.mark.new.activities looked count c.mark.ensures.len marked in
          let at : c.turns-from.result ≡ here.turn = omega (arith, turns_seen shown x b here m.stands, c.turns-from.ensures) in
          let noted = c.notes.ensures ∙ c.turn_at-turned.ensures.notes x here m.stands in
          seen_more shown (Paired g.W.Watcher.saw) x _ _ _ s b b' _ _ _ (λ u v z a d. c.sees_in_parts.ensures.parts u.0 v.0 z.0 u.1 v.1 z.1 a d) m
          (c.turn_at-turned.ensures.model x here m.stands) (c.in-None.ensures.goes refl x here m.stands) at activities noted c.in_ok-see.ensures;
      stood = (stood.0, (turn Calls stood.0 stood.1).state, c.turn_at-turned.ensures.model stood.0 stood.1 stood.2);
      turns = omega (arith, c.in-None.ensures.left refl, c.turn_at-turned.ensures.turns);
      one_each = λ x s st. omega (arith, c.turns.invariant.one_each x s st, c.look.ensures.len, c.mark.ensures.len);
      none = λ so. (c.turn_at-turned.ensures.model stood.0 stood.1 stood.2).holds.choice.next ∙ none_after stood.0 stood.1 (sym (c.turn_at-turned.ensures.turned stood.0 stood.1 stood.2) ∙ c.is_idle-idle.ensures so);
    }

pub returns-in_err-see-clause-broken : goal.returns-in_err-see-clause-broken
returns-in_err-see-clause-broken g c =
    let shown = boxed (λ p. (goal.Device-dyn g p).shown p.1) in
    λ x s st.
    let p = err_from_is_err_and c.from_residual-in_err-see.result c.from_residual-in_err-see.ensures.1 in
    let b = c.turns.board in
    let m = c.turns.invariant.seen x s st in
    let here = m.here in
    let each = c.turns.invariant.one_each x s st in
    let many : length c.turns.activities ≡ length here.tasks = omega (arith, each, m.stands.sane.steady.as_many) in
    let looked = c.look.ensures.activities x here m.stands many in
    let count : length c.look.new.activities ≡ length here.tasks = omega (arith, many, c.look.ensures.len) in
    let marked = rw (c.turn_at-turned.ensures.turned x here m.stands) at c.mark.ensures.marked in
    let activities : c.mark.new.activities ≡ activities_in x here = activities_are x here c.look.new.activities c.mark.new.activities looked count c.mark.ensures.len marked in
    let at : c.turns-from.result ≡ here.turn = omega (arith, turns_seen shown x b here m.stands, c.turns-from.ensures) in
    let noted = c.notes.ensures ∙ c.turn_at-turned.ensures.notes x here m.stands in
    let under : here.turn < c.args.limit = omega (arith, turns_seen shown x b here m.stands, c.in-None.ensures.left refl) in
    rw (p.1) (seen_breaks shown (Paired g.W.Watcher.saw) (Paired g.W.Watcher.broke) x _ _ _ s b c.args.limit _ _ _
    (λ u v z a d. c.sees_in_parts.ensures.fails u.0 v.0 z.0 u.1 v.1 z.1 a d) m (c.in-None.ensures.goes refl x here m.stands) under at activities noted c.in_err-see.ensures)

pub returns-in_err-see_idle-clause-broken : goal.returns-in_err-see_idle-clause-broken
returns-in_err-see_idle-clause-broken g c =
    let shown = boxed (λ p. (goal.Device-dyn g p).shown p.1) in
    λ x s st.
    let p = err_from_is_err_and c.from_residual.result c.from_residual.ensures.1 in
    let b = c.turns.board in
    let less = c.if-from-to.true in
    let m = c.turns.invariant.seen x s st in
    let here = m.here in
    let each = c.turns.invariant.one_each x s st in
    let many : length c.turns.activities ≡ length here.tasks = omega (arith, each, m.stands.sane.steady.as_many) in
    let from : c.turns-from.result ≡ here.turn = omega (arith, turns_seen shown x b here m.stands, c.turns-from.ensures) in
    let idle_now = c.turns.invariant.none (c.idle_until-to.ensures.idle (omega (arith, less, c.turns-from.ensures))) in
    let goes = c.in-None.ensures.goes refl x here m.stands in
    let idle = idle_until x here c.idle_until-to.result (sym m.stands.holds.choice.next ∙ idle_now) goes (c.idle_until-to.ensures.nothing x here m.stands) in
    rw (p.1) (idle_breaks shown (Paired g.W.Watcher.saw) (Paired g.W.Watcher.broke) x _ _ _ s b c.args.limit c.turns-from.result c.idle_until-to.result (c.idle_until-to.result - c.turns-from.result) c.look.new.activities
    (λ u v z a d. c.sees_in_parts.ensures.fails u.0 v.0 z.0 u.1 v.1 z.1 a d) m idle goes (omega (arith, from, less)) c.idle_until-to.ensures.within from (c.look.ensures.activities x here m.stands many ∙ between_is here) c.in_err-see_idle.ensures)
