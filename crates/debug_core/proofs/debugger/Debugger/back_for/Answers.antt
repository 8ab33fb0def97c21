use Rattle.std.proofs.Common.{◌≡◌, ◌∙◌, ◌-◌, sym, arith}
use Rattle.debug_core.specs.Session.{behind, gone_back}
use Rattle.debug_core.proofs.SoughtFor.{at_behind, at_low, at_none_behind, if_can, if_not, told_behind, told_if_can, told_if_not, told_none_behind}
use Rattle.debug_core.proofs.Standing.{turns_at}
use Rattle.debug_core.proofs.debugger.Debugger.back_for.Goals as goal

pub back_for-requires : goal.back_for-requires
back_for-requires boxes c =
    let r = c.requires in
    let here = turns_at _ r.0 c.args.self.now.replay r.1.cursor r.2.at in
    (r.0, r.1.cursor, r.2.at, omega (arith, here, c.turns.ensures, c.earlier-to.ensures))

pub here-requires : goal.here-requires
here-requires boxes c =
    let r = c.requires in
    let h = r.2 in
    let here = turns_at _ r.0 c.args.self.now.replay r.1.cursor h.at in
    let low : c.earlier-to.result ≡ r.1.cursor - c.args.turns = omega (arith, here, c.turns.ensures, c.earlier-to.ensures) in
    let went = c.in-None.ensures r.0 r.1.cursor h.at (omega arith) in
    (r.0, r.1.cursor - c.args.turns, at_low _ r.0 r.1 c.args.sought.now c.args.turns c.earlier-to.result low c.back_for.new.self went)

pub returns-in-None-clause-answer : goal.returns-in-None-clause-answer
returns-in-None-clause-answer boxes c = λ x s h.
    let here = turns_at _ x c.args.self.now.replay s.cursor h.at in
    let low : c.earlier-to.result ≡ s.cursor - c.args.turns = omega (arith, here, c.turns.ensures, c.earlier-to.ensures) in
    let went = c.in-None.ensures x s.cursor h.at (omega arith) in
    let what = c.args.sought.now in
    let n = c.args.turns in
    c.here.ensures x (s.cursor - n) (at_low _ x s what n c.earlier-to.result low c.back_for.new.self went)
    ∙ told_none_behind _ x s what n c.earlier-to.result low c.back_for.new.self went
    ∙ told_if_can x s what (behind x s n what) (s.cursor - n) (sym (c.if-not-can_find.ensures x s.cursor h.at))

pub returns-in-None-clause-session : goal.returns-in-None-clause-session
returns-in-None-clause-session boxes c = λ x s h.
    let here = turns_at _ x c.args.self.now.replay s.cursor h.at in
    let low : c.earlier-to.result ≡ s.cursor - c.args.turns = omega (arith, here, c.turns.ensures, c.earlier-to.ensures) in
    let went = c.in-None.ensures x s.cursor h.at (omega arith) in
    let what = c.args.sought.now in
    let n = c.args.turns in
    record {
      at = if_can _ x s what c.back_for.new.self (gone_back s n (behind x s n what)) (sym (c.if-not-can_find.ensures x s.cursor h.at)) (at_none_behind _ x s what n c.earlier-to.result low c.back_for.new.self went);
      breakpoints = h.breakpoints;
      over = h.over;
    }

pub returns-in-Some-clause-answer : goal.returns-in-Some-clause-answer
returns-in-Some-clause-answer boxes c = λ x s h.
    let here = turns_at _ x c.args.self.now.replay s.cursor h.at in
    let low : c.earlier-to.result ≡ s.cursor - c.args.turns = omega (arith, here, c.turns.ensures, c.earlier-to.ensures) in
    let went = c.in-Some.ensures x s.cursor h.at (omega arith) in
    let what = c.args.sought.now in
    let n = c.args.turns in
    told_behind _ x s what n c.earlier-to.result low c.back_for.new.self _ went
    ∙ told_if_can x s what (behind x s n what) (s.cursor - n) (sym (c.if-not-can_find.ensures x s.cursor h.at))

pub returns-in-Some-clause-session : goal.returns-in-Some-clause-session
returns-in-Some-clause-session boxes c = λ x s h.
    let here = turns_at _ x c.args.self.now.replay s.cursor h.at in
    let low : c.earlier-to.result ≡ s.cursor - c.args.turns = omega (arith, here, c.turns.ensures, c.earlier-to.ensures) in
    let went = c.in-Some.ensures x s.cursor h.at (omega arith) in
    let what = c.args.sought.now in
    let n = c.args.turns in
    record {
      at = if_can _ x s what c.back_for.new.self (gone_back s n (behind x s n what)) (sym (c.if-not-can_find.ensures x s.cursor h.at)) (at_behind _ x s what n c.earlier-to.result low c.back_for.new.self _ went);
      breakpoints = h.breakpoints;
      over = h.over;
    }

pub returns-then-not-can_find-clause-answer : goal.returns-then-not-can_find-clause-answer
returns-then-not-can_find-clause-answer boxes c = λ x s h.
    let what = c.args.sought.now in
    told_if_not x s what (behind x s c.args.turns what) (s.cursor - c.args.turns) (sym (c.if-not-can_find.ensures x s.cursor h.at))

pub returns-then-not-can_find-clause-session : goal.returns-then-not-can_find-clause-session
returns-then-not-can_find-clause-session boxes c = λ x s h.
    let what = c.args.sought.now in
    record {
      at = if_not _ x s what c.args.self.now.replay (gone_back s c.args.turns (behind x s c.args.turns what)) (sym (c.if-not-can_find.ensures x s.cursor h.at)) h.at;
      breakpoints = h.breakpoints;
      over = h.over;
    }
