use Rattle.std.proofs.Common.{◌∙◌, sym, arith}
use Rattle.debug_core.specs.Runs.{forward}
use Rattle.debug_core.specs.Session.{ahead, gone}
use Rattle.debug_core.proofs.SoughtFor.{at_ahead, at_end, at_none_ahead, if_can, if_not, told_ahead, told_if_can, told_if_not, told_none_ahead}
use Rattle.debug_core.proofs.debugger.Debugger.go_for.Goals as goal

pub go_for-requires-clause-from : goal.go_for-requires-clause-from
go_for-requires-clause-from boxes c =
    let r = c.requires in
    let most = r.2.at.most in
    (r.0, r.1.cursor, r.2.at, omega (arith, c.limit-to.ensures.limit r.0 r.1 r.2))

pub here-requires : goal.here-requires
here-requires boxes c =
    let r = c.requires in
    let h = r.2 in
    let most = h.at.most in
    let is = c.limit-to.ensures.limit r.0 r.1 h in
    let came = c.in-None.ensures r.0 r.1.cursor h.at (omega arith) in
    (r.0, forward r.0 r.1.cursor c.args.turns, at_end _ r.0 r.1 c.args.sought.now c.args.turns c.limit-to.result is c.go_for.new.self came)

pub returns-in-None-clause-answer : goal.returns-in-None-clause-answer
returns-in-None-clause-answer boxes c = λ x s h.
    let most = h.at.most in
    let is = c.limit-to.ensures.limit x s h in
    let came = c.in-None.ensures x s.cursor h.at (omega arith) in
    let what = c.args.sought.now in
    let n = c.args.turns in
    c.here.ensures x (forward x s.cursor n) (at_end _ x s what n c.limit-to.result is c.go_for.new.self came)
    ∙ told_none_ahead _ x s what n c.limit-to.result is c.go_for.new.self came
    ∙ told_if_can x s what (ahead x s n what) (forward x s.cursor n) (sym (c.if-not-can_find.ensures x s.cursor h.at))

pub returns-in-None-clause-session : goal.returns-in-None-clause-session
returns-in-None-clause-session boxes c = λ x s h.
    let most = h.at.most in
    let is = c.limit-to.ensures.limit x s h in
    let came = c.in-None.ensures x s.cursor h.at (omega arith) in
    let what = c.args.sought.now in
    let n = c.args.turns in
    record {
      at = if_can _ x s what c.go_for.new.self (gone x s n (ahead x s n what)) (sym (c.if-not-can_find.ensures x s.cursor h.at)) (at_none_ahead _ x s what n c.limit-to.result is c.go_for.new.self came);
      breakpoints = h.breakpoints;
      over = h.over;
    }

pub returns-in-Some-clause-answer : goal.returns-in-Some-clause-answer
returns-in-Some-clause-answer boxes c = λ x s h.
    let most = h.at.most in
    let is = c.limit-to.ensures.limit x s h in
    let came = c.in-Some.ensures x s.cursor h.at (omega arith) in
    let what = c.args.sought.now in
    let n = c.args.turns in
    told_ahead _ x s what n c.limit-to.result is c.go_for.new.self _ came
    ∙ told_if_can x s what (ahead x s n what) (forward x s.cursor n) (sym (c.if-not-can_find.ensures x s.cursor h.at))

pub returns-in-Some-clause-session : goal.returns-in-Some-clause-session
returns-in-Some-clause-session boxes c = λ x s h.
    let most = h.at.most in
    let is = c.limit-to.ensures.limit x s h in
    let came = c.in-Some.ensures x s.cursor h.at (omega arith) in
    let what = c.args.sought.now in
    let n = c.args.turns in
    record {
      at = if_can _ x s what c.go_for.new.self (gone x s n (ahead x s n what)) (sym (c.if-not-can_find.ensures x s.cursor h.at)) (at_ahead _ x s what n c.limit-to.result is c.go_for.new.self _ came);
      breakpoints = h.breakpoints;
      over = h.over;
    }

pub returns-then-not-can_find-clause-answer : goal.returns-then-not-can_find-clause-answer
returns-then-not-can_find-clause-answer boxes c = λ x s h.
    let what = c.args.sought.now in
    told_if_not x s what (ahead x s c.args.turns what) (forward x s.cursor c.args.turns) (sym (c.if-not-can_find.ensures x s.cursor h.at))

pub returns-then-not-can_find-clause-session : goal.returns-then-not-can_find-clause-session
returns-then-not-can_find-clause-session boxes c = λ x s h.
    let what = c.args.sought.now in
    record {
      at = if_not _ x s what c.args.self.now.replay (gone x s c.args.turns (ahead x s c.args.turns what)) (sym (c.if-not-can_find.ensures x s.cursor h.at)) h.at;
      breakpoints = h.breakpoints;
      over = h.over;
    }
