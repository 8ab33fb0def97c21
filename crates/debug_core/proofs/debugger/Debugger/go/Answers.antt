use Rattle.std.proofs.Common.{◌∙◌, ◌+◌, sym, ap, arith}
use Rattle.debug_core.specs.Answers.{gone_to}
use Rattle.debug_core.specs.Runs.{forward}
use Rattle.debug_core.proofs.Gone.{at_end, at_gone, at_hit, none_from, told_hit}
use Rattle.debug_core.proofs.Standing.{turns_at}
use Rattle.debug_core.proofs.debugger.Debugger.go.Goals as goal

pub go_to_hit-requires-clause-from : goal.go_to_hit-requires-clause-from
go_to_hit-requires-clause-from boxes c =
    let r = c.requires in
    let most = r.2.at.most in
    (r.0, r.1.cursor, r.2.at, omega (arith, c.limit-to.ensures.limit r.0 r.1 r.2))

pub here-requires : goal.here-requires
here-requires boxes c =
    let r = c.requires in
    let h = r.2 in
    let most = h.at.most in
    let is = c.limit-to.ensures.limit r.0 r.1 h in
    let came = c.in-None.ensures r.0 r.1.cursor h.at (omega arith) in
    (r.0, forward r.0 r.1.cursor c.args.turns, at_end _ r.0 r.1 c.args.turns c.limit-to.result _ is (c.as_slice.ensures.value ∙ h.breakpoints) c.go_to_hit.new.self came)

pub returns-in-None-clause-answer : goal.returns-in-None-clause-answer
returns-in-None-clause-answer boxes c = λ x s h.
    let most = h.at.most in
    let is = c.limit-to.ensures.limit x s h in
    let same = c.as_slice.ensures.value ∙ h.breakpoints in
    let came = c.in-None.ensures x s.cursor h.at (omega arith) in
    c.here.ensures x (forward x s.cursor c.args.turns) (at_end _ x s c.args.turns c.limit-to.result _ is same c.go_to_hit.new.self came)
    ∙ ap (gone_to x s c.args.turns) (sym (none_from _ x s c.args.turns c.limit-to.result _ is same c.go_to_hit.new.self came))

pub returns-in-None-clause-session : goal.returns-in-None-clause-session
returns-in-None-clause-session boxes c = λ x s h.
    let most = h.at.most in
    let is = c.limit-to.ensures.limit x s h in
    let came = c.in-None.ensures x s.cursor h.at (omega arith) in
    record {
      at = at_gone _ x s c.args.turns c.limit-to.result _ is (c.as_slice.ensures.value ∙ h.breakpoints) c.go_to_hit.new.self came;
      breakpoints = h.breakpoints;
      over = h.over;
    }

pub returns-in-Some-clause-answer : goal.returns-in-Some-clause-answer
returns-in-Some-clause-answer boxes c = λ x s h.
    let most = h.at.most in
    let is = c.limit-to.ensures.limit x s h in
    let came = c.in-Some.ensures x s.cursor h.at (omega arith) in
    let there = turns_at _ x c.go_to_hit.new.self (came.0 + 1) came.1 in
    told_hit _ x s c.args.turns c.limit-to.result _ is (c.as_slice.ensures.value ∙ h.breakpoints) c.go_to_hit.new.self _ c.turns.result came (c.turns.ensures ∙ there)

pub returns-in-Some-clause-session : goal.returns-in-Some-clause-session
returns-in-Some-clause-session boxes c = λ x s h.
    let most = h.at.most in
    let is = c.limit-to.ensures.limit x s h in
    let came = c.in-Some.ensures x s.cursor h.at (omega arith) in
    record {
      at = at_hit _ x s c.args.turns c.limit-to.result _ is (c.as_slice.ensures.value ∙ h.breakpoints) c.go_to_hit.new.self _ came;
      breakpoints = h.breakpoints;
      over = h.over;
    }
