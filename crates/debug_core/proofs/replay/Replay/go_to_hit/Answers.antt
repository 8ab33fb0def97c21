use Rattle.std.proofs.Common.{◌∙◌, ◌-◌, ◌<◌, not, ap, arith}
use Rattle.board_core.specs.Stands.{turns_of}
use Rattle.debug_core.proofs.Hitting.{none_went, one_hit, ran_hit}
use Rattle.debug_core.proofs.Passing.{none_passed, passed_first, passed_more}
use Rattle.debug_core.proofs.replay.Replay.go_to_hit.Goals as goal

pub stretches-init : goal.stretches-init
stretches-init boxes c = λ x turn h le. passed_first _ x (ran_hit x c.args.breakpoints.now) turn c.args.to c.args.self.now h le

pub ending-requires : goal.ending-requires
ending-requires boxes c =
    let r = c.requires.from in
    let i = c.stretches.invariant r.0 r.1 r.2 r.3 in
    (r.0, turns_of c.stretches.self.board, i.at, i.within)

pub advance_past-requires-clause-from : goal.advance_past-requires-clause-from
advance_past-requires-clause-from boxes c =
    let r = c.requires.from in
    let i = c.stretches.invariant r.0 r.1 r.2 r.3 in
    let none = c.is_none.ensures ∙ ap not c.stretches-test.true in
    let k = turns_of c.stretches.self.board in
    (r.0, k, i.at, c.ending.ensures.goes none r.0 k i.at)

pub stretches-smaller : goal.stretches-smaller
stretches-smaller boxes c =
    let none = c.is_none.ensures ∙ ap not c.stretches-test.true in
    let less : c.args.to - turns_of c.advance_past.new.self.board < c.args.to - turns_of c.stretches.self.board = omega (arith, c.advance_past.ensures.more, c.ending.ensures.left none) in
    less

pub stretches-preserved : goal.stretches-preserved
stretches-preserved boxes c = λ x turn h le.
    let i = c.stretches.invariant x turn h le in
    let none = c.is_none.ensures ∙ ap not c.stretches-test.true in
    let k = turns_of c.stretches.self.board in
    let went = c.in_default.ensures.went x k i.at (c.ending.ensures.goes none x k i.at) in
    passed_more _ x (ran_hit x c.args.breakpoints.now) turn c.args.to c.stretches.self c.advance_past.new.self i (none_went _ x c.args.breakpoints.now k c.advance_past.new.self went) (omega (arith, c.advance_past.ensures.within, c.stop_before-stop.ensures.within))

pub returns-in-Some : goal.returns-in-Some
returns-in-Some boxes c = λ x turn h le.
    let i = c.stretches.invariant x turn h le in
    let none = c.is_none.ensures ∙ ap not c.stretches-test.true in
    let k = turns_of c.stretches.self.board in
    let went = c.in-Some.ensures.went x k i.at (c.ending.ensures.goes none x k i.at) in
    one_hit _ x c.args.breakpoints.now turn c.args.to c.stretches.self c.advance_past.new.self c.in-Some.hit i went (omega (arith, c.advance_past.ensures.within, c.stop_before-stop.ensures.within))

pub returns : goal.returns
returns boxes c = λ x turn h le.
    let i = c.stretches.invariant x turn h le in
    none_passed _ x (ran_hit x c.args.breakpoints.now) turn c.args.to c.stretches.self c.ending.result i (c.is_none.ensures ∙ ap not c.stretches-test.false) (c.ending.ensures.end x (turns_of c.stretches.self.board) i.at i.within)
