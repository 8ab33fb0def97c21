use Rattle.std.proofs.Common.{◌∙◌, ◌+◌, ◌-◌, ◌<◌, not, sym, ap, arith}
use Rattle.board_core.specs.Stands.{turns_of}
use Rattle.debug_core.specs.Searched.{is_found}
use Rattle.debug_core.proofs.Finding.{kept_for, none_found, one_found, unfound_more}
use Rattle.debug_core.proofs.Passing.{passed_first}
use Rattle.debug_core.proofs.replay.Replay.go_for.Goals as goal

pub stretches-init : goal.stretches-init
stretches-init boxes c = λ x turn h le. passed_first _ x (is_found x c.args.sought.now) turn c.args.to c.args.self.now h le

pub ending-requires : goal.ending-requires
ending-requires boxes c =
    let r = c.requires.from in
    let i = c.stretches.invariant r.0 r.1 r.2 r.3 in
    (r.0, turns_of c.stretches.self.board, i.at, i.within)

pub advance_for-found-requires-clause-from : goal.advance_for-found-requires-clause-from
advance_for-found-requires-clause-from boxes c =
    let r = c.requires.from in
    let i = c.stretches.invariant r.0 r.1 r.2 r.3 in
    let none = c.is_none.ensures ∙ ap not c.stretches-test.true in
    let k = turns_of c.stretches.self.board in
    (r.0, k, i.at, c.ending.ensures.goes none r.0 k i.at)

pub keep-requires : goal.keep-requires
keep-requires boxes c =
    let r = c.requires.from in
    let i = c.stretches.invariant r.0 r.1 r.2 r.3 in
    let none = c.is_none.ensures ∙ ap not c.stretches-test.true in
    let k = turns_of c.stretches.self.board in
    let w = c.advance_for-found.ensures.went r.0 k i.at (c.ending.ensures.goes none r.0 k i.at) in
    (r.0, w.last + 1, w.at)

pub stretches-smaller : goal.stretches-smaller
stretches-smaller boxes c =
    let none = c.is_none.ensures ∙ ap not c.stretches-test.true in
    let less : c.args.to - turns_of c.keep.new.self.board < c.args.to - turns_of c.stretches.self.board = omega (arith, c.keep.ensures.turns, c.advance_for-found.ensures.more, c.ending.ensures.left none) in
    less

pub stretches-preserved : goal.stretches-preserved
stretches-preserved boxes c = λ x turn h le.
    let i = c.stretches.invariant x turn h le in
    let none = c.is_none.ensures ∙ ap not c.stretches-test.true in
    let k = turns_of c.stretches.self.board in
    let went = c.advance_for-found.ensures.went x k i.at (c.ending.ensures.goes none x k i.at) in
    let kept = kept_for _ x c.args.sought.now c.advance_for-found.new.self c.keep.new.self k c.advance_for-found.result went (c.keep.ensures.at x) in
    unfound_more _ x c.args.sought.now turn c.args.to c.stretches.self c.keep.new.self c.advance_for-found.result i kept (sym c.is_some.ensures ∙ c.if-is_some.false)
    (omega (arith, c.keep.ensures.turns, c.advance_for-found.ensures.within, c.stop_before-stop.ensures.within))

pub returns-then-is_some : goal.returns-then-is_some
returns-then-is_some boxes c = λ x turn h le.
    let i = c.stretches.invariant x turn h le in
    let none = c.is_none.ensures ∙ ap not c.stretches-test.true in
    let k = turns_of c.stretches.self.board in
    let went = c.advance_for-found.ensures.went x k i.at (c.ending.ensures.goes none x k i.at) in
    let kept = kept_for _ x c.args.sought.now c.advance_for-found.new.self c.keep.new.self k c.advance_for-found.result went (c.keep.ensures.at x) in
    one_found _ x c.args.sought.now turn c.args.to c.stretches.self c.keep.new.self c.advance_for-found.result i kept (sym c.is_some.ensures ∙ c.if-is_some.true)
    (omega (arith, c.keep.ensures.turns, c.advance_for-found.ensures.within, c.stop_before-stop.ensures.within))

pub returns : goal.returns
returns boxes c = λ x turn h le.
    let i = c.stretches.invariant x turn h le in
    none_found _ x c.args.sought.now turn c.args.to c.stretches.self c.ending.result i (c.is_none.ensures ∙ ap not c.stretches-test.false) (c.ending.ensures.end x (turns_of c.stretches.self.board) i.at i.within)
