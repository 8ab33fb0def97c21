use Rattle.std.proofs.Common.{◌∙◌, ◌-◌, ◌≤◌, ◌<◌, not, ap, arith}
use Rattle.board_core.specs.Stands.{turns_of}
use Rattle.debug_core.specs.Runs.{state_at}
use Rattle.debug_core.proofs.Ahead.{makes}
use Rattle.debug_core.proofs.Standing.{turns_at, until_end, until_first}
use Rattle.debug_core.proofs.replay.Replay.go_to.Goals as goal

pub stretches-init : goal.stretches-init
stretches-init boxes c = λ x turn h le. until_first _ x c.args.self.now turn c.args.to h le

pub ending-requires : goal.ending-requires
ending-requires boxes c =
    let r = c.requires.from in
    let i = c.stretches.invariant r.0 r.1 r.2 r.3 in
    (r.0, turns_of c.stretches.self.board, i.at, i.within)

pub run_to-requires-clause-from : goal.run_to-requires-clause-from
run_to-requires-clause-from boxes c =
    let r = c.requires.from in
    let i = c.stretches.invariant r.0 r.1 r.2 r.3 in
    let on = c.stop_before-stop.ensures.on in
    (r.0, turns_of c.stretches.self.board, i.at, omega (arith, on, c.turns.ensures))

pub keep-requires : goal.keep-requires
keep-requires boxes c =
    let r = c.requires.from in
    let i = c.stretches.invariant r.0 r.1 r.2 r.3 in
    let on = c.stop_before-stop.ensures.on in
    (r.0, (state_at r.0 c.stop_before-stop.result).turn, c.run_to.ensures.at r.0 (turns_of c.stretches.self.board) i.at (omega (arith, on, c.turns.ensures)))

pub stretches-smaller : goal.stretches-smaller
stretches-smaller boxes c =
    let r = c.requires.from in
    let i = c.stretches.invariant r.0 r.1 r.2 r.3 in
    let k = turns_of c.stretches.self.board in
    let stop = c.stop_before-stop.result in
    let lt : k < stop = omega (arith, c.stop_before-stop.ensures.on, c.turns.ensures) in
    let none = c.is_none.ensures ∙ ap not c.stretches-test.true in
    let there = turns_at _ r.0 c.run_to.new.self (state_at r.0 stop).turn (c.run_to.ensures.at r.0 k i.at (omega arith)) in
    let more = makes r.0 i.at.start k stop i.at.reached lt (c.ending.ensures.goes none r.0 k i.at) in
    let less : c.args.to - turns_of c.keep.new.self.board < c.args.to - k = omega (arith, c.keep.ensures.turns, there, more, c.ending.ensures.left none) in
    less

pub stretches-preserved : goal.stretches-preserved
stretches-preserved boxes c = λ x turn h le.
    let i = c.stretches.invariant x turn h le in
    let k = turns_of c.stretches.self.board in
    let stop = c.stop_before-stop.result in
    let lt : k < stop = omega (arith, c.stop_before-stop.ensures.on, c.turns.ensures) in
    let at = c.run_to.ensures.at x k i.at (omega arith) in
    let there = turns_at _ x c.run_to.new.self (state_at x stop).turn at in
    let within : (state_at x stop).turn ≤ c.args.to = omega (arith, there, c.run_to.ensures.within, c.stop_before-stop.ensures.within) in
    until_first _ x c.keep.new.self (state_at x stop).turn c.args.to (c.keep.ensures.at x (state_at x stop).turn at) within

pub returns : goal.returns
returns boxes c = λ x turn h le.
    let i = c.stretches.invariant x turn h le in
    until_end _ x c.stretches.self c.args.to c.ending.result i (c.is_none.ensures ∙ ap not c.stretches-test.false) (c.ending.ensures.end x (turns_of c.stretches.self.board) i.at i.within)
