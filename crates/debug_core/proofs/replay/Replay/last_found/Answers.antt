use Rattle.std.proofs.Common.{◌≡◌, ◌-◌, ◌<◌, subst, arith}
use Rattle.board_core.specs.Data.{boxed}
use Rattle.board_core.specs.Stands.{turns_of}
use Rattle.debug_core.specs.Searches.{IsLastFound}
use Rattle.debug_core.specs.Times.{IsAt}
use Rattle.debug_core.proofs.Ahead.{goes_at}
use Rattle.debug_core.proofs.Finding.{last_first, last_now, last_stays}
use Rattle.debug_core.proofs.replay.Replay.last_found.Goals as goal

pub stretches-init : goal.stretches-init
stretches-init boxes c = λ x turn h le there. last_first _ x c.args.sought.now turn c.args.to c.args.self.now h le

pub advance_for-requires-clause-from : goal.advance_for-requires-clause-from
advance_for-requires-clause-from boxes c =
    let r = c.requires.from in
    let i = c.stretches.invariant r.0 r.1 r.2 r.3 r.4 in
    let k = turns_of c.stretches.self.board in
    let lt : k < c.args.to = omega (arith, c.turns.ensures, c.stretches-test.true) in
    (r.0, k, i.until.at, goes_at r.0 i.until.at.start k c.args.to r.4 lt)

pub stretches-smaller : goal.stretches-smaller
stretches-smaller boxes c =
    let less : c.args.to - turns_of c.advance_for.new.self.board < c.args.to - turns_of c.stretches.self.board = omega (arith, c.advance_for.ensures.more, c.turns.ensures, c.stretches-test.true) in
    less

pub stretches-preserved : goal.stretches-preserved
stretches-preserved boxes c = λ x turn h le there.
    let i = c.stretches.invariant x turn h le there in
    let k = turns_of c.stretches.self.board in
    let lt : k < c.args.to = omega (arith, c.turns.ensures, c.stretches-test.true) in
    let went = c.in_default.ensures.went x k i.until.at (goes_at x i.until.at.start k c.args.to there lt) in
    last_stays _ x c.args.sought.now turn c.args.to c.stretches.self c.advance_for.new.self c.stretches.last i went c.advance_for.ensures.within

pub stretches-preserved-in-Some : goal.stretches-preserved-in-Some
stretches-preserved-in-Some boxes c = λ x turn h le there.
    let i = c.stretches.invariant x turn h le there in
    let k = turns_of c.stretches.self.board in
    let lt : k < c.args.to = omega (arith, c.turns.ensures, c.stretches-test.true) in
    let went = c.in-Some.ensures.went x k i.until.at (goes_at x i.until.at.start k c.args.to there lt) in
    let now : c.turns-turn.result - 1 ≡ turns_of c.advance_for.new.self.board - 1 = omega (arith, c.turns-turn.ensures) in
    last_now _ x c.args.sought.now turn c.args.to c.stretches.self c.advance_for.new.self (c.turns-turn.result - 1) c.stretches.last c.in-Some.answer i went c.advance_for.ensures.within now

pub returns-clause-at : goal.returns-clause-at
returns-clause-at boxes c = λ x turn h le there.
    let shown = boxed (λ p. (goal.Device-dyn boxes p).shown p.1) in
    let i = c.stretches.invariant x turn h le there in
    let same : turns_of c.stretches.self.board ≡ c.args.to = omega (arith, c.turns.ensures, c.stretches-test.false, i.until.within) in
    subst (λ n. IsAt shown x c.stretches.self n) same i.until.at

pub returns-clause-last : goal.returns-clause-last
returns-clause-last boxes c = λ x turn h le there.
    let i = c.stretches.invariant x turn h le there in
    let same : turns_of c.stretches.self.board ≡ c.args.to = omega (arith, c.turns.ensures, c.stretches-test.false, i.until.within) in
    subst (λ n. IsLastFound x c.args.sought.now turn n c.stretches.last) same i.is
