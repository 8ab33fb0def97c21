use Rattle.std.proofs.Common.{◌≡◌, ◌∙◌, ℕ, suc, ◌+◌, ◌<◌, List, subst, arith}
use Rattle.kernel_abi.specs.declared.Note.{Note}
use Rattle.outside_io.specs.Outside.{Pushes}
use Rattle.board_model.specs.declared.outcomes.Level.TheVariants.{All}
use Rattle.board_model.specs.Run.{at_turn as notes_at}
use Rattle.board_model.specs.Turn.{turn}
use Rattle.board_core.specs.Data.{boxed}
use Rattle.trace_text.specs.Lines.{notes_text}
use Rattle.debug_core.specs.Answers.{told_before}
use Rattle.debug_core.specs.Runs.{state_at}
use Rattle.debug_core.specs.Times.{IsAt}
use Rattle.debug_core.proofs.Onward.{goes_on}
use Rattle.debug_core.proofs.Standing.{turns_at}
use Rattle.debug_core.proofs.debugger.Debugger.push_notes.Goals as goal

pub back_to-requires : goal.back_to-requires
back_to-requires boxes c =
    let r = c.requires in
    let here = turns_at _ r.0 c.args.self.now.replay r.1.cursor r.2.at in
    (r.0, r.1.cursor, r.2.at, omega (arith, here, c.turns.ensures, c.in-Some.ensures.0, c.in-Some.ensures.1))

pub make_turn-requires : goal.make_turn-requires
make_turn-requires boxes c =
    let r = c.requires in
    let h = r.2.at in
    let most = h.most in
    let here = turns_at _ r.0 c.args.self.now.replay r.1.cursor h in
    let lt : c.in-Some.turn < r.1.cursor = omega (arith, here, c.turns.ensures, c.in-Some.ensures.0, c.in-Some.ensures.1) in
    (r.0, c.in-Some.turn, c.back_to.ensures r.0 r.1.cursor h (omega arith), goes_on r.0 h.start r.1.cursor c.in-Some.turn h.reached lt, omega arith)

pub returns-in-None-clause-told : goal.returns-in-None-clause-told
returns-in-None-clause-told boxes c = λ x s h.
    let here = turns_at _ x c.args.self.now.replay s.cursor h.at in
    let zeroth : 0 ≡ s.cursor = omega (arith, here, c.turns.ensures, c.in-None.ensures) in
    subst (λ (n : ℕ). Pushes (boxes.S.Sink.seen c.args.out.now).written (boxes.S.Sink.seen c.push_answer.new.out).written (told_before x n) c.push_answer.result) zeroth c.push_answer.ensures.bytes

pub returns-in-Some-clause-told : goal.returns-in-Some-clause-told
returns-in-Some-clause-told boxes c = λ x s h.
    let k = c.in-Some.turn in
    let here = turns_at _ x c.args.self.now.replay s.cursor h.at in
    let next : suc k ≡ s.cursor = omega (arith, here, c.turns.ensures, c.in-Some.ensures.0, c.in-Some.ensures.1) in
    let at = c.back_to.ensures x s.cursor h.at (omega arith) in
    let notes : c.notes.result.now ≡ (turn All x (state_at x k)).notes = c.notes.ensures ∙ c.make_turn.ensures.notes x k at in
    subst (λ (n : ℕ). Pushes (boxes.S.Sink.seen c.args.out.now).written (boxes.S.Sink.seen c.push_notes.new.out).written (told_before x n) c.push_notes.result) next
    (subst (λ (ns : List Note). Pushes (boxes.S.Sink.seen c.args.out.now).written (boxes.S.Sink.seen c.push_notes.new.out).written (notes_text (notes_at k ns)) c.push_notes.result) notes c.push_notes.ensures.bytes)

pub returns-in-Some-clause-session : goal.returns-in-Some-clause-session
returns-in-Some-clause-session boxes c = λ x s h.
    let shown = boxed (λ p. (goal.Device-dyn boxes p).shown p.1) in
    let k = c.in-Some.turn in
    let most = h.at.most in
    let here = turns_at _ x c.args.self.now.replay s.cursor h.at in
    let lt : k < s.cursor = omega (arith, here, c.turns.ensures, c.in-Some.ensures.0, c.in-Some.ensures.1) in
    let next : k + 1 ≡ s.cursor = omega (arith, here, c.turns.ensures, c.in-Some.ensures.0, c.in-Some.ensures.1) in
    let at = c.back_to.ensures x s.cursor h.at (omega arith) in
    let on = goes_on x h.at.start s.cursor k h.at.reached lt in
    record { at = subst (λ n. IsAt shown x c.make_turn.new.self n) next (c.make_turn.ensures.at x k at on (omega arith)); breakpoints = h.breakpoints; over = h.over }
