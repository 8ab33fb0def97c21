use Rattle.std.proofs.Common.{◌≡◌, ◌∙◌, ◌+◌, ap, sym, subst, arith}
use Rattle.std.specs.Prelude.{min}
use Rattle.board_core.specs.Data.{boxed}
use Rattle.debug_core.specs.Runs.{most_turns, state_at}
use Rattle.debug_core.specs.Times.{IsAt}
use Rattle.debug_core.proofs.Ahead.{reaches}
use Rattle.debug_core.proofs.Standing.{turns_at}
use Rattle.debug_core.proofs.debugger.to_turn.Goals as goal

pub back_to-requires : goal.back_to-requires
back_to-requires boxes c =
    let r = c.requires.from in
    let here = turns_at _ r.0 c.args.replay.now r.1 r.2 in
    (r.0, r.1, r.2, omega (arith, here, c.turns.ensures, c.if-turn-turns.true))

pub go_to-requires-clause-from : goal.go_to-requires-clause-from
go_to-requires-clause-from boxes c =
    let r = c.requires.from in
    let here = turns_at _ r.0 c.args.replay.now r.1 r.2 in
    (r.0, r.1, r.2, omega (arith, here, c.turns.ensures, c.if-turn-turns.false))

pub returns-then-turn-turns : goal.returns-then-turn-turns
returns-then-turn-turns boxes c = λ x cursor h.
    let shown = boxed (λ p. (goal.Device-dyn boxes p).shown p.1) in
    let here = turns_at _ x c.args.replay.now cursor h in
    let few = c.requires.few in
    let same : c.args.turn ≡ min (0 + c.args.turn) most_turns = omega arith in
    let there = reaches x h.start cursor c.args.turn h.reached (omega (arith, here, c.turns.ensures, c.if-turn-turns.true)) in
    subst (λ n. IsAt shown x c.back_to.new.self n) (sym there ∙ ap (λ n. (state_at x n).turn) same) (c.back_to.ensures x cursor h (omega (arith, here, c.turns.ensures, c.if-turn-turns.true)))

pub returns-else-turn-turns : goal.returns-else-turn-turns
returns-else-turn-turns boxes c = λ x cursor h.
    let shown = boxed (λ p. (goal.Device-dyn boxes p).shown p.1) in
    let here = turns_at _ x c.args.replay.now cursor h in
    let few = c.requires.few in
    let same : c.args.turn ≡ min (0 + c.args.turn) most_turns = omega arith in
    subst (λ n. IsAt shown x c.go_to.new.self (state_at x n).turn) same (c.go_to.ensures x cursor h (omega (arith, here, c.turns.ensures, c.if-turn-turns.false)))
