use Rattle.std.proofs.Common.{◌∙◌}
use Rattle.debug_core.specs.declared.answer.Answer.TheVariants.{At}
use Rattle.debug_core.specs.Runs.{state_at}
use Rattle.debug_core.proofs.Ahead.{same_now}
use Rattle.debug_core.proofs.Standing.{turns_at}
use Rattle.debug_core.proofs.debugger.here.Goals as goal

pub ending-requires : goal.ending-requires
ending-requires boxes c = (c.requires.0, c.requires.1, c.requires.2, c.requires.2.most)

pub returns : goal.returns
returns boxes c = λ x turn h.
    let turns = c.turns.ensures ∙ turns_at _ x c.args.replay.now turn h in
    let now = c.now.ensures x h.state.0 h.state.1 ∙ same_now h.state.0 (state_at x turn) h.state.2 in
    let end = c.ending.ensures.end x turn h h.most in
    λ i. At (turns i) (now i) (end i)
