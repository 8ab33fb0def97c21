use Rattle.std.proofs.Common.{◌≡◌, ◌∙◌, ◌-◌, ℕ, sym, ap, Option}
use Rattle.board_model.specs.declared.outcomes.End.{End}
use Rattle.board_run.specs.Running.{end_within}
use Rattle.board_run.proofs.Going.{turns_seen, end_within_is}
use Rattle.board_run.proofs.running.ending.Goals as goal

pub returns-clause-end : goal.returns-clause-end
returns-clause-end boxes c = λ x s st.
    let n = c.args.limit in
    let left : n - c.turns.result ≡ n - s.turn = ap (λ (k : ℕ). n - k) (c.turns.ensures ∙ sym (turns_seen _ x c.args.board.now s st)) in
    c.end_within.ensures.is ∙ ap (end_within c.ended.result) left ∙ ap (λ (o : Option End). end_within o (n - s.turn)) (c.ended.ensures.end x s st) ∙ end_within_is x s (n - s.turn)
