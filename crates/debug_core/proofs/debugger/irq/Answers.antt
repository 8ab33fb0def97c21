use Rattle.std.proofs.Common.{◌∙◌, ℕ, ap}
use Rattle.std.specs.Prelude.{slice_get}
use Rattle.std.specs.Option.{option_map}
use Rattle.task_table.specs.kept.Parts.{line_setup}
use Rattle.debug_core.proofs.Seen.{its_line, no_line, told_line}
use Rattle.debug_core.proofs.debugger.irq.Goals as goal

pub returns-in_default-irq_line : goal.returns-in_default-irq_line
returns-in_default-irq_line boxes c = λ x s st.
    absurd (no_line _ x c.args.board.now s c.args.line st c.requires (c.in_default-irq_line.ensures x s st ∙ ap (λ (k : ℕ). option_map told_line (slice_get s.lines k)) c.from.ensures))

pub returns : goal.returns
returns boxes c = λ x s st.
    its_line x.setup s c.args.line _ (line_setup c.in-Some.owner) (c.in-Some-irq_line.enabled, c.in-Some-irq_line.held) c.asks_at-asks.result c.is_pending.result (c.owners.ensures x s st) c.in-Some.ensures
    (c.in-Some-irq_line.ensures x s st ∙ ap (λ (k : ℕ). option_map told_line (slice_get s.lines k)) c.from.ensures) (c.asks_at-asks.ensures x s st) c.is_pending.ensures
